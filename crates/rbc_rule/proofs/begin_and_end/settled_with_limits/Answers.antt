use Rattle.std.proofs.Common.{rules, ◌∷◌, [], ◌++◌, length, Some, refl, ap, ◌∙◌}
use Rattle.rbc_records.specs.declared.record.Key.TheVariants as key
use Rattle.rbc_records.specs.declared.record.Rec.TheVariants as rec
use Rattle.rbc_rule.specs.declared.outcome.Reply.TheVariants.{Done}
use Rattle.rbc_rule.proofs.Begun.{limit_changed}
use Rattle.rbc_rule.proofs.begin_and_end.settled_with_limits.Goals as goal

pub settle_trains-requires-clause-enrolled : goal.settle_trains-requires-clause-enrolled
settle_trains-requires-clause-enrolled g c = λ w m. (c.requires.enough w m).enrolled

pub returns : goal.returns
returns g c = record {
  outcome = λ w m.
      let plan = c.args.track.now in
      let new = c.args.limits in
      let enough = c.requires.enough w m in
      let changed = limit_changed c.args.number c.get.result w w.stops new c.get.ensures (c.requires.changed w m) refl in
      let writes = c.in_ok-gathered.ensures.writes w w.stops new m changed ∙ enough.writes in
      let messages = c.from_vec-messages.ensures ∙ c.in_ok-gathered.ensures.messages w w.stops new m changed ∙ enough.sent in
      let more = c.in_ok-set.ensures.ok ∙ ap (λ ws. ws ++ (key.Limits, Some (rec.Limits new)) ∷ []) writes in
      c.done.ensures.outcome ∙ (λ i. record { result = Done (length (messages i)); writes = more i; messages = messages i });
  refused = c.done.ensures.silent;
  fit = search rules;
  fault = tt;
}
