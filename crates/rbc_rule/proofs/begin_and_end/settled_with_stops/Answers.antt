use Rattle.std.proofs.Common.{rules, ◌∷◌, [], ◌++◌, length, flat_map, Some, refl, ap, ◌∙◌}
use Rattle.rbc_records.specs.declared.record.Key.TheVariants as key
use Rattle.rbc_records.specs.declared.record.Rec.TheVariants as rec
use Rattle.rbc_rule.specs.declared.outcome.Reply.TheVariants.{Done}
use Rattle.rbc_rule.specs.Gathered.{write_at, sent_at}
use Rattle.rbc_rule.proofs.Begun.{stop_changed, stop_released}
use Rattle.rbc_rule.proofs.begin_and_end.settled_with_stops.Goals as goal

pub settle_trains-requires-clause-enrolled : goal.settle_trains-requires-clause-enrolled
settle_trains-requires-clause-enrolled g c = λ w m. (c.requires.enough w m).enrolled

pub returns : goal.returns
returns g c = record {
  outcome = λ w m.
      let plan = c.args.track.now in
      let new = c.args.stops in
      let enough = c.requires.enough w m in
      let changed = stop_changed c.args.number c.get.result w new w.limits c.get.ensures (c.requires.changed w m) refl in
      let released = stop_released c.args.number c.get.result new c.get.ensures in
      let writes = c.in_ok-gathered.ensures.writes w new w.limits m changed ∙ (λ i. flat_map (write_at plan new w.limits (released i) w.trains) c.args.engines.now) ∙ enough.writes in
      let messages = c.from_vec-messages.ensures ∙ c.in_ok-gathered.ensures.messages w new w.limits m changed ∙ (λ i. flat_map (sent_at plan new w.limits (released i) w.trains) c.args.engines.now) ∙ enough.sent in
      let more = c.in_ok-set.ensures.ok ∙ ap (λ ws. ws ++ (key.Stops, Some (rec.Stops new)) ∷ []) writes in
      c.done.ensures.outcome ∙ (λ i. record { result = Done (length (messages i)); writes = more i; messages = messages i });
  refused = c.done.ensures.silent;
  fit = search rules;
  fault = tt;
}
