use Rattle.std.proofs.Common.{◌≡◌, ◌++◌, ◌∷◌, [], List, Option, Some, subst, sym, ◌∙◌}
use Rattle.rbc_settle.specs.Settling.{settled, messages_of, to_engine}
use Rattle.rbc_settle.proofs.Addressed.{sent_is}
use Rattle.rbc_records.specs.declared.record.Key.{Key}
use Rattle.rbc_records.specs.declared.record.Key.TheVariants as key
use Rattle.rbc_records.specs.declared.record.Rec.{Rec}
use Rattle.rbc_records.specs.declared.record.Rec.TheVariants as rec
use Rattle.rbc_rule.specs.declared.outcome.Outcome.{Outcome}
use Rattle.rbc_rule.specs.declared.outcome.RuleFault.TheVariants.{OutOfMemory}
use Rattle.rbc_rule.specs.Gathered.{AreSendable, heard_outcome}
use Rattle.rbc_rule.proofs.GatherKnown.{extends_on}
use Rattle.rbc_rule.proofs.Deciding.{fault_gives}
use Rattle.rbc_rule.proofs.Gathering.{done_is}
use Rattle.rbc_rule.proofs.receive.received.Goals as goal

pub returns-in_err-stops : goal.returns-in_err-stops
returns-in_err-stops g c =
    let residual = c.from_residual-in_err-stops in
    fault_gives residual.result c.in_err-stops.field-0.0 residual.ensures.1 (c.in_err-stops.ensures.fault c.args.track.now)
    (extends_on c.fetch.ensures.reads.extends c.fetch-2.ensures.reads.extends) (c.in_ok-fetch-2.ensures.reads.failed ∙ c.in_ok-fetch.ensures.reads.failed)

pub returns-in_err-sent : goal.returns-in_err-sent
returns-in_err-sent g c =
    let residual = c.from_residual-in_err-sent in
    fault_gives residual.result OutOfMemory residual.ensures.1 tt
    (extends_on c.fetch.ensures.reads.extends c.fetch-2.ensures.reads.extends) (c.in_ok-fetch-2.ensures.reads.failed ∙ c.in_ok-fetch.ensures.reads.failed)

pub returns-in_err-set : goal.returns-in_err-set
returns-in_err-set g c =
    let residual = c.from_residual-in_err-set in
    fault_gives residual.result OutOfMemory residual.ensures.1 tt
    (extends_on c.fetch.ensures.reads.extends c.fetch-2.ensures.reads.extends) (c.in_ok-fetch-2.ensures.reads.failed ∙ c.in_ok-fetch.ensures.reads.failed)

-- what was read is the world's
pub returns : goal.returns
returns g c =
    let plan = c.args.track.now in
    let stops = c.in_ok-stops.stops.now in
    let limits = c.in_ok-stops.limits.now in
    let train = c.args.train in
    let after = c.in_ok-sent.ensures.train in
    let writes : List (Key × Option Rec) = c.args.moved ++ (key.Train c.args.engine, Some (rec.Train (settled plan stops limits train))) ∷ [] in
    let written : c.set.new.self ≡ writes = c.in_ok-set.ensures.ok ∙ (λ i. c.args.moved ++ (key.Train c.args.engine, Some (rec.Train (after i))) ∷ []) in
    let sent : c.from_vec.result ≡ to_engine train.engine (messages_of plan stops limits train) =
    c.from_vec.ensures ∙ sent_is train.engine (messages_of plan stops limits train) c.in_ok-sent.sent.items c.in_ok-sent.ensures.messages c.in_ok-sent.ensures.engine in
    let done = done_is train.engine (messages_of plan stops limits train) c.from_vec.result c.set.new.self writes c.done.result c.done.ensures.outcome written sent in
    record {
      outcome = λ w m.
          let stops_are = c.in_ok-stops.ensures.stops plan w m in
          let limits_are = c.in_ok-stops.ensures.limits plan w m in
          done ∙ (λ i. heard_outcome plan (stops_are i) (limits_are i) c.args.engine train c.args.moved);
      refused = c.done.ensures.silent;
      fit = subst (λ (o : Outcome). AreSendable o.messages) (sym c.done.ensures.outcome) (subst AreSendable (sym c.from_vec.ensures) c.in_ok-sent.ensures.fit);
      extends = extends_on c.fetch.ensures.reads.extends c.fetch-2.ensures.reads.extends;
      fault = tt;
      failed = c.in_ok-fetch-2.ensures.reads.failed ∙ c.in_ok-fetch.ensures.reads.failed;
    }
