use Rattle.std.proofs.Common.{◌≡◌, ◌++◌, ◌∷◌, [], List, Option, Some, ap, ◌∙◌}
use Rattle.rbc_settle.specs.Numbers.{with_number}
use Rattle.rbc_settle.specs.Settling.{settled, messages_of, to_engine}
use Rattle.rbc_settle.specs.Trains.{new_train}
use Rattle.rbc_settle.specs.declared.train.TrainRec.{TrainRec}
use Rattle.rbc_settle.proofs.Addressed.{sent_is}
use Rattle.rbc_records.specs.declared.record.Key.{Key}
use Rattle.rbc_records.specs.declared.record.Key.TheVariants as key
use Rattle.rbc_records.specs.declared.record.Rec.{Rec}
use Rattle.rbc_records.specs.declared.record.Rec.TheVariants as rec
use Rattle.rbc_rule.specs.Records.{engines_record}
use Rattle.rbc_rule.proofs.Gathering.{done_is}
use Rattle.rbc_rule.proofs.enrol.enrolled_outcome.Goals as goal

pub returns-clause-outcome : goal.returns-clause-outcome
returns-clause-outcome c =
    let plan = c.args.track.now in
    let stops = c.args.stops.now in
    let limits = c.args.limits.now in
    let train = c.args.train in
    let engine = train.engine in
    let new : TrainRec = new_train train.engine train.length 0 in
    let plain : train ≡ new = c.requires.plain in
    let after : c.settle.new.train ≡ settled plan stops limits new = c.in_ok-sent.ensures.train ∙ ap (settled plan stops limits) plain in
    let roster : Key × Option Rec = (key.Roster, engines_record (with_number engine c.args.engines.now)) in
    let unplaced : Key × Option Rec = (key.Unplaced, engines_record (with_number engine c.args.unplaced.now)) in
    let none = c.new-writes.ensures in
    let first : c.write_with.new.writes ≡ roster ∷ [] = c.in_ok-write_with.ensures ∙ (λ i. none i ++ roster ∷ []) in
    let second : c.set.new.self ≡ roster ∷ (key.Train engine, Some (rec.Train (settled plan stops limits new))) ∷ [] =
    c.in_ok-set.ensures.ok ∙ (λ i. first i ++ (key.Train engine, Some (rec.Train (after i))) ∷ []) in
    let writes : List (Key × Option Rec) = roster ∷ (key.Train engine, Some (rec.Train (settled plan stops limits new))) ∷ unplaced ∷ [] in
    let written : c.write_with-2.new.writes ≡ writes = c.in_ok-write_with-2.ensures ∙ (λ i. second i ++ unplaced ∷ []) in
    let sent : c.from_vec.result ≡ to_engine engine (messages_of plan stops limits new) =
    c.from_vec.ensures
    ∙ sent_is engine (messages_of plan stops limits train) c.in_ok-sent.sent.items c.in_ok-sent.ensures.messages c.in_ok-sent.ensures.engine
    ∙ ap (λ (t : TrainRec). to_engine engine (messages_of plan stops limits t)) plain in
    done_is engine (messages_of plan stops limits new) c.from_vec.result c.write_with-2.new.writes writes c.done.result c.done.ensures.outcome written sent
