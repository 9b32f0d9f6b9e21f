use Rattle.std.proofs.Common.{◌≡◌, ◌++◌, ℕ, Bool, true, false, cond, List, [], ◌∷◌, Some, Result, Ok, Err, length, fold, refl, sym, ap, ◌∙◌}
use Rattle.std.specs.Prelude.{OnErr}
use Rattle.std.specs.List.{scan}
use Rattle.rbc_maps.specs.Maps.{value_of}
use Rattle.rbc_settle.specs.declared.train.TrainRec.{TrainRec}
use Rattle.rbc_settle.specs.Actions.{Action}
use Rattle.rbc_settle.specs.Settling.{actions_with_stamp, settled, messages_of, carried_out, message_of, to_engine}
use Rattle.rbc_records.specs.declared.record.Key.{Key}
use Rattle.rbc_records.specs.declared.record.Key.TheVariants as key
use Rattle.rbc_records.specs.declared.record.Rec.{Rec}
use Rattle.rbc_records.specs.declared.record.Rec.TheVariants as rec
use Rattle.rbc_records.specs.Notes.{record_in, same_key}
use Rattle.rbc_records.specs.Writes.{write_over}
use Rattle.rbc_records.proofs.Keys.{same_key_own, same_key_is}
use Rattle.rbc_rule.specs.declared.outcome.Outcome.{Outcome}
use Rattle.rbc_rule.specs.declared.outcome.Reply.TheVariants.{Done}
use Rattle.rbc_rule.specs.Effect.{engine_of}
use Rattle.rbc_rule.specs.Records.{list_of}
use Rattle.rbc_rule.specs.Lists.{moves}
use Rattle.rbc_rule.specs.InPlace.{AreSame}
use Rattle.rbc_rule.proofs.InPlace.{train_found, unknown_heard, unmoved}
use Rattle.rbc_rule.proofs.OneTrain.{receive_right}
use Rattle.rbc_rule.proofs.in_place.move_in_place.Goals as goal

-- what was written over is as before once the old record is written back
back : (old middle new : List (Key × Rec)) (under : Key) (before after : Rec) → record_in old under ≡ Some before
    → ((k : Key) → record_in middle k ≡ write_over (under, Some after) (record_in old) k)
    → ((k : Key) → record_in new k ≡ write_over (under, Some before) (record_in middle) k) → AreSame old new
back old middle new under before after there first second k = second k ∙ by (same_key k under) refl
  where
    by : (b : Bool) → same_key k under ≡ b → cond b (Some before) (record_in middle k) ≡ record_in old k
    by true is = sym (ap (λ (q : Key). record_in old q) (same_key_is k under is) ∙ there)
    by false is = first k ∙ ap (λ (b : Bool). cond b (Some after) (record_in old k)) is

on_each_err : {T E : Type 0} (r : Result T E) {P : Type 0} → P → OnErr r P
on_each_err (Ok t) p = tt
on_each_err (Err e) p = p

pub returns-in_default-clause-heard : goal.returns-in_default-clause-heard
returns-in_default-clause-heard c =
    unknown_heard c.args.track.now c.args.message.now c.args.store.now c.engine_of-engine.result c.unknown_train.result c.engine_of-engine.ensures (c.train_in.ensures.none c.in_default.is) c.unknown_train.ensures

pub returns-in-Ok-true-clause-heard : goal.returns-in-Ok-true-clause-heard
returns-in-Ok-true-clause-heard c =
    let plan = c.args.track.now in
    let message = c.args.message.now in
    let before = c.in-Some.before.now in
    let after = record before { place = c.in-Some-moved.place; stamp = c.in-Some-moved.stamp } in
    let engine = c.engine_of-engine.result in
    let engine_is : engine ≡ engine_of message = c.engine_of-engine.ensures in
    let moved = c.move_train.ensures before c.in-Some.ensures.found in
    let there : record_in c.move_train.new.self (key.Train engine) ≡ Some (rec.Train after) =
    moved (key.Train engine) ∙ ap (λ (b : Bool). cond b (Some (rec.Train after)) (record_in c.args.store.now (key.Train engine))) (same_key_own (key.Train engine)) in
    record {
      writes = (key.Train (engine_of message), Some (rec.Train after)) ∷ [];
      records = λ k. moved k ∙ (λ i. cond (same_key k (key.Train (engine_is i))) (Some (rec.Train after)) (record_in c.args.store.now k));
      step = λ w m.
          let found : Some before ≡ value_of w.trains (engine_of message) = train_found before (value_of w.trains engine) (sym c.in-Some.ensures.found ∙ m.agrees (key.Train engine) refl) ∙ ap (value_of w.trains) engine_is in
          let none : actions_with_stamp plan w.stops w.limits after ≡ [] =
          c.in-Ok-true.ensures c.in-Ok-true.field-0-test w after m.well_formed (moved key.Stops ∙ m.agrees key.Stops refl) (moved key.Limits ∙ m.agrees key.Limits refl) there in
          let sent : [] ≡ messages_of plan w.stops w.limits after = sym (ap (λ (acts : List Action). scan carried_out message_of after acts) none) in
          let same : after ≡ settled plan w.stops w.limits after = sym (ap (λ (acts : List Action). fold carried_out after acts) none) in
          let list : same_key (list_of before) (list_of after) ≡ true = ap (λ (k : Key). same_key (list_of before) k) c.in-Some-moved.ensures.list ∙ same_key_own (list_of before) in
          let outcome : Outcome = record { result = Done 0; writes = (key.Train (engine_of message), Some (rec.Train after)) ∷ []; messages = [] } in
          let none_moved : [] ≡ moves w (engine_of message) (list_of before) (list_of after) = unmoved w (engine_of message) (list_of before) (list_of after) list in
          receive_right plan message w before found after outcome (sym c.in-Some-moved.ensures.heard)
          (λ i. record {
            result = Done (length (sent i));
            writes = none_moved i ++ (key.Train (engine_of message), Some (rec.Train (same i))) ∷ [];
            messages = to_engine after.engine (sent i);
          })
          m.well_formed;
    }

-- the record is put back
put_back : (old middle new : List (Key × Rec)) (engine : ℕ) (before after : TrainRec) → record_in old (key.Train engine) ≡ Some (rec.Train before)
    → ((k : Key) → record_in middle k ≡ write_over (key.Train engine, Some (rec.Train after)) (record_in old) k)
    → (record_in middle (key.Train engine) ≡ Some (rec.Train after) → (k : Key) → record_in new k ≡ write_over (key.Train engine, Some (rec.Train before)) (record_in middle) k)
    → AreSame old new
put_back old middle new engine before after was first second =
    let under = key.Train engine in
    let there : record_in middle under ≡ Some (rec.Train after) = first under ∙ ap (λ (b : Bool). cond b (Some (rec.Train after)) (record_in old under)) (same_key_own under) in
    back old middle new under (rec.Train before) (rec.Train after) was first (second there)

pub returns-in_err-settled-clause-err : goal.returns-in_err-settled-clause-err
returns-in_err-settled-clause-err c =
    let before = c.in-Some.before.now in
    let after = record before { place = c.in-Some-moved.place; stamp = c.in-Some-moved.stamp } in
    on_each_err _ (put_back c.args.store.now c.move_train.new.self c.move_train-2.new.self c.engine_of-engine.result before after c.in-Some.ensures.found
    (c.move_train.ensures before c.in-Some.ensures.found) (c.move_train-2.ensures after))

pub returns-clause-same : goal.returns-clause-same
returns-clause-same c none =
    let before = c.in-Some.before.now in
    let after = record before { place = c.in-Some-moved.place; stamp = c.in-Some-moved.stamp } in
    put_back c.args.store.now c.move_train.new.self c.move_train-2.new.self c.engine_of-engine.result before after c.in-Some.ensures.found
    (c.move_train.ensures before c.in-Some.ensures.found) (c.move_train-2.ensures after)
