use Rattle.std.proofs.Common.{◌≡◌, true, false, cond, [], ◌∷◌, Option, Some, Ok, Err, refl, sym, ap, ◌∙◌}
use Rattle.std.specs.Prelude.{◌==◌}
use Rattle.std.specs.Option.{option_map_or}
use Rattle.ertms_codec.specs.declared.from_train.FromTrain.{FromTrain}
use Rattle.ertms_codec.specs.declared.from_train.FromTrain.TheVariants.{Ack}
use Rattle.rbc_maps.specs.Maps.{value_of}
use Rattle.rbc_place.specs.Placing.{Place}
use Rattle.rbc_settle.specs.declared.train.TrainRec.{TrainRec}
use Rattle.rbc_records.specs.declared.record.Key.{Key}
use Rattle.rbc_records.specs.declared.record.Key.TheVariants as key
use Rattle.rbc_records.specs.declared.record.Rec.TheVariants as rec
use Rattle.rbc_records.specs.Notes.{record_in, same_key}
use Rattle.rbc_records.proofs.Keys.{same_key_own}
use Rattle.rbc_rule.specs.declared.outcome.Outcome.{Outcome}
use Rattle.rbc_rule.specs.declared.outcome.Reply.TheVariants.{Done}
use Rattle.rbc_rule.specs.declared.refuse.Refusal.TheVariants.{StampTooHigh}
use Rattle.rbc_rule.specs.Codes.{code_of}
use Rattle.rbc_rule.specs.Effect.{unknown_stamp, engine_of, is_too_high, heard, told_by}
use Rattle.rbc_rule.specs.Gathered.{heard_outcome}
use Rattle.rbc_rule.specs.Records.{list_of}
use Rattle.rbc_rule.specs.Touching.{may_be_told}
use Rattle.rbc_rule.proofs.Acknowledging.{noted}
use Rattle.rbc_rule.proofs.InPlace.{train_found, unknown_heard, unmoved, no_room_made, acked_raised, stays_there}
use Rattle.rbc_rule.proofs.OneTrain.{receive_right}
use Rattle.rbc_rule.proofs.in_place.acknowledge_in_place.Goals as goal

pub returns-then-acknowledge-clause-heard : goal.returns-then-acknowledge-clause-heard
returns-then-acknowledge-clause-heard c plan =
    let message = c.args.message.now in
    let before = c.in-Some.before.now in
    let stamp = c.in-Ack.stamp in
    let engine = c.in-Ack.engine in
    let acked = c.in-Ack.acked in
    let taken = c.acknowledge.ensures.acked c.if-acknowledge.true before c.in-Some.ensures.found in
    let after : TrainRec = record taken.after { stamp = c.stamp_after-raised.result } in
    let engine_is : engine ≡ engine_of message = sym (ap engine_of c.in-Ack.is) in
    let low : is_too_high stamp ≡ false = sym c.is_too_high.ensures ∙ c.if-is_too_high.false in
    let heard_is : heard plan message before ≡ Ok after =
    ap (λ (m : FromTrain). heard plan m before) c.in-Ack.is
    ∙ ap (λ b. cond b (Err (code_of StampTooHigh)) (told_by plan (Ack stamp engine acked) before)) low
    ∙ acked_raised before taken.after stamp acked (stamp == unknown_stamp) taken.after_is
    ∙ (λ i. Ok (record taken.after { stamp = sym c.stamp_after-raised.ensures i })) in
    let list : list_of before ≡ list_of after = ap (λ (place : Option Place). option_map_or (λ (p : Place). key.Line p.line) place key.Unplaced) (sym (stays_there before taken.after stamp acked taken.after_is)) in
    let quiet : may_be_told message before after ≡ false = ap (λ (m : FromTrain). may_be_told m before after) c.in-Ack.is ∙ no_room_made before after (sym c.has_room.ensures ∙ c.if-not-has_room.false) in
    let outcome : Outcome = record { result = Done 0; writes = (key.Train (engine_of message), Some (rec.Train after)) ∷ []; messages = [] } in
    record {
      writes = (key.Train (engine_of message), Some (rec.Train after)) ∷ [];
      records = λ k. taken.records k ∙ (λ i. cond (same_key k (key.Train (engine_is i))) (Some (rec.Train after)) (record_in c.args.store.now k));
      step = λ w m.
          let found : Some before ≡ value_of w.trains (engine_of message) = train_found before (value_of w.trains engine) (sym c.in-Some.ensures.found ∙ m.agrees (key.Train engine) refl) ∙ ap (value_of w.trains) engine_is in
          let stays : same_key (list_of before) (list_of after) ≡ true = ap (λ (k : Key). same_key (list_of before) k) (sym list) ∙ same_key_own (list_of before) in
          let made : outcome ≡ heard_outcome plan w.stops w.limits (engine_of message) after [] = noted plan w message (engine_of message) before after m.well_formed found (sym heard_is) quiet [] (engine_of message) in
          receive_right plan message w before found after outcome (sym heard_is)
          (made ∙ ap (heard_outcome plan w.stops w.limits (engine_of message) after) (unmoved w (engine_of message) (list_of before) (list_of after) stays))
          m.well_formed;
    }

pub returns-in_default-train_in-clause-heard : goal.returns-in_default-train_in-clause-heard
returns-in_default-train_in-clause-heard c plan =
    unknown_heard plan c.args.message.now c.args.store.now c.in-Ack.engine c.unknown_train.result (sym (ap engine_of c.in-Ack.is)) (c.train_in.ensures.none c.in_default-train_in.is) c.unknown_train.ensures
