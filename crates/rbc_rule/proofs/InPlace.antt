-- A message that is taken into the record of its train where that stands.
use Rattle.std.proofs.Common.{◌≡◌, ℕ, Bool, true, false, cond, max, nat_lt, ◌&&◌, ◌||◌, ◌==◌, if◌then◌else◌, List, [], ◌∷◌, length, Option, Some, None, Result, Ok, Err, option_map, refl, sym, ap, subst, ◌∙◌, arith}
use Rattle.std.specs.Option.{option_map_or}
use Rattle.std.proofs.lemmas.Bool.{and_parts}
use Rattle.std.proofs.lemmas.Bool.Decides.{nat_tests}
use Rattle.ertms_codec.specs.declared.from_train.FromTrain.{FromTrain}
use Rattle.rbc_track.specs.Plan.{Plan}
use Rattle.rbc_maps.specs.Maps.{value_of, with_value}
use Rattle.rbc_ids.specs.Table.{Slots, after_stamp_ack}
use Rattle.rbc_settle.specs.Numbers.{with_number, without_number}
use Rattle.rbc_settle.specs.Trains.{after_ack}
use Rattle.rbc_settle.specs.declared.train.TrainRec.{TrainRec}
use Rattle.rbc_records.specs.Notes.{record_in, same_key}
use Rattle.rbc_records.specs.declared.record.Key.{Key}
use Rattle.rbc_records.specs.declared.record.Key.TheVariants as key
use Rattle.rbc_records.specs.declared.record.Rec.{Rec}
use Rattle.rbc_records.specs.declared.record.Rec.TheVariants as rec
use Rattle.rbc_rule.specs.declared.input.Input.TheVariants.{Received}
use Rattle.rbc_rule.specs.declared.outcome.Reply.{Reply}
use Rattle.rbc_rule.specs.declared.outcome.Reply.TheVariants.{Refused}
use Rattle.rbc_rule.specs.declared.refuse.Refusal.TheVariants.{NothingToAcknowledge, UnknownTrain}
use Rattle.rbc_rule.specs.Codes.{code_of}
use Rattle.rbc_rule.specs.Effect.{acknowledged, effect, engine_of, heard_from, then_do}
use Rattle.rbc_rule.specs.InPlace.{has_room, IsHeardInPlace}
use Rattle.rbc_rule.specs.Lists.{moves, engines_at}
use Rattle.rbc_rule.specs.Records.{engines_record}
use Rattle.rbc_rule.specs.Right.{IsStep}
use Rattle.rbc_rule.specs.Touching.{has_made_room}
use Rattle.rbc_rule.specs.World.{World}
use Rattle.rbc_rule.proofs.Worlds.{refused_is_step}

-- a record that was read is that of a train of the world
pub train_found : (before : TrainRec) (found : Option TrainRec) → Some (rec.Train before) ≡ option_map rec.Train found → Some before ≡ found
train_found before None is = absurd (let bad : Some (rec.Train before) ≡ None = is in cc)
train_found before (Some train) is = let same : before ≡ train = cc in ap Some same

-- a train that stays in its list writes no list
pub unmoved : (w : World) (engine : ℕ) (left entered : Key) → same_key left entered ≡ true → [] ≡ moves w engine left entered
unmoved w engine left entered is =
    sym (ap (λ (b : Bool). cond b [] ((left, engines_record (without_number engine (engines_at w left))) ∷ (entered, engines_record (with_number engine (engines_at w entered))) ∷ [])) is)

-- a record of no train is that of a train which is not enrolled
no_train : (found : Option TrainRec) → ((train : TrainRec) → option_map rec.Train found ≡ Some (rec.Train train) → ⊥) → found ≡ None
no_train None never = refl
no_train (Some train) never = absurd (never train refl)

-- whose message is refused
unknown_refused : (plan : Plan) (message : FromTrain) (w : World) → value_of w.trains (engine_of message) ≡ None → effect plan (Received message) w ≡ Err (code_of UnknownTrain)
unknown_refused plan message w none =
    λ i. then_do (λ trains. record w { trains = trains }) (then_do (λ train. with_value (engine_of message) train w.trains) (heard_from plan message (none i)))

pub unknown_heard : (plan : Plan) (message : FromTrain) (old : List (Key × Rec)) (engine : ℕ) (reply : Reply) → engine ≡ engine_of message
    → ((train : TrainRec) → record_in old (key.Train engine) ≡ Some (rec.Train train) → ⊥) → reply ≡ Refused (code_of UnknownTrain) → IsHeardInPlace plan message reply old old
unknown_heard plan message old engine reply engine_is never reply_is = record {
  writes = [];
  records = λ k. refl;
  step = λ w m.
      let none : value_of w.trains (engine_of message) ≡ None = ap (value_of w.trains) (sym engine_is) ∙ no_train (value_of w.trains engine) (λ train is. never train (m.agrees (key.Train engine) refl ∙ is)) in
      subst (λ (r : Reply). IsStep plan (Received message) w r [] []) (sym reply_is)
      (refused_is_step plan (Received message) w (code_of UnknownTrain) (unknown_refused plan message w none));
}

-- a train that had a free identifier of each kind makes no room where there was none
below : (count before after : ℕ) → nat_lt before count ≡ true → has_made_room count before after ≡ false
below count before after less =
    let other : (before == count) ≡ false = grind (arith, nat_tests) in
    ap (λ (b : Bool). b && nat_lt after before) other

pub no_room_made : (before after : TrainRec) → has_room before ≡ true → (has_made_room 15 (length before.stops) (length after.stops) || has_made_room 255 (length before.limits) (length after.limits)) ≡ false
no_room_made before after room =
    let parts = and_parts (nat_lt (length before.stops) 15) (nat_lt (length before.limits) 255) room in
    ap (λ (b : Bool). b || has_made_room 255 (length before.limits) (length after.limits)) (below 15 (length before.stops) (length after.stops) parts.0)
    ∙ below 255 (length before.limits) (length after.limits) parts.1

abbrev ok : TrainRec → Result TrainRec ℕ
ok train = Ok train

-- An acknowledgement changes identifiers alone, so it makes no difference whether the stamp is raised before it or after.
module _ (train after : TrainRec) (stamp : ℕ) where
  abbrev pub stamped : Bool → TrainRec
  stamped b = if b then train else record train { stamp = max train.stamp stamp }

  abbrev pub later : Bool → ℕ
  later b = if b then train.stamp else max train.stamp stamp

  of_stops : (b : Bool) (slots : Slots) → record train { stops = slots } ≡ after → ok (record (stamped b) { stops = slots }) ≡ ok (record after { stamp = later b })
  of_stops true slots same = ap (λ (t : TrainRec). ok (record t { stamp = train.stamp })) same
  of_stops false slots same = ap (λ (t : TrainRec). ok (record t { stamp = max train.stamp stamp })) same

  of_limits : (b : Bool) (slots : Slots) → record train { limits = slots } ≡ after → ok (record (stamped b) { limits = slots }) ≡ ok (record after { stamp = later b })
  of_limits true slots same = ap (λ (t : TrainRec). ok (record t { stamp = train.stamp })) same
  of_limits false slots same = ap (λ (t : TrainRec). ok (record t { stamp = max train.stamp stamp })) same

  abbrev pub either : Option Slots → Option Slots → Option TrainRec
  either stops limits = option_map_or (λ slots. Some (record train { stops = slots })) stops (option_map (λ slots. record train { limits = slots }) limits)

  acked_by : (b : Bool) (stops limits : Option Slots) → either stops limits ≡ Some after
      → option_map_or (λ slots. Ok (record (stamped b) { stops = slots })) stops (option_map_or (λ slots. Ok (record (stamped b) { limits = slots })) limits (Err (code_of NothingToAcknowledge))) ≡ Ok (record after { stamp = later b })
  acked_by b (Some slots) limits is = let same : record train { stops = slots } ≡ after = cc in of_stops b slots same
  acked_by b None (Some slots) is = let same : record train { limits = slots } ≡ after = cc in of_limits b slots same
  acked_by b None None is = absurd (let bad : None ≡ Some after = is in cc)

  pub acked_raised : (acked : ℕ) (b : Bool) → after_ack acked train ≡ Some after → acknowledged acked (stamped b) ≡ Ok (record after { stamp = later b })
  acked_raised acked true is = acked_by true (after_stamp_ack train.stops acked) (after_stamp_ack train.limits acked) is
  acked_raised acked false is = acked_by false (after_stamp_ack train.stops acked) (after_stamp_ack train.limits acked) is

  place_by : (stops limits : Option Slots) → either stops limits ≡ Some after → after.place ≡ train.place
  place_by (Some slots) limits is = let same : record train { stops = slots } ≡ after = cc in sym (ap (λ (t : TrainRec). t.place) same)
  place_by None (Some slots) is = let same : record train { limits = slots } ≡ after = cc in sym (ap (λ (t : TrainRec). t.place) same)
  place_by None None is = absurd (let bad : None ≡ Some after = is in cc)

  pub stays_there : (acked : ℕ) → after_ack acked train ≡ Some after → after.place ≡ train.place
  stays_there acked is = place_by (after_stamp_ack train.stops acked) (after_stamp_ack train.limits acked) is
