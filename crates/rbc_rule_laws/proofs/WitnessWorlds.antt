-- What follows of worked worlds, and of what was read of one.
use Rattle.std.proofs.Common.{◌≡◌, ◌⊎◌, ◌||◌, ℕ, ◌<◌, ◌≤◌, true, false, cond, List, [], ◌∷◌, Option, Some, None, inl, inr, refl, sym, ap, arith}
use Rattle.std.proofs.lemmas.List.Elements.{All-head}
use Rattle.rbc_settle.specs.declared.train.TrainRec.{TrainRec}
use Rattle.rbc_settle.specs.Settling.{Stops, Limits, last_stamp}
use Rattle.rbc_settle.specs.UpToDate.{IsUpToDate}
use Rattle.rbc_records.specs.declared.record.Key.{Key}
use Rattle.rbc_records.specs.declared.record.Rec.{Rec}
use Rattle.rbc_records.specs.declared.record.Rec.TheVariants as rec
use Rattle.rbc_records.specs.Notes.{Part, same_key, is_noted, note_in}
use Rattle.rbc_records.proofs.Keys.{same_key_is}
use Rattle.rbc_rule.specs.World.{World}
use Rattle.rbc_rule.specs.Records.{record_of, Agrees}
use Rattle.rbc_rule.specs.WellFormed.{IsWellFormed, IsGoodTrain}
use Rattle.rbc_rule.specs.Told.{EachTrainIsUpToDate}
use Rattle.rbc_rule_laws.specs.Witnesses.{track_a, world_of}

-- a train that has stamps left is up to date
pub now_up_to_date : (train : TrainRec) (stops : Stops) (limits : Limits) → train.stamp < last_stamp → EachTrainIsUpToDate track_a (world_of train stops limits)
    → IsUpToDate track_a stops limits train
now_up_to_date train stops limits left each = by (All-head (λ (one : ℕ × TrainRec). (last_stamp ≤ one.1.stamp) ⊎ IsUpToDate track_a stops limits one.1) (7, train) [] each)
  where
    by : (last_stamp ≤ train.stamp) ⊎ IsUpToDate track_a stops limits train → IsUpToDate track_a stops limits train
    by (inl ended) = absurd (omega arith)
    by (inr now) = now

-- the train of a well-formed world
pub good_train : (train : TrainRec) (stops : Stops) (limits : Limits) → IsWellFormed track_a (world_of train stops limits) → IsGoodTrain track_a stops limits (7, train)
good_train train stops limits well = All-head (IsGoodTrain track_a stops limits) (7, train) [] well.trains

-- ---- what was read

-- the world's own records, read under any keys
abbrev notes_of : World → List Key → List (Key × Option Rec)
notes_of w [] = []
notes_of w (key ∷ keys) = (key, record_of w key) ∷ notes_of w keys

-- they agree with it
pub own_records_agree : (w : World) (keys : List Key) → Agrees (Part (notes_of w keys)) w
own_records_agree w [] k known = let bad : false ≡ true = known in cc
own_records_agree w (key ∷ keys) k known =
    let notes = notes_of w keys in
    (elim (same_key k key) as (λ b. same_key k key ≡ b → (b || is_noted notes k) ≡ true
    → cond b (record_of w key) (note_in notes k) ≡ record_of w k) [
      | true ↦ λ same h. sym (ap (record_of w) (same_key_is k key same))
      | false ↦ λ same h. own_records_agree w keys k h
    ]) refl known

-- a record that is there is not absent
pub there_or_not : (r : Rec) → Some r ≡ None → ⊥
there_or_not r is = cc

-- a list of two engines is none of one
pub two_or_one : (a b c : ℕ) → Some (rec.Engines (a ∷ b ∷ [])) ≡ Some (rec.Engines (c ∷ [])) → ⊥
two_or_one a b c is = cc
