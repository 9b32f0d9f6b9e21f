-- What a store stands for after writes.
use Rattle.std.proofs.Common.{◌≡◌, List, Option, Result, Ok, Err, refl, ◌∙◌}
use Rattle.std.specs.Prelude.{OnOk, OnErr}
use Rattle.rbc_track.specs.Plan.{Plan, IsPlan}
use Rattle.rbc_settle.specs.declared.sent.Sent.{Sent}
use Rattle.rbc_records.specs.declared.record.Key.{Key}
use Rattle.rbc_records.specs.declared.record.Rec.{Rec}
use Rattle.rbc_records.specs.Notes.{Whole, Extends, record_in}
use Rattle.rbc_records.specs.Writes.{written}
use Rattle.rbc_rule.specs.declared.input.Input.{Input}
use Rattle.rbc_rule.specs.declared.outcome.Reply.{Reply}
use Rattle.rbc_rule.specs.Inputs.{Fits}
use Rattle.rbc_rule.specs.World.{World}
use Rattle.rbc_rule.specs.Right.{MayBe, IsRight, IsStep, IsTorn}
use Rattle.rbc_rule.specs.Laws.{EachStepKeepsWorlds}
use Rattle.rbc_text.specs.Held.{AreRecordsOf}
use Rattle.rbc_live.specs.History.{AreSame, IsStepOf}

-- records that are the same are those of the same worlds
pub same_world : (plan : Plan) (old new : List (Key × Rec)) (w : World) → AreSame old new → AreRecordsOf plan (record_in old) w → AreRecordsOf plan (record_in new) w
same_world plan old new w same are = record { well_formed = are.well_formed; same = λ k. same k ∙ are.same k }

-- what is known of all records is the same
pub same_whole : (old new : List (Key × Rec)) → Extends (Whole old) (Whole new) → AreSame old new
same_whole old new more = λ k. more.stays_noted k refl

-- a store of a world may be the one that is read
pub may_be : (plan : Plan) (old new : List (Key × Rec)) (w : World) → AreSame old new → AreRecordsOf plan (record_in old) w → MayBe plan (Whole new) w
may_be plan old new w same are = record { well_formed = are.well_formed; agrees = λ k known. same k ∙ are.same k }

-- a right outcome whose writes were done is a step
pub steps : (plan : Plan) (input : Input) (old middle new : List (Key × Rec)) (reply : Reply) (writes : List (Key × Option Rec)) (messages : List Sent)
    → EachStepKeepsWorlds → IsPlan plan → Fits input → Extends (Whole old) (Whole middle) → IsRight plan input (Whole middle) reply writes messages
    → ((k : Key) → record_in new k ≡ written writes (record_in middle) k) → IsStepOf plan input old new reply messages
steps plan input old middle new reply writes messages law good fits more right done w are =
    let same : AreSame old middle = same_whole old middle more in
    let is : IsStep plan input w reply writes messages = right w (may_be plan old middle w same are) in (
      record {
        well_formed = law plan w input good fits are.well_formed;
        same = λ k. done k ∙ (λ i. written writes (λ j. (same_world plan old middle w same are).same j i) k) ∙ is.after k;
      },
      is.answer,
      is.sent,
    )

-- a fault for want of memory alone comes of the records of a world
pub not_torn : (plan : Plan) (old middle : List (Key × Rec)) (w : World) → Extends (Whole old) (Whole middle) → IsTorn plan (Whole middle) → AreRecordsOf plan (record_in old) w → ⊥
not_torn plan old middle w more torn are = torn w (may_be plan old middle w (same_whole old middle more) are)

-- what holds after a result that is one or the other
pub either_way : {A E : Type 0} {P Q R : Type 0} (r : Result A E) → OnOk r P → OnErr r Q → (P → R) → (Q → R) → R
either_way (Ok x) ok err f g = f ok
either_way (Err e) ok err f g = g err
