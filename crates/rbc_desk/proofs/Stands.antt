-- Which desks are held.
use Rattle.std.proofs.Common.{◌≡◌, ℕ, ◌+◌, List, [], ◌∷◌, ◌++◌, length, Option, refl, sym, ap, ◌∙◌, subst, arith}
use Rattle.rbc_track.specs.Plan.{Plan, IsPlan}
use Rattle.rbc_settle.specs.declared.sent.Sent.{Sent}
use Rattle.rbc_records.specs.declared.record.Key.{Key}
use Rattle.rbc_records.specs.declared.record.Rec.{Rec}
use Rattle.rbc_records.specs.Notes.{Whole, Extends, record_in}
use Rattle.rbc_records.specs.Writes.{written}
use Rattle.rbc_rule.specs.declared.input.Input.{Input}
use Rattle.rbc_rule.specs.declared.outcome.Outcome.{Outcome}
use Rattle.rbc_rule.specs.declared.outcome.Reply.{Reply}
use Rattle.rbc_rule.specs.declared.outcome.RuleFault.{RuleFault}
use Rattle.rbc_rule.specs.declared.outcome.RuleFault.TheVariants as fault
use Rattle.rbc_rule.specs.Inputs.{Fits}
use Rattle.rbc_rule.specs.World.{World}
use Rattle.rbc_rule.specs.Right.{MayBe, IsRight, IsStep, IsFault}
use Rattle.rbc_rule.specs.Step as rule
use Rattle.rbc_desk.specs.declared.outbox.Mail.{Mail}
use Rattle.rbc_desk.specs.Held.{Standing, Holds, AreRecordsOf, AreOutboxes, IsOutcomeOf, IsTakenIn, IsMemoryOf, after_outcome, post_each}
use Rattle.rbc_desk.specs.Serial.{Desk, step, post_all}
use Rattle.rbc_desk.proofs.Kept.{step_keeps}
use Rattle.rbc_desk.proofs.Posts.{posted_alike, ones_keep}
use Rattle.rbc_desk.proofs.Sends.{sent_ascends}

module _ (track : Plan) where
  -- a store of these records is read as the world's
  pub as_notes : (entries : List (Key × Rec)) (w : World) → AreRecordsOf track (record_in entries) w → MayBe track (Whole entries) w
  as_notes entries w are = record { well_formed = are.well_formed; agrees = λ k known. are.same k }

  -- what is known of all records stays
  pub stays_whole : (old new : List (Key × Rec)) → Extends (Whole old) (Whole new) → record_in new ≡ record_in old
  stays_whole old new more = λ i k. more.stays_noted k refl i

  -- an outcome that is right for a store is the outcome of the world that has its records
  pub right_of_store : (input : Input) (old new : List (Key × Rec)) (outcome : Outcome) → Extends (Whole old) (Whole new)
      → IsRight track input (Whole new) outcome.result outcome.writes outcome.messages → IsOutcomeOf track input (record_in old) outcome
  right_of_store input old new outcome more right w are =
      right w (as_notes new w (subst (λ (records : Key → Option Rec). AreRecordsOf track records w) (sym (stays_whole old new more)) are))

  -- a store of a well-formed world is neither torn nor fails
  pub memory_of_store : (old new : List (Key × Rec)) (f : RuleFault) (before : ℕ) → Extends (Whole old) (Whole new) → IsFault track f (Whole new) before before → IsMemoryOf track (record_in old) f
  memory_of_store old new fault.OutOfMemory before more is w are = refl
  memory_of_store old new fault.Torn before more is w are =
      absurd (is.1 w (as_notes new w (subst (λ (records : Key → Option Rec). AreRecordsOf track records w) (sym (stays_whole old new more)) are)))
  memory_of_store old new fault.Reader before more is w are = absurd (never before is)
    where
      never : (n : ℕ) → n ≡ n + 1 → ⊥
      never n e = omega (arith, e)

  -- the desk after what a step of its world answers, writes and sends is the one after the step
  pub holds_step : (input : Input) (held : Standing) (reply : Reply) (writes : List (Key × Option Rec)) (messages : List Sent) (desk : Desk) → IsPlan track → Fits input → AreOutboxes held.outboxes
      → IsStep track input desk.world reply writes messages → Holds track held desk
      → Holds track (record { records = written writes held.records; results = held.results ++ reply ∷ []; outboxes = post_each (length held.results + 1) held.outboxes messages }) (step track desk input)
  holds_step input held reply writes messages desk good fits boxes is h =
      let sent = (rule.step track desk.world input).sent in
      record {
        world = record {
          well_formed = step_keeps track desk.world input good fits h.world.well_formed;
          same = λ k. (λ i. written writes (λ j. h.world.same j i) k) ∙ is.after k;
        };
        results = ap (λ (rs : List Reply). rs ++ reply ∷ []) h.results ∙ ap (λ (r : Reply). desk.results ++ r ∷ []) is.answer;
        outboxes = posted_alike (length held.results + 1) held.outboxes messages sent boxes (sent_ascends track desk.world input h.world.well_formed.ascending) is.sent
            ∙ ap (λ (rs : List Reply). post_all (length rs + 1) sent held.outboxes) h.results ∙ ap (λ (b : List (ℕ × List Mail)). post_all (length desk.results + 1) sent b) h.outboxes;
      }

  -- so it is after an outcome of its world
  pub holds_after : (input : Input) (held : Standing) (outcome : Outcome) (desk : Desk) → IsPlan track → Fits input → AreOutboxes held.outboxes
      → IsOutcomeOf track input held.records outcome → Holds track held desk → Holds track (after_outcome held outcome) (step track desk input)
  holds_after input held outcome desk good fits boxes right h = holds_step input held outcome.result outcome.writes outcome.messages desk good fits boxes (right desk.world h.world) h

  -- so an input is taken in by its outcome
  pub taken_in : (input : Input) (old new : Standing) (outcome : Outcome) → IsPlan track → Fits input → AreOutboxes old.outboxes → IsOutcomeOf track input old.records outcome → new ≡ after_outcome old outcome
      → IsTakenIn track input old new
  taken_in input old new outcome good fits boxes right is desk h = subst (λ (s : Standing). Holds track s (step track desk input)) (sym is) (holds_after input old outcome desk good fits boxes right h)

-- outboxes are in order after an outcome
pub boxes_after : (held : Standing) (outcome : Outcome) → AreOutboxes held.outboxes → AreOutboxes (after_outcome held outcome).outboxes
boxes_after held outcome boxes = ones_keep (length held.results + 1) outcome.messages held.outboxes boxes
