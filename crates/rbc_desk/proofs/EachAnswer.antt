-- Answers of inputs, one after another, lead from desk to desk of the rules.
use Rattle.std.proofs.Common.{◌≡◌, ◌+◌, List, [], ◌∷◌, ◌++◌, length, Option, refl, sym, subst}
use Rattle.rbc_track.specs.Plan.{Plan, IsPlan}
use Rattle.rbc_records.specs.declared.record.Key.{Key}
use Rattle.rbc_records.specs.declared.record.Rec.{Rec}
use Rattle.rbc_records.specs.Writes.{written}
use Rattle.rbc_rule.specs.declared.input.Input.{Input}
use Rattle.rbc_rule.specs.Inputs.{Fits}
use Rattle.rbc_rule.specs.Right.{IsStep}
use Rattle.rbc_desk.specs.declared.answer.Answer.{Answer}
use Rattle.rbc_desk.specs.Held.{Standing, Holds, AreOutboxes}
use Rattle.rbc_desk.specs.Answers.{after_answer, after_each, after_answers}
use Rattle.rbc_desk.specs.Serial.{Desk, step}
use Rattle.rbc_desk.proofs.Posts.{ones_keep}
use Rattle.rbc_desk.proofs.Stands.{holds_step}

-- what stands after answers, with the records that are there by then
abbrev pub with_records : Standing → (Key → Option Rec) → Standing
with_records held records = record held { records = records }

-- outboxes are in order after an answer, and after each of some answers
pub boxes_after_answer : (held : Standing) (answer : Answer) → AreOutboxes held.outboxes → AreOutboxes (after_answer held answer).outboxes
boxes_after_answer held answer boxes = ones_keep (length held.results + 1) answer.messages.items held.outboxes boxes

pub boxes_after_each : (held : Standing) (answers : List Answer) → AreOutboxes held.outboxes → AreOutboxes (after_each held answers).outboxes
boxes_after_each held [] boxes = boxes
boxes_after_each held (answer ∷ answers) boxes = boxes_after_each (after_answer held answer) answers (boxes_after_answer held answer boxes)

-- one answer more is given after the others
pub after_one_more : (held : Standing) (answers : List Answer) (answer : Answer) → after_each held (answers ++ answer ∷ []) ≡ after_answer (after_each held answers) answer
after_one_more held [] answer = refl
after_one_more held (first ∷ answers) answer = after_one_more (after_answer held first) answers answer

module _ (track : Plan) where
  -- one input: its answer and its writes lead to the desk after its step
  pub one_answered : (input : Input) (held : Standing) (answer : Answer) (writes : List (Key × Option Rec)) (desk : Desk) → IsPlan track → Fits input → AreOutboxes held.outboxes
      → IsStep track input desk.world answer.result writes answer.messages.items → Holds track held desk
      → Holds track (with_records (after_answer held answer) (written writes held.records)) (step track desk input)
  one_answered input held answer writes desk good fits boxes is h = holds_step track input held answer.result writes answer.messages.items desk good fits boxes is h

  -- one input more, after the answers of those before it, by whatever writes the records came
  pub one_more_answered : (input : Input) (held : Standing) (answers : List Answer) (records : Key → Option Rec) (answer : Answer) (writes : List (Key × Option Rec)) (desk : Desk)
      → IsPlan track → Fits input → AreOutboxes held.outboxes → IsStep track input desk.world answer.result writes answer.messages.items
      → Holds track (with_records (after_each held answers) records) desk
      → Holds track (with_records (after_each held (answers ++ answer ∷ [])) (written writes records)) (step track desk input)
  one_more_answered input held answers records answer writes desk good fits boxes is h =
      subst (λ (s : Standing). Holds track (with_records s (written writes records)) (step track desk input)) (sym (after_one_more held answers answer))
      (one_answered input (with_records (after_each held answers) records) answer writes desk good fits (boxes_after_each held answers boxes) is h)

  -- all inputs: writes that leave these records at once
  pub all_answered : (held : Standing) (answers : List Answer) (records : Key → Option Rec) (writes : List (Key × Option Rec)) (desk : Desk) → ((k : Key) → written writes held.records k ≡ records k)
      → Holds track (with_records (after_each held answers) records) desk → Holds track (after_answers held answers writes) desk
  all_answered held answers records writes desk same h =
      subst (λ (rs : Key → Option Rec). Holds track (with_records (after_each held answers) rs) desk) (λ i k. sym (same k) i) h
