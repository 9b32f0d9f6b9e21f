-- What some inputs do to a desk, taken over together (own rule).
use Rattle.std.specs.Prelude.{◌≡◌, ℕ, ◌+◌, List, [], ◌∷◌, ◌++◌, length, map, take, Option}
use Rattle.std.specs.List.{fold}
use Rattle.rbc_settle.specs.declared.sent.Sent.{Sent}
use Rattle.rbc_records.specs.declared.record.Key.{Key}
use Rattle.rbc_records.specs.declared.record.Rec.{Rec}
use Rattle.rbc_records.specs.Writes.{written}
use Rattle.rbc_rule.specs.declared.outcome.Reply.{Reply}
use Rattle.rbc_desk.specs.declared.answer.Answer.{Answer}
use Rattle.rbc_desk.specs.declared.outbox.Mail.{Mail}
use Rattle.rbc_desk.specs.Held.{Standing, AreOutboxes, post_each}

-- an answer joins the results, and its messages the outboxes, under the number of that result
abbrev pub after_answer : Standing → Answer → Standing
after_answer held answer = record held {
  results = held.results ++ answer.result ∷ [];
  outboxes = post_each (length held.results + 1) held.outboxes answer.messages.items;
}

-- answers of inputs, one after another
abbrev pub after_each : Standing → List Answer → Standing
after_each held answers = fold after_answer held answers

-- and the records are then what the writes leave
abbrev pub after_answers : Standing → List Answer → List (Key × Option Rec) → Standing
after_answers held answers writes = record (after_each held answers) { records = written writes held.records }

-- ---- how that is done, or undone

-- the messages of each answer join the outboxes, those of the first under this number
abbrev pub post_answers : ℕ → List (ℕ × List Mail) → List Answer → List (ℕ × List Mail)
post_answers number outboxes [] = outboxes
post_answers number outboxes (answer ∷ answers) = post_answers (number + 1) (post_each number outboxes answer.messages.items) answers

abbrev pub result_of : Answer → Reply
result_of answer = answer.result

-- what is left of an answer whose messages are moved out: its result, and the engines of its messages
abbrev pub left_of : Answer → Reply × List ℕ
left_of answer = (answer.result, map (λ (sent : Sent). sent.engine) answer.messages.items)

-- this is left of each answer
abbrev pub AreLeftOf : List Answer → List Answer → Type 0
AreLeftOf answers others = map left_of others ≡ map left_of answers

-- The messages of the first answers are taken back out of the outboxes, which are then as they were before. The messages may have been moved out.
abbrev pub AreUnanswered : List Answer → ℕ → List (ℕ × List Mail) → List (ℕ × List Mail) → Type 0
AreUnanswered answers count old new = (number : ℕ) (boxes : List (ℕ × List Mail)) (given : List Answer)
    → AreOutboxes boxes → AreLeftOf given answers → old ≡ post_answers number boxes (take count given) → new ≡ boxes
