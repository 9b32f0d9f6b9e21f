-- What is kept of messages until they are committed (own rule).
use Rattle.std.specs.Prelude.{◌≡◌, ℕ, Bool, true, false, ◌==◌, ◌%◌, List, [], ◌∷◌, Option, Some, None, IsTrue}
use Rattle.rbc_records.specs.declared.record.Key.{Key}
use Rattle.rbc_records.specs.Writes.{written}
use Rattle.rbc_rule.specs.declared.input.Input.{Input}
use Rattle.rbc_rule.specs.declared.outcome.Outcome.{Outcome}
use Rattle.rbc_rule.specs.Lists.{is_list}
use Rattle.rbc_rule.specs.Gathered.{AreSendable}
use Rattle.rbc_desk.specs.declared.answer.Answer.{Answer}
use Rattle.rbc_window.specs.declared.kept.Kept.{Kept}
use Rattle.rbc_window.specs.Messages.{Records, Setting, moves_in, outcome_of, next_records, sender}

-- an answer is that of an outcome
abbrev pub IsAnswerOf : Outcome → Answer → Type 0
IsAnswerOf outcome answer = (answer.result ≡ outcome.result) × (answer.messages.items ≡ outcome.messages)

-- what a message does to the lists of trains: its train leaves the list under one key and comes into the list under another
abbrev pub IsMove : Records → Outcome → ℕ → Key → Key → Type 0
IsMove records outcome engine left entered =
    (k : Key) → IsTrue (is_list k) → written outcome.writes records k ≡ written (moves_in records engine left entered) records k

-- What is kept of a message: its answer, and the lists that its train leaves and comes into.
pub record IsKept (records : Records) (outcome : Outcome) (engine : ℕ) (kept : Kept) : Type 0 where
  pub answer : IsAnswerOf outcome kept.answer
  pub move : IsMove records outcome engine kept.left kept.entered
  pub left : IsTrue (is_list kept.left)
  pub entered : IsTrue (is_list kept.entered)
  pub sendable : AreSendable kept.answer.messages.items

-- trains are in shares by their engine numbers
abbrev pub share_of : ℕ → ℕ
share_of engine = engine % 32

-- whether the train of an engine is in a share
abbrev pub has_engine : ℕ → Option ℕ → Bool
has_engine share None = false
has_engine share (Some engine) = share_of engine == share

-- what is kept begins with what is kept of the first message, if it is from a train of the share, and goes on with what is kept of the others
abbrev pub BeginsWith : Bool → (Kept → Type 0) → (List Kept → Type 0) → List Kept → Type 0
BeginsWith false First Rest kept = Rest kept
BeginsWith true First Rest [] = ⊥
BeginsWith true First Rest (first ∷ kept) = First first × Rest kept

-- the engine of a message
abbrev pub engine_or_none : Option ℕ → ℕ
engine_or_none None = 0
engine_or_none (Some engine) = engine

-- what a share keeps of its messages, in their order; the records are those after all messages before, of other shares too
abbrev pub AreKept : Setting → ℕ → Records → List Input → List Kept → Type 0
AreKept s share records [] kept = kept ≡ []
AreKept s share records (input ∷ inputs) kept =
    BeginsWith (has_engine share (sender input)) (IsKept records (outcome_of s records input) (engine_or_none (sender input)))
    (AreKept s share (next_records s records input) inputs) kept
