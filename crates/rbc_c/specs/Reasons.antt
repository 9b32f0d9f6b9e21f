-- Why a line is refused, in words (own rule).
use Rattle.std.specs.Prelude.{◌≡◌, ℕ, Bool, false, ◌==◌, List, [], ◌++◌, codes, Option, Some, None, IsSome, IfSome}
use Rattle.rbc_rule.specs.Codes.{code_of}
use Rattle.rbc_rule.specs.Step.{step}
use Rattle.rbc_rule.specs.World.{World}
use Rattle.rbc_rule.specs.declared.input.Input.{Input}
use Rattle.rbc_rule.specs.declared.input.Input.TheVariants.{Enrol, Withdraw, Stop, Release, Restrict, Lift, Received, Bad}
use Rattle.rbc_rule.specs.declared.outcome.Reply.{Reply}
use Rattle.rbc_rule.specs.declared.outcome.Reply.TheVariants.{Done, Refused}
use Rattle.rbc_rule.specs.declared.refuse.Refusal.{Refusal}
use Rattle.rbc_rule.specs.declared.refuse.Refusal.TheVariants.{BadArea}
use Rattle.rbc_records.specs.Notes.{record_in}
use Rattle.rbc_text.specs.BatchText.{line_of, IsInput}
use Rattle.rbc_text.specs.Held.{AreRecordsOf}
use Rattle.rbc_words.specs.Rows.{IsRowOf}
use Rattle.rbc_words.specs.declared.codes.Row.{Row}
use Rattle.rbc_live.specs.declared.desk.LiveDesk.{LiveDesk}

-- the rule's answer to an input on a desk
abbrev pub IsReplyOn : LiveDesk → Input → Reply → Type 0
IsReplyOn desk input reply = (w : World) → AreRecordsOf desk.track (record_in desk.records) w → reply ≡ (step desk.track w input).reply

-- a restriction that is refused because its stretch or its speed is bad: for a stop the same code means something else
abbrev pub is_bad_restriction : Input → ℕ → Bool
is_bad_restriction (Restrict number segment dirs speed front) code = code == code_of BadArea
is_bad_restriction (Enrol engine train_length) code = false
is_bad_restriction (Withdraw engine) code = false
is_bad_restriction (Stop number segments) code = false
is_bad_restriction (Release number) code = false
is_bad_restriction (Lift number) code = false
is_bad_restriction (Received message) code = false
is_bad_restriction (Bad fault) code = false

-- a row for an input that is refused with a code. It has that code; there is a row for the code of each reason, and it
-- is the row of that reason, except for such a restriction.
pub record IsRowFor (input : Input) (code : ℕ) (row : Option Row) : Type 0 where
  pub coded : IfSome row (λ one. one.code ≡ code)
  pub there : (refusal : Refusal) → code ≡ code_of refusal → IsSome row
  pub named : (refusal : Refusal) → code ≡ code_of refusal → is_bad_restriction input code ≡ false → IfSome row (IsRowOf refusal)

-- the words of a row: its name, and what it means
abbrev pub words_of : Option Row → List ℕ
words_of None = []
words_of (Some row) = row.name.now ++ (codes ": " ++ (row.sentence.now ++ codes "\n"))

-- the words on an answer to an input: none if it was accepted
abbrev pub AreWordsOn : Input → Reply → List ℕ → Type 0
AreWordsOn input (Done sent) text = text ≡ []
AreWordsOn input (Refused code) text = (row : Option Row) × IsRowFor input code row × (text ≡ words_of row)

-- the text is that of the words on the answer to a line on a desk
pub record IsReason (line : List ℕ) (desk : LiveDesk) (text : List ℕ) : Type 0 where
  pub input : Input
  pub reply : Reply
  pub spelled : IsInput (line_of line) input
  pub answer : IsReplyOn desk input reply
  pub words : AreWordsOn input reply text
