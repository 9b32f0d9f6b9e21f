-- The log of a run, in any form: `Is` says which text is that of a part (own rule).
use Rattle.std.specs.Prelude.{◌≡◌, ◌≤◌, ◌<◌, ◌+◌, ◌^◌, ◌&&◌, nat_le, ℕ, Bool, true, false, List, [], ◌∷◌, ◌++◌, length, Option, Some, None}
use Rattle.rbc_settle.specs.declared.sent.Sent.{Sent}
use Rattle.rbc_rule.specs.declared.outcome.Reply.{Reply}
use Rattle.rbc_rule.specs.declared.outcome.Reply.TheVariants as reply
use Rattle.rbc_live.specs.History.{IsFed}
use Rattle.rbc_account.specs.declared.account.Account.{Account}
use Rattle.rbc_account.specs.declared.block.Block.{Block}
use Rattle.rbc_account.specs.declared.log_form.LogWanted.{LogWanted}
use Rattle.rbc_account.specs.declared.log_form.LogParts.{LogParts}
use Rattle.rbc_account.specs.declared.log_form.LogParts.TheVariants.{All, Refused, End}
use Rattle.rbc_account.specs.Sums.{counted}
use Rattle.rbc_account.specs.ToldPlaces.{kept_at, kept_after}
use Rattle.rbc_account.specs.LogSections.{LogSection, Head, OfInput, AtEnd, IsBlockOf}

-- whether a log with these parts has a block for an input with this reply
abbrev pub has_block : LogParts → Reply → Bool
has_block All answer = true
has_block Refused (reply.Done sent) = false
has_block Refused (reply.Refused code) = true
has_block End answer = false

-- whether it has a head, and an end
abbrev pub has_head : LogParts → Bool
has_head All = true
has_head Refused = false
has_head End = false

abbrev pub has_end : LogParts → Bool
has_end All = true
has_end Refused = false
has_end End = true

-- whether an input of this number, with this reply, is told
abbrev pub is_told : LogWanted → ℕ → Reply → Bool
is_told wanted number answer = nat_le wanted.from number && has_block wanted.parts answer

-- no more inputs than are to be run
abbrev pub IsWithin : Option ℕ → ℕ → Type 0
IsWithin None count = Unit
IsWithin (Some to) count = count ≤ to

-- the text of a part, if the log has it
abbrev pub IsPartIf : Bool → (List ℕ → Type 0) → List ℕ → Type 0
IsPartIf true IsPart text = IsPart text
IsPartIf false IsPart text = text ≡ []

-- the text of the block of a line, whose answer this is, if it is told
abbrev pub IsBlockIf : Bool → (LogSection → List ℕ → Type 0) → ℕ → List ℕ → Account → Account → Reply → List Sent → List ℕ → Type 0
IsBlockIf true Is number line old new answer messages text =
    (block : Block) × IsBlockOf old line new block × (block.number ≡ number) × (block.reply ≡ answer) × (block.messages ≡ messages) × Is (OfInput new line block) text
IsBlockIf false Is number line old new answer messages text = text ≡ []

-- An account takes the line of this number, by a step of the rules, and this is told of it.
pub record IsLineTold (Is : LogSection → List ℕ → Type 0) (wanted : LogWanted) (number : ℕ) (line : List ℕ) (old new : Account) (text : List ℕ) : Type 0 where
  pub answer : Reply
  pub messages : List Sent
  pub fed : IsFed old.desk.track line old.desk.records new.desk.records answer messages
  pub track : new.desk.track ≡ old.desk.track
  pub sums : new.sums ≡ counted answer old.sums
  pub places : (n : ℕ) → kept_at new.told_places n ≡ kept_after old.desk.track (kept_at old.told_places) messages n
  pub told : IsBlockIf (is_told wanted number answer) Is number line old new answer messages text

-- the same for lines, of which the first has this number, one after another
abbrev pub AreTold : (LogSection → List ℕ → Type 0) → LogWanted → ℕ → List (List ℕ) → Account → Account → List ℕ → Type 0
AreTold Is wanted number [] old new text = (new ≡ old) × (text ≡ [])
AreTold Is wanted number (line ∷ lines) old new text =
    (mid : Account) × (first rest : List ℕ) × (text ≡ first ++ rest) × IsLineTold Is wanted number line old mid first × AreTold Is wanted (number + 1) lines mid new rest

-- the head, which stands there with the first block at the latest
abbrev pub IsHead : Bool → (LogSection → List ℕ → Type 0) → LogWanted → List ℕ → List ℕ → Type 0
IsHead true Is wanted head blocks = IsPartIf (has_head wanted.parts) (Is (Head wanted.from)) head
IsHead false Is wanted head blocks = (head ≡ []) × (blocks ≡ [])

-- The log of lines without its end: the lines lead from one account to another, and the blocks of those that are told
-- stand behind the head, if it is there.
pub record IsLogSoFar (Is : LogSection → List ℕ → Type 0) (wanted : LogWanted) (start : Account) (lines : List (List ℕ)) (account : Account) (headed : Bool) (text : List ℕ) : Type 0 where
  pub head : List ℕ
  pub blocks : List ℕ
  pub all : text ≡ head ++ blocks
  pub begun : IsHead headed Is wanted head blocks
  pub told : AreTold Is wanted 1 lines start account blocks
  pub few : length lines < 2 ^ 64
  pub within : IsWithin wanted.to (length lines)

-- The log of lines, whole: behind the blocks stands the end.
pub record IsWholeLog (Is : LogSection → List ℕ → Type 0) (wanted : LogWanted) (start : Account) (lines : List (List ℕ)) (text : List ℕ) : Type 0 where
  pub account : Account
  pub front : List ℕ
  pub end : List ℕ
  pub all : text ≡ front ++ end
  pub told : IsLogSoFar Is wanted start lines account true front
  pub ended : IsPartIf (has_end wanted.parts) (Is (AtEnd account)) end

-- the log of lines, without its end
abbrev pub IsOpenLog : (LogSection → List ℕ → Type 0) → LogWanted → Account → List (List ℕ) → List ℕ → Type 0
IsOpenLog Is wanted start lines text = (account : Account) × (headed : Bool) × IsLogSoFar Is wanted start lines account headed text
