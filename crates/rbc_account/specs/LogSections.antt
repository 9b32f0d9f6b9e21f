-- The parts of a log, in any form.
use Rattle.std.specs.Prelude.{◌≡◌, ℕ, false, List, ◌++◌, length}
use Rattle.rbc_rule.specs.Gathered.{AreSendable}
use Rattle.rbc_text.specs.BatchText.{line_of, IsInput}
use Rattle.rbc_account.specs.declared.account.Account.{Account}
use Rattle.rbc_account.specs.declared.block.Block.{Block}
use Rattle.rbc_account.specs.Blocks.{IsRightBlock}
use Rattle.rbc_account.specs.Coming.{sender_in}
use Rattle.rbc_account.specs.Found.{has_unknown}

-- a part of a log: the head, for inputs from a number on; what came of a line, with the account after it; and the end, with the account there
pub data LogSection : Type 0 where
  Head : ℕ → LogSection
  OfInput : Account → List ℕ → Block → LogSection
  AtEnd : Account → LogSection

-- An account took a line, and the block says what came of it.
pub record IsBlockOf (old : Account) (line : List ℕ) (new : Account) (block : Block) : Type 0 where
  pub input : IsInput (line_of line) block.input
  pub sendable : AreSendable block.messages
  pub paired : length block.told.items ≡ length block.messages
  pub right : IsRightBlock new.desk.track new.desk.records (sender_in old.desk.records block.input) block
  pub known : has_unknown block.told.items ≡ false

-- the same for the last line that an account took
abbrev pub IsLastBlock : Account → List ℕ → Block → Type 0
IsLastBlock account line block = (old : Account) × IsBlockOf old line account block

-- a text was added to a log
abbrev pub IsPushed : (List ℕ → Type 0) → List ℕ → List ℕ → Type 0
IsPushed Is old new = (added : List ℕ) × (new ≡ old ++ added) × Is added
