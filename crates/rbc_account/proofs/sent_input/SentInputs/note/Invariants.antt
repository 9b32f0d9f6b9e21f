use Rattle.std.proofs.Common.{◌≡◌, ℕ, take}
use Rattle.rbc_account.specs.SentInputs.{input_at, inputs_after}
use Rattle.rbc_account.proofs.sent_input.SentInputs.note.Given as goal

-- what is kept after the messages that were looked at
abbrev pub invariant-loop-index : goal.invariant-loop-index
invariant-loop-index l = (number : ℕ) → input_at l.self number ≡ inputs_after l.input (input_at l.fn.self) (take l.index l.messages) number
