use Rattle.std.proofs.Common.{◌≡◌, ◌<◌, ℕ, slice_get, Some}
use Rattle.rbc_settle.specs.declared.sent.Sent.{Sent}
use Rattle.rbc_c.specs.declared.message.Message.{Message}
use Rattle.rbc_c.specs.Messages.{IsWritten, StaysBehind}
use Rattle.rbc_c.proofs.message.write_all.Given as goal

-- the first messages are written, and what stands behind them is as it was
abbrev pub invariant-loop-index : goal.invariant-loop-index
invariant-loop-index l = record {
  written : (k : ℕ) (one : Sent) → k < l.index → slice_get l.fn.sent k ≡ Some one → (message : Message) × (slice_get l.out k ≡ Some message) × IsWritten one message;
  behind : StaysBehind l.index l.initial.out l.out;
}
