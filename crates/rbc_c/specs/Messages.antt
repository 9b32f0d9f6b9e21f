-- Messages as they are written for C (own layout).
use Rattle.std.specs.Prelude.{◌≡◌, ℕ, ◌≤◌, List, take, slice_get, Some}
use Rattle.ertms_codec.specs.ToTrain.{spelling_of, length_of_message}
use Rattle.rbc_settle.specs.declared.sent.Sent.{Sent}
use Rattle.rbc_c.specs.declared.message.Message.{Message}

-- the engine of a message, and its spelling at the front of the bytes
pub record IsWritten (sent : Sent) (message : Message) : Type 0 where
  pub engine : message.engine ≡ sent.engine
  pub count : message.length ≡ length_of_message sent.message
  pub spelling : take message.length message.bytes ≡ spelling_of sent.message

-- the messages stand at the front, in order
abbrev pub AreWritten : List Sent → List Message → Type 0
AreWritten sent out = (k : ℕ) (one : Sent) → slice_get sent k ≡ Some one → (message : Message) × (slice_get out k ≡ Some message) × IsWritten one message

-- the messages after the first ones stay
abbrev pub StaysBehind : ℕ → List Message → List Message → Type 0
StaysBehind count old new = (k : ℕ) → count ≤ k → slice_get new k ≡ slice_get old k
