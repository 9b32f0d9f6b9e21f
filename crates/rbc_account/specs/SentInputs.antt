-- The inputs that sent the messages for which identifiers are held (own rule).
use Rattle.std.specs.Prelude.{ℕ, ◌+◌, ◌*◌, ◌==◌, nat_eq, if◌then◌else◌, Option, Some, None, List, [], ◌∷◌}
use Rattle.std.specs.Map.{lookup}
use Rattle.ertms_codec.specs.declared.packets.Part.{Part}
use Rattle.ertms_codec.specs.declared.packets.Part.TheVariants as packet
use Rattle.ertms_codec.specs.declared.to_train.ToTrain.{ToTrain}
use Rattle.ertms_codec.specs.declared.to_train.ToTrain.TheVariants as message
use Rattle.rbc_settle.specs.declared.sent.Sent.{Sent}
use Rattle.rbc_account.specs.declared.sent_input.SentInput.{SentInput}

-- the numbers under which the inputs of a stop identifier and of a restriction identifier of an engine are kept
abbrev pub stop_key : ℕ → ℕ → ℕ
stop_key engine id = engine * 512 + id

abbrev pub limit_key : ℕ → ℕ → ℕ
limit_key engine id = engine * 512 + 256 + id

-- what is kept under each number
abbrev pub Kept : Type 0
Kept = ℕ → Option SentInput

abbrev pub input_at : List (ℕ × SentInput) → Kept
input_at kept number = lookup (nat_eq number) kept

-- what is kept after an input is noted under a number
abbrev pub noted : SentInput → ℕ → Kept → Kept
noted by key kept number = if key == number then Some by else kept number

-- what is kept after things are noted one after another
abbrev pub all_noted : {A : Type 0} → (A → Kept → Kept) → List A → Kept → Kept
all_noted note [] kept = kept
all_noted note (first ∷ more) kept = all_noted note more (note first kept)

-- the identifier of a packet
abbrev pub id_of_packet : Part → ℕ
id_of_packet (packet.Restrict dir scale id start length front speed) = id
id_of_packet (packet.Lift dir id) = id

-- what is kept after a message to an engine, which an input sent: the input, under each identifier of the message
abbrev pub noted_message : ℕ → ℕ → ToTrain → Kept → Kept
noted_message input engine (message.StopAt head id scale reference dir distance) = noted (record { stamp = head.stamp; input = input }) (stop_key engine id)
noted_message input engine (message.Stop head id) = noted (record { stamp = head.stamp; input = input }) (stop_key engine id)
noted_message input engine (message.Revoke head id) = noted (record { stamp = head.stamp; input = input }) (stop_key engine id)
noted_message input engine (message.General head packets) =
    all_noted (λ packet. noted (record { stamp = head.stamp; input = input }) (limit_key engine (id_of_packet packet))) packets

-- what is kept after the messages of an input
abbrev pub inputs_after : ℕ → Kept → List Sent → Kept
inputs_after input kept messages = all_noted (λ (sent : Sent). noted_message input sent.engine sent.message) messages kept

-- the input that sent the message with a stamp
abbrev pub input_of_stamp : ℕ → Option SentInput → Option ℕ
input_of_stamp stamp None = None
input_of_stamp stamp (Some sent) = if sent.stamp == stamp then Some sent.input else None
