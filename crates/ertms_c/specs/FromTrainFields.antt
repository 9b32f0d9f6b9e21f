-- A message from a train as fields (own layout; SUBSET-026, 7.4.3, 7.5 and 8.6 for the variables).
use Rattle.std.specs.Prelude.{◌≡◌, ◌⊎◌, ℕ, ◌<◌, ◌≤◌, List, length, Option, Some, None, if◌then◌else◌, ◌==◌}
use Rattle.ertms_codec.specs.declared.from_train.Position.{Position}
use Rattle.ertms_codec.specs.declared.from_train.FromTrain.{FromTrain}
use Rattle.ertms_codec.specs.declared.from_train.FromTrain.TheVariants.{Report, Ack, StopAck}
use Rattle.ertms_codec.specs.declared.error.DecodeError.{DecodeError}
use Rattle.ertms_codec.specs.FromTrain.{Spells}
use Rattle.ertms_codec.specs.FromTrainWritten.{IsInRange, spelling_of}
use Rattle.ertms_codec.specs.RefusalsFromTrain.{Refuses}
use Rattle.ertms_c.specs.declared.from_train.FromTrainFields.{FromTrainFields}
use Rattle.ertms_c.specs.Faults.{code_of, done, no_message, room}
use Rattle.ertms_c.specs.Given.{fronted}

-- the fields of a kind of message, its stamp and its engine, with no other
abbrev pub begun : ℕ → ℕ → ℕ → FromTrainFields
begun kind stamp engine = record { kind = kind; id = 0; answer = 0; packet = 0; scale = 0; dir = 0; side = 0; distance = 0; over = 0; under = 0; stamp = stamp; engine = engine; acked = 0; lrbg = 0; previous = 0 }

-- packet 1 is that with a balise group before the last relevant one
abbrev pub packet_of : Option ℕ → ℕ
packet_of (Some previous) = 1
packet_of None = 0

abbrev pub or_0 : Option ℕ → ℕ
or_0 (Some previous) = previous
or_0 None = 0

-- fields with those of a position
abbrev pub placed : Position → FromTrainFields → FromTrainFields
placed position fields = record fields {
  packet = packet_of position.previous;
  previous = or_0 position.previous;
  scale = position.scale;
  dir = position.dir;
  side = position.side;
  distance = position.distance;
  over = position.over;
  under = position.under;
  lrbg = position.lrbg;
}

-- the fields of a message: its variables, and 0 for each that its kind does not have
abbrev pub fields_of : FromTrain → FromTrainFields
fields_of (Report stamp engine position) = placed position (begun 136 stamp engine)
fields_of (Ack stamp engine acked) = record (begun 146 stamp engine) { acked = acked }
fields_of (StopAck stamp engine id answer position) = record (placed position (begun 147 stamp engine)) { id = id; answer = answer }

-- the message that fields name by their kind
abbrev pub position_in : FromTrainFields → Position
position_in fields = record {
  previous = if fields.packet == 1 then Some fields.previous else None;
  scale = fields.scale;
  lrbg = fields.lrbg;
  distance = fields.distance;
  dir = fields.dir;
  side = fields.side;
  over = fields.over;
  under = fields.under;
}

abbrev pub named_by : FromTrainFields → Option FromTrain
named_by fields =
    if fields.kind == 136 then Some (Report fields.stamp fields.engine (position_in fields))
    else (if fields.kind == 146 then Some (Ack fields.stamp fields.engine fields.acked)
    else (if fields.kind == 147 then Some (StopAck fields.stamp fields.engine fields.id fields.answer (position_in fields))
    else None))

-- the bytes spell a message, and these are its fields
abbrev pub AreRead : List ℕ → FromTrainFields → Type 0
AreRead bytes fields = (m : FromTrain) × Spells bytes m × (fields ≡ fields_of m)

-- the bytes spell no message, and this is the number of the first step that fails
abbrev pub IsRefused : List ℕ → ℕ → Type 0
IsRefused bytes code = (e : DecodeError) × Refuses bytes e × (code ≡ code_of e)

-- no message in range has these fields
abbrev pub AreOfNone : FromTrainFields → Type 0
AreOfNone fields = (m : FromTrain) → IsInRange m → fields ≡ fields_of m → ⊥

-- these are the fields of a message in range, and the bytes are its spelling
abbrev pub AreWritten : FromTrainFields → List ℕ → Type 0
AreWritten fields bytes = (m : FromTrain) × IsInRange m × (fields ≡ fields_of m) × (bytes ≡ spelling_of m)

-- What writing a message leaves, by its code. If it is done, all its bytes stand at the front, and the rest stays; if there is too little room, all
-- stays but the count. The count is how many bytes the message has.
pub record Writes (fields : FromTrainFields) (out : List ℕ) (before code : ℕ) (written : List ℕ) (count : ℕ) : Type 0 where
  pub codes : (code ≡ done) ⊎ ((code ≡ no_message) ⊎ (code ≡ room))
  pub given : code ≡ done → (bytes : List ℕ) × AreWritten fields bytes × (count ≡ length bytes) × (length bytes ≤ length out) × (written ≡ fronted bytes out)
  pub short : code ≡ room → (bytes : List ℕ) × AreWritten fields bytes × (count ≡ length bytes) × (length out < length bytes)
  pub none : code ≡ no_message → AreOfNone fields × (count ≡ before)
  pub stays : 0 < code → written ≡ out
