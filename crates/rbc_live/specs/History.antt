-- What lines do to a live desk (own rule).
use Rattle.std.specs.Prelude.{◌≡◌, ℕ, ◌+◌, ◌<◌, List, [], ◌∷◌, map}
use Rattle.rbc_track.specs.Plan.{Plan}
use Rattle.rbc_maps.specs.Maps.{value_or}
use Rattle.rbc_settle.specs.declared.sent.Sent.{Sent}
use Rattle.rbc_records.specs.declared.record.Key.{Key}
use Rattle.rbc_records.specs.declared.record.Rec.{Rec}
use Rattle.rbc_records.specs.Notes.{record_in}
use Rattle.rbc_rule.specs.declared.input.Input.{Input}
use Rattle.rbc_rule.specs.declared.outcome.Reply.{Reply}
use Rattle.rbc_rule.specs.World.{World}
use Rattle.rbc_rule.specs.Step.{step, count_sent}
use Rattle.rbc_rule.specs.Right.{messages_to}
use Rattle.rbc_text.specs.Mail.{Mail}
use Rattle.rbc_text.specs.Held.{AreRecordsOf, Holds, Standing, post_each}
use Rattle.rbc_text.specs.Serial.{serial, new_desk}
use Rattle.rbc_text.specs.BatchText.{line_of, IsInput, AreInputs}
use Rattle.rbc_live.specs.declared.desk.LiveFault.{LiveFault}
use Rattle.rbc_live.specs.declared.desk.LiveFault.TheVariants.{Memory, Room}

-- the same record stands under each key, whatever the order
abbrev pub AreSame : List (Key × Rec) → List (Key × Rec) → Type 0
AreSame old new = (k : Key) → record_in new k ≡ record_in old k

-- Records, an answer and messages are those of the step. If the records before were those of a world, the records after
-- it are those of the world after the step, and the answer and the messages to each engine are the step's. The order
-- between engines is free.
abbrev pub IsStepOf : Plan → Input → List (Key × Rec) → List (Key × Rec) → Reply → List Sent → Type 0
IsStepOf plan input old new reply messages = (w : World) → AreRecordsOf plan (record_in old) w
    → AreRecordsOf plan (record_in new) (step plan w input).world
    × (reply ≡ (step plan w input).reply)
    × ((engine : ℕ) → messages_to engine messages ≡ value_or [] (step plan w input).sent engine)

-- a line was taken: by the step of its input
abbrev pub IsFed : Plan → List ℕ → List (Key × Rec) → List (Key × Rec) → Reply → List Sent → Type 0
IsFed plan line old new reply messages = (input : Input) × IsInput (line_of line) input × IsStepOf plan input old new reply messages

-- the step of an input sends this many messages
abbrev pub AreSentAt : Plan → Input → List (Key × Rec) → ℕ → Type 0
AreSentAt plan input records count = (w : World) → AreRecordsOf plan (record_in records) w → count ≡ count_sent (step plan w input).sent

-- the step of the input of a line sends this many messages
abbrev pub AreSentBy : Plan → List ℕ → List (Key × Rec) → ℕ → Type 0
AreSentBy plan line records count = (input : Input) × IsInput (line_of line) input × AreSentAt plan input records count

-- a fault for lack of room says how many messages there are, and they are more than the caller allows
abbrev pub IsFaultFor : (ℕ → Type 0) → ℕ → LiveFault → Type 0
IsFaultFor AreSent most Memory = Unit
IsFaultFor AreSent most (Room count) = (most < count) × AreSent count

-- the same for a line, and for an input
abbrev pub IsFaultOf : Plan → List ℕ → List (Key × Rec) → ℕ → LiveFault → Type 0
IsFaultOf plan line records most fault = IsFaultFor (AreSentBy plan line records) most fault

abbrev pub IsFaultAt : Plan → Input → List (Key × Rec) → ℕ → LiveFault → Type 0
IsFaultAt plan input records most fault = IsFaultFor (AreSentAt plan input records) most fault

-- a line that was taken, the answer to it, and its messages
pub record Taken : Type 0 where
  pub line : List ℕ
  pub reply : Reply
  pub messages : List Sent

-- lines taken one after another lead from records to records; records that are the same under each key count as the same
abbrev pub IsHistory : Plan → List (Key × Rec) → List Taken → List (Key × Rec) → Type 0
IsHistory plan old [] new = AreSame old new
IsHistory plan old (taken ∷ more) new =
    (before after : List (Key × Rec)) × AreSame old before × IsFed plan taken.line before after taken.reply taken.messages × IsHistory plan after more new

-- the messages of lines join the outboxes, under the numbers of their lines
abbrev pub posted : ℕ → List (ℕ × List Mail) → List Taken → List (ℕ × List Mail)
posted number outboxes [] = outboxes
posted number outboxes (taken ∷ more) = posted (number + 1) (post_each number outboxes taken.messages) more

-- what stands after lines that led to these records: the records, the answers and the messages
abbrev pub standing_after : List Taken → List (Key × Rec) → Standing
standing_after taken records = record { records = record_in records; results = map (λ one. one.reply) taken; outboxes = posted 1 [] taken }

-- these are the inputs of the lines, and what stands after them is that of their serial run, from a new desk
abbrev pub IsSerialOf : Plan → List Input → List Taken → List (Key × Rec) → Type 0
IsSerialOf plan inputs taken records = AreInputs (map (λ one. one.line) taken) inputs × Holds plan (standing_after taken records) (serial plan new_desk inputs)

-- the same for some inputs of the lines
abbrev pub IsSerialRunOf : Plan → List Taken → List (Key × Rec) → Type 0
IsSerialRunOf plan taken records = (inputs : List Input) × AreInputs (map (λ one. one.line) taken) inputs × Holds plan (standing_after taken records) (serial plan new_desk inputs)

-- this holds on each track, for all lines that are taken since a desk was opened
abbrev pub EachHistoryIsSerial : Type 0
EachHistoryIsSerial = (plan : Plan) (taken : List Taken) (records : List (Key × Rec)) → IsHistory plan [] taken records → IsSerialRunOf plan taken records
