-- The objects of a log (own rule).
use Rattle.std.specs.Prelude.{◌≡◌, ℕ, List, [], ◌∷◌, ◌++◌, length, map, take, codes}
use Rattle.rbc_track.specs.Plan.{Plan}
use Rattle.rbc_records.specs.declared.record.Key.{Key}
use Rattle.rbc_records.specs.declared.record.Rec.{Rec}
use Rattle.rbc_rule.specs.declared.outcome.Reply.{Reply}
use Rattle.rbc_rule.specs.declared.outcome.Reply.TheVariants.{Done, Refused}
use Rattle.rbc_live.specs.declared.waiting.Waiting.{Waiting}
use Rattle.rbc_account.specs.Standings.{IsStanding}
use Rattle.rbc_account.specs.Sums.{input_count}
use Rattle.rbc_account.specs.declared.account.Sums.{Sums}
use Rattle.rbc_account.specs.declared.block.Block.{Block}
use Rattle.rbc_account.specs.declared.state.Standing.{Standing}
use Rattle.rbc_json.specs.Effects.{effect_object}
use Rattle.rbc_json.specs.Json.{Json, Null, Text, number, array, object, json_text}
use Rattle.rbc_json.specs.Messages.{AreOfMessages}
use Rattle.rbc_json.specs.Waits.{not_told_object}

-- ---- inputs

-- Why an input with this reply was refused: nothing of an accepted one; else its code, the name of the code, and what is
-- wrong, of which nothing more is said.
abbrev pub IsRefusal : Reply → Json → Type 0
IsRefusal (Done sent) value = value ≡ Null
IsRefusal (Refused code) value = (name why : Json) × (value ≡ object ((codes "code", number code) ∷ (codes "name", name) ∷ (codes "why", why) ∷ []))

-- what has come to wait at the train of an engine
abbrev pub not_told_at : ℕ × Waiting → Json
not_told_at one = not_told_object one.0 one.1

-- the line of an input, of which the object has the first 4096 bytes
abbrev pub line_fields : ℕ → List ℕ → List (List ℕ × Json)
line_fields input line =
    (codes "version", number 1) ∷ (codes "type", Text (codes "input")) ∷ (codes "input", number input) ∷ (codes "text", Text (take 4096 line))
    ∷ (codes "bytes", number (length line)) ∷ []

-- what came of it
abbrev pub answer_fields : Json → Json → List Json → List Json → List (List ℕ × Json)
answer_fields refused effect messages not_told =
    (codes "refused", refused) ∷ (codes "effect", effect) ∷ (codes "messages", array messages) ∷ (codes "not_told", array not_told) ∷ []

abbrev pub input_object : ℕ → List ℕ → Json → Json → List Json → List Json → Json
input_object input line refused effect messages not_told = object (line_fields input line ++ answer_fields refused effect messages not_told)

-- A value is the object of the input of a line: it has what a block says of the input, and the object of each message.
abbrev pub IsObjectOf : Plan → List ℕ → Block → Json → Type 0
IsObjectOf plan line block value =
    (refused : Json) × (messages : List Json) × IsRefusal block.reply refused × AreOfMessages plan block.number block.messages block.told.items messages
    × (value ≡ input_object block.number line refused (effect_object block.counts block.deed) messages (map not_told_at block.waiting.items))

-- ---- the end

-- how many inputs there were, and what came of them
abbrev pub input_fields : Sums → List (List ℕ × Json)
input_fields sums =
    (codes "inputs", number (input_count sums)) ∷ (codes "accepted", number sums.accepted) ∷ (codes "refused", number sums.refused)
    ∷ (codes "messages", number sums.messages) ∷ []

-- what is outstanding
abbrev pub outstanding_fields : Standing → List (List ℕ × Json)
outstanding_fields standing =
    (codes "outstanding", number standing.acknowledgements) ∷ (codes "outstanding_trains", number standing.owing) ∷ (codes "not_told", number standing.untold)
    ∷ (codes "not_told_again", number standing.untold_again) ∷ []

abbrev pub sums_object : Sums → Standing → Json
sums_object sums standing = object (input_fields sums ++ outstanding_fields standing)

-- A text has the sums at the end: of the inputs, and of what is outstanding in the state that these records give.
abbrev pub HasSums : ℕ → List (Key × Rec) → Sums → List ℕ → Type 0
HasSums horizon records sums text =
    (front back : List ℕ) × (standing : Standing) × IsStanding horizon records standing × (text ≡ front ++ (json_text (sums_object sums standing) ++ back))
