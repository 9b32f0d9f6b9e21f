-- What a window leaves (own rule).
use Rattle.std.specs.Prelude.{◌≡◌, List, Option, All}
use Rattle.rbc_track.specs.Plan.{Plan}
use Rattle.rbc_records.specs.declared.record.Key.{Key}
use Rattle.rbc_records.specs.declared.record.Rec.{Rec}
use Rattle.rbc_records.specs.Writes.{written}
use Rattle.rbc_rule.specs.declared.input.Input.{Input}
use Rattle.rbc_rule.specs.World.{World}
use Rattle.rbc_desk.specs.declared.answer.Answer.{Answer}
use Rattle.rbc_desk.specs.Serial.{Desk, serial}
use Rattle.rbc_desk.specs.Held.{Standing, Holds, AreRecordsOf}
use Rattle.rbc_window.specs.Messages.{Records, Setting, records_after}
use Rattle.rbc_window.specs.Gathering.{IsMessage, AreAnswers}

-- inputs were taken in, one after another: the desk before was a desk of the rules, and the desk now is that desk after them
abbrev pub AreTakenIn : Plan → List Input → Standing → Standing → Type 0
AreTakenIn track inputs old new = (desk : Desk) → Holds track old desk → Holds track new (serial track desk inputs)

-- what messages are judged by, in a world
abbrev pub setting_of : Plan → World → Setting
setting_of track w = record { track = track; stops = w.stops; limits = w.limits }

-- The answers to messages, and what is written after all of them, in any world that has these records.
pub record AreDone (track : Plan) (w : World) (records : Records) (inputs : List Input) (answers : List Answer) (writes : List (Key × Option Rec)) : Type 0 where
  pub are_messages : All IsMessage inputs
  pub are_answers : AreAnswers (setting_of track w) records inputs answers
  pub leaves : (k : Key) → written writes records k ≡ records_after (setting_of track w) records inputs k

abbrev pub AreDoneInAny : Plan → Records → List Input → List Answer → List (Key × Option Rec) → Type 0
AreDoneInAny track records inputs answers writes = (w : World) → AreRecordsOf track records w → AreDone track w records inputs answers writes
