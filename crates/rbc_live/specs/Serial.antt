-- Which records a live desk can have (own rule).
use Rattle.std.specs.Prelude.{List}
use Rattle.rbc_track.specs.Plan.{Plan}
use Rattle.rbc_records.specs.declared.record.Key.{Key}
use Rattle.rbc_records.specs.declared.record.Rec.{Rec}
use Rattle.rbc_records.specs.Notes.{record_in}
use Rattle.rbc_rule.specs.declared.input.Input.{Input}
use Rattle.rbc_text.specs.Held.{AreRecordsOf}
use Rattle.rbc_text.specs.Serial.{serial, new_desk}

-- the records are those after inputs that were taken one after another, from a new desk
abbrev pub IsSerial : Plan → List (Key × Rec) → Type 0
IsSerial plan records = (inputs : List Input) × AreRecordsOf plan (record_in records) (serial plan new_desk inputs).world
