-- What is known when records are read one at a time (own rule).
use Rattle.std.specs.Prelude.{◌≡◌, ℕ, ◌+◌, Bool, true, false, List, [], ◌∷◌, Option, Some, None, Result, Ok, Err, ◌==◌, ◌&&◌, if◌then◌else◌, IsTrue}
use Rattle.std.specs.List.{list_any, All}
use Rattle.rbc_records.specs.declared.record.Key.{Key}
use Rattle.rbc_records.specs.declared.record.Key.TheVariants as key
use Rattle.rbc_records.specs.declared.record.Rec.{Rec}
use Rattle.rbc_records.specs.declared.reader.ReadFault.{ReadFault}
use Rattle.rbc_records.specs.declared.reader.ReadFault.TheVariants as fault

-- a key as its kind and its number
abbrev pub kind_and_number : Key → ℕ × ℕ
kind_and_number key.Roster = (0, 0)
kind_and_number (key.Train engine) = (1, engine)
kind_and_number key.Stops = (2, 0)
kind_and_number key.Limits = (3, 0)
kind_and_number (key.Line line) = (4, line)
kind_and_number key.Unplaced = (5, 0)

-- whether two keys are the same
abbrev pub same_key : Key → Key → Bool
same_key a b = (kind_and_number a).0 == (kind_and_number b).0 && (kind_and_number a).1 == (kind_and_number b).1

-- either all records, so that every key is known; or what was read under some keys, a record or that there is none
pub data Notes : Type 0 where
  Whole : List (Key × Rec) → Notes
  Part : List (Key × Option Rec) → Notes

-- the first record under a key
abbrev pub record_in : List (Key × Rec) → Key → Option Rec
record_in [] k = None
record_in (entry ∷ entries) k = if same_key k entry.0 then Some entry.1 else record_in entries k

-- the first note under a key
abbrev pub note_in : List (Key × Option Rec) → Key → Option Rec
note_in [] k = None
note_in (note ∷ notes) k = if same_key k note.0 then note.1 else note_in notes k

-- whether there is a note under a key
abbrev pub is_noted : List (Key × Option Rec) → Key → Bool
is_noted notes k = list_any (λ note. same_key k note.0) notes

-- each key is noted once: no later note has the key of an earlier one
abbrev pub IsNotedOnce : List (Key × Option Rec) → Type 0
IsNotedOnce [] = Unit
IsNotedOnce (note ∷ notes) = (is_noted notes note.0 ≡ false) × IsNotedOnce notes

-- each note, also one of absence, is what stands there
abbrev pub AreNow : List (Key × Option Rec) → (Key → Option Rec) → Type 0
AreNow notes records = All (λ note. records note.0 ≡ note.1) notes

-- whether it is known what stands under a key
abbrev pub knows : Notes → Key → Bool
knows (Whole entries) k = true
knows (Part notes) k = is_noted notes k

-- what is known under a key: a record, or that there is none
abbrev pub noted : Notes → Key → Option Rec
noted (Whole entries) k = record_in entries k
noted (Part notes) k = note_in notes k

-- what was known is still known, and is the same
pub record Extends (old new : Notes) : Type 0 where
  pub stays_known : (k : Key) → IsTrue (knows old k) → IsTrue (knows new k)
  pub stays_noted : (k : Key) → IsTrue (knows old k) → noted new k ≡ noted old k

-- what was known is still known, and this key has become known
pub record Learns (old : Notes) (k : Key) (new : Notes) : Type 0 where
  pub known : IsTrue (knows new k)
  pub extends : Extends old new

-- the number of failed reads after a read with this result
abbrev pub failures_after : Result (Unit {0}) ReadFault → ℕ → ℕ
failures_after (Ok done) failures = failures
failures_after (Err fault.OutOfMemory) failures = failures
failures_after (Err fault.Failed) failures = failures + 1
