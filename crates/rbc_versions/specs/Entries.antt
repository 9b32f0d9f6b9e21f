-- Keys with tickets: what notes, publications and the present tickets mean (own rule).
use Rattle.std.specs.Prelude.{◌+◌, ◌-◌, ◌^◌, ◌≤◌, min, length}
use Rattle.std.specs.Prelude.{◌≡◌, ℕ, List, [], ◌∷◌, map, Option, Some, None, if◌then◌else◌, IfSome}
use Rattle.std.specs.List.{All}
use Rattle.std.specs.Option.{option_map}
use Rattle.rbc_records.specs.declared.record.Key.{Key}
use Rattle.rbc_records.specs.declared.record.Rec.{Rec}
use Rattle.rbc_records.specs.declared.record.Rec.TheVariants as rec
use Rattle.rbc_records.specs.Notes.{same_key}
use Rattle.rbc_records.specs.Writes.{written}
use Rattle.rbc_versions.specs.Log.{LogName, Shown, IsOf, number_of}

-- a number, and the record that it means: none for 0
pub record NumberedRec : Type 0 where
  pub number : ℕ
  pub rec : Option Rec

-- the record that a ticket shows
abbrev pub record_of : Shown → Rec
record_of ticket = ticket.value.rec

abbrev pub numbered_of : Option Shown → NumberedRec
numbered_of ticket = record { number = number_of ticket; rec = option_map record_of ticket }

-- under each key the number, and the record that it means
abbrev pub numbered : List (Key × Option Shown) → List (Key × NumberedRec)
numbered entries = map (λ entry. (entry.0, numbered_of entry.1)) entries

-- under each key the record alone, absence included
abbrev pub records_of : List (Key × NumberedRec) → List (Key × Option Rec)
records_of entries = map (λ entry. (entry.0, entry.1.rec)) entries

-- the records that tickets show, absence included
abbrev pub shown : List (Key × Option Shown) → List (Key × Option Rec)
shown entries = records_of (numbered entries)

-- each ticket is of the log
abbrev pub AreOf : LogName → List (Key × Option Shown) → Type 0
AreOf log entries = All (λ entry. IfSome entry.1 (IsOf log)) entries

-- each ticket is of the log, and its version was published under the key that it stands under
abbrev pub AreKeyedOf : LogName → List (Key × Option Shown) → Type 0
AreKeyedOf log entries = All (λ entry. IfSome entry.1 (λ ticket. IsOf log ticket × (ticket.value.key ≡ entry.0))) entries

-- the first ticket under a key
abbrev pub ticket_in : List (Key × Shown) → Key → Option Shown
ticket_in [] k = None
ticket_in (entry ∷ entries) k = if same_key k entry.0 then Some entry.1 else ticket_in entries k

-- at most one number stands under each key: each ticket under a key is of the log, and its version was published under that key
abbrev pub StandIn : LogName → List (Key × Shown) → Type 0
StandIn log tickets = (k : Key) → IfSome (ticket_in tickets k) (λ ticket. IsOf log ticket × (ticket.value.key ≡ k))

-- the tickets after a publication: its entries in order, so that the last with a key counts
abbrev pub tickets_after : List (Key × Option Shown) → (Key → Option Shown) → Key → Option Shown
tickets_after [] tickets k = tickets k
tickets_after (entry ∷ entries) tickets k = tickets_after entries (λ other. if same_key other entry.0 then entry.1 else tickets other) k

-- the present numbers after numbered entries, in the same way
abbrev pub numbers_after : List (Key × NumberedRec) → (Key → ℕ) → Key → ℕ
numbers_after [] numbers k = numbers k
numbers_after (entry ∷ entries) numbers k = numbers_after entries (λ other. if same_key other entry.0 then entry.1.number else numbers other) k

-- the number that entries put under a key: the last entry with the key counts; none if no entry has it
abbrev pub number_for : List (Key × NumberedRec) → Key → Option ℕ
number_for [] k = None
number_for (entry ∷ entries) k = elim (number_for entries k) [ Some number ↦ Some number | None ↦ if same_key k entry.0 then Some entry.1.number else None ]

-- the number of each entry is the one that stands under its key; only numbers are compared
abbrev pub AreCurrent : List (Key × NumberedRec) → (Key → ℕ) → Type 0
AreCurrent entries numbers = All (λ entry. entry.1.number ≡ numbers entry.0) entries

-- the entries do what the writes do, to any records
abbrev pub AreOfWrites : List (Key × NumberedRec) → List (Key × Option Rec) → Type 0
AreOfWrites entries writes = (records : Key → Option Rec) (k : Key) → written (records_of entries) records k ≡ written writes records k

-- the weight of a record in the log: one, and one for each item of its lists
abbrev pub rec_weight : Rec → ℕ
rec_weight (rec.Engines engines) = length engines + 1
rec_weight (rec.Train train) = length train.stops + length train.limits + 1
rec_weight (rec.Stops stops) = length stops.active + 1
rec_weight (rec.Limits limits) = length limits.active + 1

-- a removal weighs nothing
abbrev pub note_weight : Option Rec → ℕ
note_weight None = 0
note_weight (Some r) = rec_weight r

-- the weight of all of them together
abbrev pub notes_weight : List (Key × Option Rec) → ℕ
notes_weight [] = 0
notes_weight (note ∷ notes) = note_weight note.1 + notes_weight notes

-- a weight that counts all of them, up to the greatest number of 64 bits
abbrev pub CountsAll : ℕ → List (Key × Option Rec) → Type 0
CountsAll weight notes = min (notes_weight notes) (2 ^ 64 - 1) ≤ weight

-- what contracts see of the present tickets: the tickets, and how many more keys there is room for
pub record PresentValue : Type 0 where
  pub tickets : List (Key × Shown)
  pub room : ℕ
