-- What is kept beside the records, so that a search can skip most trains without looking them up (own rule).
use Rattle.std.specs.Prelude.{◌≡◌, ℕ, ◌<◌, ◌≤◌, Bool, false, ◌==◌, ◌&&◌, List, map, slice_get, Some}
use Rattle.std.specs.List.{list_any}
use Rattle.rbc_settle.specs.Numbers.{has_number}
use Rattle.rbc_records.specs.declared.told_bits.ToldBits.{ToldBits}
use Rattle.rbc_records.specs.declared.extent.Extent.{Extent}
use Rattle.rbc_records.specs.ToldBits.{told_bits_of_train}
use Rattle.rbc_records.specs.Extents.{nowhere, extent_of_train}
use Rattle.rbc_records.specs.declared.record.Key.TheVariants as key
use Rattle.rbc_records.specs.declared.record.Key.{Key}
use Rattle.rbc_records.specs.declared.record.Rec.TheVariants as rec
use Rattle.rbc_records.specs.declared.record.Rec.{Rec}

-- what the train of a record was told; nothing if the record is not of a train
abbrev pub told_bits_of : Rec → ToldBits
told_bits_of (rec.Engines engines) = record { stops = 0; limits = 0 }
told_bits_of (rec.Train train) = told_bits_of_train train
told_bits_of (rec.Stops stops) = record { stops = 0; limits = 0 }
told_bits_of (rec.Limits limits) = record { stops = 0; limits = 0 }

-- where a new stop has to lie to be told to the train of a record
abbrev pub extent_of : Rec → Extent
extent_of (rec.Engines engines) = nowhere
extent_of (rec.Train train) = extent_of_train train
extent_of (rec.Stops stops) = nowhere
extent_of (rec.Limits limits) = nowhere

-- a column: what f gives for each record, in their order
abbrev pub column_of : {T : Type 0} → (Rec → T) → List (Key × Rec) → List T
column_of {T} f entries = map {B = T} (λ (entry : Key × Rec). f entry.1) entries

-- The columns of a table stand beside its records, index by index.
pub record AreBeside (entries : List (Key × Rec)) (stops limits least most : List ℕ) : Type 0 where
  pub stops_are : stops ≡ column_of (λ rec. (told_bits_of rec).stops) entries
  pub limits_are : limits ≡ column_of (λ rec. (told_bits_of rec).limits) entries
  pub least_are : least ≡ column_of (λ rec. (extent_of rec).least) entries
  pub most_are : most ≡ column_of (λ rec. (extent_of rec).most) entries

-- the records of a table, and how many more it can take without taking memory
pub record Kept : Type 0 where
  pub entries : List (Key × Rec)
  pub room : ℕ

-- an entry is the record of the train with this engine
abbrev pub is_of_train : ℕ → Key → Rec → Bool
is_of_train engine (key.Train number) (rec.Train train) = number == engine
is_of_train engine (key.Train number) (rec.Engines engines) = false
is_of_train engine (key.Train number) (rec.Stops stops) = false
is_of_train engine (key.Train number) (rec.Limits limits) = false
is_of_train engine key.Roster rec = false
is_of_train engine key.Stops rec = false
is_of_train engine key.Limits rec = false
is_of_train engine (key.Line line) rec = false
is_of_train engine key.Unplaced rec = false

-- the engines are those of the trains whose records pass a test
abbrev pub ArePassing : (Rec → Bool) → List (Key × Rec) → List ℕ → Type 0
ArePassing passes entries engines = (engine : ℕ) → has_number engines engine ≡ list_any (λ entry. is_of_train engine entry.0 entry.1 && passes entry.1) entries

-- what is said of the index of an entry is what a test says of its record
abbrev pub Tells : (ℕ → Bool → Type 0) → (Rec → Bool) → List (Key × Rec) → Type 0
Tells says test entries = (index : ℕ) (answer : Bool) (entry : Key × Rec) → says index answer → slice_get entries index ≡ Some entry → answer ≡ test entry.1

-- what denies of the indices from one to before another that any passes is right by a test of their records
abbrev pub Denies : (ℕ → ℕ → Bool → Type 0) → (Rec → Bool) → List (Key × Rec) → Type 0
Denies says test entries =
    (begin end index : ℕ) (entry : Key × Rec) → says begin end false → begin ≤ index → index < end → slice_get entries index ≡ Some entry → test entry.1 ≡ false
