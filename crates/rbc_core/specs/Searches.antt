-- The latest attempt that writes a key (own rule).
use Rattle.std.specs.Prelude.{◌≡◌, ℕ, ◌+◌, ◌<◌, ◌≤◌, ◌%◌, List, length, Option, Some, None, slice_get, slice_index}
use Rattle.rbc_records.specs.declared.record.Key.{Key}
use Rattle.rbc_records.specs.declared.record.Key.TheVariants as key
use Rattle.rbc_versions.specs.Entries.{number_for}
use Rattle.rbc_core.specs.declared.stage.Stage.{Stage}
use Rattle.rbc_core.specs.declared.stage.Stage.TheVariants.{Free, Out, Tried, Void}
use Rattle.rbc_core.specs.Core.{Try}

-- the number that the attempt of a stage puts under a key
abbrev pub number_put : Stage Try → Key → Option ℕ
number_put Free k = None
number_put Out k = None
number_put (Tried a) k = number_for a.writes k
number_put Void k = None

-- no input from one index on and below another has an attempt that writes the key
abbrev pub NoneWritesIn : List (Stage Try) → ℕ → ℕ → Key → Type 0
NoneWritesIn stages first last k = (i : ℕ) (g : Stage Try) → first ≤ i → i < last → slice_get stages i ≡ Some g → number_put g k ≡ None

-- this is the number that the latest attempt among them puts under the key
abbrev pub IsLatestIn : List (Stage Try) → ℕ → ℕ → Key → ℕ → Type 0
IsLatestIn stages first last k number =
    (i : ℕ) × (g : Stage Try) × (first ≤ i) × (i < last) × (slice_get stages i ≡ Some g) × (number_put g k ≡ Some number) × NoneWritesIn stages (i + 1) last k

-- the bucket of a key
abbrev pub bucket_of : Key → ℕ
bucket_of (key.Train engine) = engine % 16384
bucket_of (key.Line line) = line
bucket_of key.Roster = 16380
bucket_of key.Stops = 16381
bucket_of key.Limits = 16382
bucket_of key.Unplaced = 16383

-- the bound of a key's bucket
abbrev pub bound_of : List ℕ → Key → ℕ
bound_of bounds k = slice_index bounds (bucket_of k)

-- no input whose number is above the bound of a key has an attempt that writes the key: an index is the number less 1
abbrev pub AreBound : List ℕ → List (Stage Try) → Type 0
AreBound bounds stages = (k : Key) → NoneWritesIn stages (bound_of bounds k) (length stages) k
