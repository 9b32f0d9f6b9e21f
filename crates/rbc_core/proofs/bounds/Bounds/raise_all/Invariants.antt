use Rattle.std.proofs.Common.{◌≡◌, ℕ, ◌<◌, ◌≤◌, Option, Some}
use Rattle.std.specs.Prelude.{slice_get}
use Rattle.rbc_records.specs.declared.record.Key.{Key}
use Rattle.rbc_versions.specs.Log.{Shown}
use Rattle.rbc_core.specs.Searches.{bound_of}
use Rattle.rbc_core.proofs.bounds.Bounds.raise_all.Given as goal

-- the bounds of the keys so far are raised, and none fell
abbrev pub invariant-loop-index : goal.invariant-loop-index
invariant-loop-index l =
    ((k : Key) → bound_of l.initial.self k ≤ bound_of l.self k)
    × ((i : ℕ) (entry : Key × Option Shown) → i < l.index → slice_get l.published i ≡ Some entry → l.number ≤ bound_of l.self entry.0)
