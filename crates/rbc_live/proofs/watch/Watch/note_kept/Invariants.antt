use Rattle.std.proofs.Common.{◌≡◌, ◌||◌, ℕ, take}
use Rattle.rbc_maps.specs.Maps.{has}
use Rattle.rbc_settle.specs.Numbers.{has_number}
use Rattle.rbc_live.proofs.watch.Watch.note_kept.Given as goal

-- those that were there, and those whose alarms were looked at
abbrev pub invariant-loop-index : goal.invariant-loop-index
invariant-loop-index l = (engine : ℕ) → has_number l.engines engine ≡ (has_number l.fn.engines engine || has (take l.index l.self) engine)
