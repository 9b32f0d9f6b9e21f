use Rattle.std.proofs.Common.{◌≡◌, ℕ, take}
use Rattle.rbc_account.specs.ToldPlaces.{kept_at, kept_after}
use Rattle.rbc_account.proofs.told_place.ToldPlaces.note.Given as goal

-- what is kept after the messages that were looked at
abbrev pub invariant-loop-index : goal.invariant-loop-index
invariant-loop-index l = (number : ℕ) → kept_at l.self number ≡ kept_after l.track (kept_at l.fn.self) (take l.index l.messages) number
