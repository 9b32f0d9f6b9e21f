use Rattle.std.proofs.Common.{◌≡◌, ◌<◌, ℕ, [], false, get_or}
use Rattle.rbc_records.specs.Notes.{same_key}
use Rattle.rbc_window.proofs.lists.Lists.place_of.Given as goal

-- no list before stands under the key
abbrev pub invariant-loop-index : goal.invariant-loop-index
invariant-loop-index l = (k : ℕ) → k < l.index → same_key (get_or l.self k (l.key, [])).0 l.key ≡ false
