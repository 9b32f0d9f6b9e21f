use Rattle.std.proofs.Common.{◌≡◌, ℕ, take}
use Rattle.std.specs.List.{flat_map}
use Rattle.rbc_live.specs.Watching.{seen_in, seen_lines, seen_of}
use Rattle.rbc_live.proofs.Following.{seen_after}
use Rattle.rbc_live.proofs.watch.Watch.see_all.Given as goal

-- the lines of the engines that were looked at, and what is seen of them
abbrev pub invariant-loop-engine : goal.invariant-loop-engine
invariant-loop-engine l = record {
  lines : l.text.items ≡ flat_map (seen_lines l.input (seen_in l.fn.self) (seen_of l.horizon l.records)) (take l.engine-index l.engines);
  seen : (engine : ℕ) → seen_in l.self engine ≡ seen_after l.horizon l.records (seen_in l.fn.self) (take l.engine-index l.engines) engine;
}
