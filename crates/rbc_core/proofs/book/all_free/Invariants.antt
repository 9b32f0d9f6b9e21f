use Rattle.std.proofs.Common.{◌≡◌, vec_len}
use Rattle.std.specs.Prelude.{replicate, vec_capacity}
use Rattle.rbc_core.specs.declared.stage.Stage.TheVariants.{Free}
use Rattle.rbc_core.proofs.book.all_free.Given as goal

-- as many as were pushed are free
abbrev pub invariant-loop-i : goal.invariant-loop-i
invariant-loop-i g l = (l.stages.items ≡ replicate l._i Free) × (vec_len l.stages ≡ l._i) × (vec_capacity l.stages ≡ l.count)
