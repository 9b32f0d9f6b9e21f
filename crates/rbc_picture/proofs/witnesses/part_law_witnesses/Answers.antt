use Rattle.std.proofs.Common.{ℕ, zero, suc, refl, subst}
use Rattle.rbc_picture.specs.Witnesses.{on_line_1}
use Rattle.rbc_picture.proofs.witnesses.part_law_witnesses.Goals as goal

-- a number is 0
abbrev IsZero : ℕ → Type 0
IsZero zero = Unit
IsZero (suc n) = ⊥

pub returns-clause-on_line_0 : goal.returns-clause-on_line_0
returns-clause-on_line_0 c = λ stands. subst IsZero (((stands.placed on_line_1 refl).1 0).0 refl) tt
