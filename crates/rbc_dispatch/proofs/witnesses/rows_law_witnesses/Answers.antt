use Rattle.std.proofs.Common.{◌≡◌, [], ◌∷◌, List, ℕ, refl}
use Rattle.ertms_bits.specs.Bits.{bits_of}
use Rattle.rbc_dispatch.proofs.witnesses.rows_law_witnesses.Goals as goal

pub returns-clause-two : goal.returns-clause-two
unfolding bits_of
returns-clause-two c = refl

pub returns-clause-another_value : goal.returns-clause-another_value
unfolding bits_of
returns-clause-another_value c = λ same. let bad : ◌≡◌ {A = List ℕ} (1 ∷ 0 ∷ 0 ∷ 1 ∷ 0 ∷ 0 ∷ 1 ∷ 1 ∷ []) (1 ∷ 0 ∷ 0 ∷ 1 ∷ 0 ∷ 0 ∷ 1 ∷ 0 ∷ []) = same in cc

pub returns-clause-too_narrow : goal.returns-clause-too_narrow
unfolding bits_of
returns-clause-too_narrow c = λ same. let bad : ◌≡◌ {A = List ℕ} (1 ∷ 0 ∷ 0 ∷ 1 ∷ 0 ∷ 0 ∷ 1 ∷ []) (1 ∷ 0 ∷ 0 ∷ 1 ∷ 0 ∷ 0 ∷ 1 ∷ 0 ∷ []) = same in cc

pub returns-clause-left_out : goal.returns-clause-left_out
unfolding bits_of
returns-clause-left_out c = λ same. let bad : ◌≡◌ {A = List ℕ} ([]) (1 ∷ 0 ∷ 0 ∷ 1 ∷ 0 ∷ 0 ∷ 1 ∷ 0 ∷ []) = same in cc

pub returns-clause-twice : goal.returns-clause-twice
unfolding bits_of
returns-clause-twice c = λ same. let bad : ◌≡◌ {A = List ℕ} (1 ∷ 0 ∷ 0 ∷ 1 ∷ 0 ∷ 0 ∷ 1 ∷ 0 ∷ 1 ∷ 0 ∷ 0 ∷ 1 ∷ 0 ∷ 0 ∷ 1 ∷ 0 ∷ []) (1 ∷ 0 ∷ 0 ∷ 1 ∷ 0 ∷ 0 ∷ 1 ∷ 0 ∷ []) = same in cc

pub returns-clause-out_of_order : goal.returns-clause-out_of_order
unfolding bits_of
returns-clause-out_of_order c = λ same. let bad : ◌≡◌ {A = List ℕ} (0 ∷ 0 ∷ 1 ∷ 0 ∷ 1 ∷ 0 ∷ 0 ∷ 1 ∷ []) (1 ∷ 0 ∷ 0 ∷ 1 ∷ 0 ∷ 0 ∷ 1 ∷ 0 ∷ []) = same in cc
