-- What a result can be.
use Rattle.std.proofs.Common.{◌≡◌, Result, Ok, Err}

-- a result has one value
pub one_value : {A E : Type 0} (r : Result A E) (x y : A) → r ≡ Ok x → r ≡ Ok y → x ≡ y
one_value r x y p q = cc

-- a result is not both
pub not_both : {A E : Type 0} (r : Result A E) (x : A) (e : E) → r ≡ Err e → r ≡ Ok x → ⊥
not_both r x e p q = cc
