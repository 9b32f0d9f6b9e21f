-- Calls of a reader come to an end.
use Rattle.std.proofs.Common.{◌≡◌, ◌≤◌, ℕ, Bool, true, false, inl, inr, refl, arith}
use Rattle.std.specs.Prelude.{◌⊎◌, ◌&&◌, not, nat_lt}
use Rattle.std.proofs.lemmas.Bool.Decides.{nat_tests}
use Rattle.rbc_text.specs.Calls.{max_calls}
use Rattle.rbc_text.specs.declared.calls.Calls.{Calls}

-- no call is made any more
over : (failed : Bool) (made : ℕ) → made ≤ max_calls → not failed && nat_lt made max_calls ≡ false → (failed ≡ true) ⊎ (made ≡ max_calls)
over true made few none = inl refl
over false made few none = inr (grind (arith, nat_tests))

pub given_up : (calls : Calls) → calls.made ≤ max_calls → not calls.failed && nat_lt calls.made max_calls ≡ false → (calls.failed ≡ true) ⊎ (calls.made ≡ max_calls)
given_up calls few none = over calls.failed calls.made few none
