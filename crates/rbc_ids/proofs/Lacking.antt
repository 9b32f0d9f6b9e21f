-- A map that lacks a key.
use Rattle.std.proofs.Common.{◌≡◌, ℕ, ◌+◌, ◌<◌, false, true, not, cond, eqb, leb, List, [], ◌∷◌, refl, ap, ◌∙◌, arith}
use Rattle.std.proofs.lemmas.Bool.{or_parts, or_from, and_parts, leb-true, ne_eqb}
use Rattle.rbc_maps.specs.Maps.{has, keys, rises_from, without}

module _ {V : Type 0} where
  -- it lacks each key below its first one
  pub absent_below : (key least : ℕ) (pairs : List (ℕ × V)) → key < least → rises_from least (keys pairs) ≡ true → has pairs key ≡ false
  absent_below key least [] below rises = refl
  absent_below key least (pair ∷ pairs) below rises =
      let parts = and_parts (leb least pair.0) (rises_from (pair.0 + 1) (keys pairs)) rises in
      let above = leb-true least pair.0 parts.0 in
      or_from (eqb pair.0 key) (has pairs key) (ne_eqb pair.0 key (λ same. absurd (omega (arith, above, same)))) (absent_below key (pair.0 + 1) pairs (omega (arith, above)) parts.1)

  -- what is not there need not be taken out
  pub without_absent : (key : ℕ) (pairs : List (ℕ × V)) → has pairs key ≡ false → without key pairs ≡ pairs
  without_absent key [] absent = refl
  without_absent key (pair ∷ pairs) absent =
      let parts = or_parts (eqb pair.0 key) (has pairs key) absent in
      ap (λ b. cond (not b) (pair ∷ without key pairs) (without key pairs)) parts.0 ∙ ap (λ (xs : List (ℕ × V)). pair ∷ xs) (without_absent key pairs parts.1)
