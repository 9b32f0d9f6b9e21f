-- Numbers in ascending order are the keys of a map.
use Rattle.std.proofs.Common.{◌≡◌, ℕ, suc, ◌+◌, ◌<◌, true, leb, List, [], ◌∷◌, refl, subst, arith}
use Rattle.std.specs.Prelude.{slice_index}
use Rattle.std.specs.List.Sorted.{IsStrictlyIncreasing}
use Rattle.std.proofs.lemmas.Bool.{le-leb, and_from}
use Rattle.rbc_maps.specs.Maps.{rises_from}

-- numbers that ascend behind a first one
rising_from : (first : ℕ) (ns : List ℕ) → IsStrictlyIncreasing (first ∷ ns) → rises_from (first + 1) ns ≡ true
rising_from first [] up = refl
rising_from first (n ∷ ns) up =
    let above : first < n = up 0 (omega arith) in
    and_from (leb (first + 1) n) (rises_from (n + 1) ns) (le-leb (first + 1) n (omega (arith, above)))
    (rising_from n ns (λ k within.
    subst (λ next. slice_index (n ∷ ns) k < slice_index (first ∷ n ∷ ns) next) (let next : suc k + 1 ≡ suc (k + 1) = omega arith in next) (up (suc k) (omega (arith, within)))))

-- numbers that ascend
pub rising : (ns : List ℕ) → IsStrictlyIncreasing ns → rises_from 0 ns ≡ true
rising [] up = refl
rising (n ∷ ns) up = and_from (leb 0 n) (rises_from (n + 1) ns) (le-leb 0 n (omega arith)) (rising_from n ns up)
