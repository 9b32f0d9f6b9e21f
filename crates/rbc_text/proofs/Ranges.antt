-- The lines of a range of outboxes.
use Rattle.std.proofs.Common.{◌≡◌, ℕ, suc, ◌+◌, ◌-◌, ◌<◌, List, ◌∷◌, ◌++◌, take, drop, sym, ap, ◌∙◌, append_assoc, arith}
use Rattle.std.specs.Prelude.{slice_get, Some}
use Rattle.std.specs.List.{flat_map}
use Rattle.std.proofs.lemmas.List.{drop_more}
use Rattle.std.proofs.lemmas.Option.{slice_get_within, get_or_from_slice_get}

-- what is left of a range begins with the element at its first index
first_left : {X : Type 0} (xs : List X) (at to : ℕ) (one : X) → slice_get xs at ≡ Some one → at < to → take (to - at) (drop at xs) ≡ one ∷ take (to - (at + 1)) (drop (at + 1) xs)
first_left {X} xs at to one there before =
    let one_less : to - at ≡ suc (to - (at + 1)) = omega (arith, before) in
    ap (λ (ys : List X). take (to - at) ys) (drop_more xs at one (slice_get_within xs at one there) ∙ ap (λ (x : X). x ∷ drop (at + 1) xs) (get_or_from_slice_get xs at one one there))
    ∙ ap (λ (n : ℕ). take n (one ∷ drop (at + 1) xs)) one_less

-- the lines of one more element are written
pub one_more_written : {X : Type 0} (line : X → List ℕ) (xs : List X) (at to : ℕ) (one : X) (old new all : List ℕ) → slice_get xs at ≡ Some one → at < to
    → old ++ flat_map line (take (to - at) (drop at xs)) ≡ all → new ≡ old ++ line one → new ++ flat_map line (take (to - (at + 1)) (drop (at + 1) xs)) ≡ all
one_more_written {X} line xs at to one old new all there before so_far now =
    let left = flat_map line (take (to - (at + 1)) (drop (at + 1) xs)) in
    ap (λ (text : List ℕ). text ++ left) now
    ∙ append_assoc old (line one) left
    ∙ ap (λ (ys : List X). old ++ flat_map line ys) (sym (first_left xs at to one there before))
    ∙ so_far
