-- A run of one input more, and what holds of each of its inputs.
use Rattle.std.proofs.Common.{◌≡◌, ℕ, zero, suc, ◌+◌, ◌<◌, List, [], ◌∷◌, length, take, get_or, Some, refl, ap, ◌∙◌, subst, arith}
use Rattle.std.specs.Prelude.{slice_get}
use Rattle.std.specs.List.{fold, All}
use Rattle.std.proofs.lemmas.List.Elements.{All-get_or}
use Rattle.std.proofs.lemmas.Option.{slice_get_within, get_or_from_slice_get}

module _ {S X : Type 0} (next : S → X → S) where
  fold_next : (start : S) (xs : List X) (i : ℕ) (d : X) → i < length xs → fold next start (take (suc i) xs) ≡ next (fold next start (take i xs)) (get_or xs i d)
  fold_next start [] i d within = absurd (omega arith)
  fold_next start (x ∷ xs) zero d within = refl
  fold_next start (x ∷ xs) (suc i) d within = fold_next (next start x) xs i d (omega arith)

  pub fold_more : (start : S) (xs : List X) (i : ℕ) (d : X) → i < length xs → fold next start (take (i + 1) xs) ≡ next (fold next start (take i xs)) (get_or xs i d)
  fold_more start xs i d within = let on : i + 1 ≡ suc i = omega arith in ap (λ n. fold next start (take n xs)) on ∙ fold_next start xs i d within

module _ {A : Type 0} where
  -- what holds of each holds of the one at an index
  pub All-get : (P : A → Type 0) (xs : List A) (i : ℕ) (x : A) → All P xs → slice_get xs i ≡ Some x → P x
  All-get P xs i x all e = subst P (get_or_from_slice_get xs i x x e) (All-get_or P xs i x (slice_get_within xs i x e) all)
