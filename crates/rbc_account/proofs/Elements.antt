-- What holds of each element of a list holds of those of its parts.
use Rattle.std.proofs.Common.{◌≡◌, ℕ, zero, suc, Bool, true, false, cond, List, [], ◌∷◌, ◌++◌, map, take, drop, refl, sym, subst}
use Rattle.std.specs.List.{filter, zip, AllByRecursion}
use Rattle.rbc_settle.specs.Actions.{groups}
use Rattle.rbc_settle.proofs.Groups.{groups_cons, by_groups}

module _ {X : Type 0} (P : X → Type 0) where
  pub each-append : (some more : List X) → AllByRecursion P some → AllByRecursion P more → AllByRecursion P (some ++ more)
  each-append [] more h k = k
  each-append (x ∷ some) more h k = (h.0, each-append some more h.1 k)

  pub each-take : (n : ℕ) (xs : List X) → AllByRecursion P xs → AllByRecursion P (take n xs)
  each-take zero xs h = tt
  each-take (suc n) [] h = tt
  each-take (suc n) (x ∷ xs) h = (h.0, each-take n xs h.1)

  pub each-drop : (n : ℕ) (xs : List X) → AllByRecursion P xs → AllByRecursion P (drop n xs)
  each-drop zero xs h = h
  each-drop (suc n) [] h = tt
  each-drop (suc n) (x ∷ xs) h = each-drop n xs h.1

  pub each-filter : (test : X → Bool) (xs : List X) → AllByRecursion P xs → AllByRecursion P (filter test xs)
  each-filter test [] h = tt
  each-filter test (x ∷ xs) h = elim (test x) as (λ b. AllByRecursion P (cond b (x ∷ filter test xs) (filter test xs))) [
    | true ↦ (h.0, each-filter test xs h.1)
    | false ↦ each-filter test xs h.1
  ]

  -- and of what a function makes of each
  pub each-map : {Y : Type 0} (f : Y → X) (ys : List Y) → AllByRecursion (λ y. P (f y)) ys → AllByRecursion P (map f ys)
  each-map f [] h = tt
  each-map f (y ∷ ys) h = (h.0, each-map f ys h.1)

  -- and of those of its groups
  pub each-groups : (xs : List X) → AllByRecursion P xs → AllByRecursion (AllByRecursion P) (groups xs)
  each-groups xs = by_groups (λ (items : List X). AllByRecursion P items → AllByRecursion (AllByRecursion P) (groups items)) (λ h. tt) step xs
    where
      step : (x : X) (xs : List X) → (AllByRecursion P (drop 100 (x ∷ xs)) → AllByRecursion (AllByRecursion P) (groups (drop 100 (x ∷ xs))))
          → AllByRecursion P (x ∷ xs) → AllByRecursion (AllByRecursion P) (groups (x ∷ xs))
      step x xs rest h =
          let items : List X = x ∷ xs in
          subst (λ (gs : List (List X)). AllByRecursion (AllByRecursion P) gs) (sym (groups_cons x xs)) (each-take 100 items h, rest (each-drop 100 items h))

-- those that a filter leaves pass its test
pub each-passes : {X : Type 0} (test : X → Bool) (xs : List X) → AllByRecursion (λ x. test x ≡ true) (filter test xs)
each-passes test [] = tt
each-passes {X} test (x ∷ xs) =
    (elim (test x) as (λ b. test x ≡ b → AllByRecursion (λ y. test y ≡ true) (cond b (x ∷ filter test xs) (filter test xs))) [
      | true ↦ λ is. (is, each-passes test xs)
      | false ↦ λ is. each-passes test xs
    ]) refl

-- what holds of each element of two lists holds of each pair
pub each-zip : {X Y : Type 0} (P : X → Type 0) (Q : Y → Type 0) (xs : List X) (ys : List Y) → AllByRecursion P xs → AllByRecursion Q ys
    → AllByRecursion (λ pair. P pair.0 × Q pair.1) (zip xs ys)
each-zip P Q [] ys h k = tt
each-zip P Q (x ∷ xs) [] h k = tt
each-zip P Q (x ∷ xs) (y ∷ ys) h k = ((h.0, k.0), each-zip P Q xs ys h.1 k.1)

-- what follows from what holds of each holds of each
pub each-weaker : {X : Type 0} (P Q : X → Type 0) → ((x : X) → P x → Q x) → (xs : List X) → AllByRecursion P xs → AllByRecursion Q xs
each-weaker P Q then [] h = tt
each-weaker P Q then (x ∷ xs) h = (then x h.0, each-weaker P Q then xs h.1)

-- and what always holds
pub each-always : {X : Type 0} (P : X → Type 0) → ((x : X) → P x) → (xs : List X) → AllByRecursion P xs
each-always P always [] = tt
each-always P always (x ∷ xs) = (always x, each-always P always xs)

-- what two statements say of each holds of each
pub each-both : {X : Type 0} (P Q : X → Type 0) (xs : List X) → AllByRecursion P xs → AllByRecursion Q xs → AllByRecursion (λ x. P x × Q x) xs
each-both P Q [] h k = tt
each-both P Q (x ∷ xs) h k = ((h.0, k.0), each-both P Q xs h.1 k.1)
