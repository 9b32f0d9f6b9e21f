-- Items in groups of 100.
use Rattle.std.proofs.Common.{◌≡◌, ℕ, zero, suc, ◌+◌, ◌-◌, ◌*◌, ◌≤◌, List, [], ◌∷◌, length, map, take, drop, refl, sym, ap, ◌∙◌, arith, length-drop, drop-drop}
use Rattle.std.specs.List.{range_with_len}
use Rattle.std.proofs.lemmas.List.{length-map, drop-take, take-take, take_all}
use Rattle.std.proofs.lemmas.List.FromFn.{length-range_with_len}
use Rattle.rbc_settle.specs.Actions.{groups_for, groups}

-- with more than 100 items more, there is one group more
one_more_group : (n : ℕ) → 1 ≤ n → groups_for n ≡ suc (groups_for (n - 100))
one_more_group n some = omega (arith, some)

-- a list of what a function gives for numbers in a row is that of another function, one number further on
shifted : {Y : Type 0} (f g : ℕ → Y) → ((k : ℕ) → f (k + 1) ≡ g k) → (least count : ℕ) → map f (range_with_len (least + 1) count) ≡ map g (range_with_len least count)
shifted f g same least zero = refl
shifted f g same least (suc count) = λ i. same least i ∷ shifted f g same (least + 1) count i

module _ {X : Type 0} where
  next_group : (items : List X) (k : ℕ) → take 100 (drop (100 * (k + 1)) items) ≡ take 100 (drop (100 * k) (drop 100 items))
  next_group items k =
      let further : 100 * (k + 1) ≡ 100 + 100 * k = omega arith in
      ap (take 100) (ap (λ n. drop n items) further ∙ sym (drop-drop (100 * k) 100 items))

  -- the first group, and then those of the other items
  pub groups_cons : (x : X) (xs : List X) → groups (x ∷ xs) ≡ take 100 (x ∷ xs) ∷ groups (drop 100 (x ∷ xs))
  groups_cons x xs =
      let items : List X = x ∷ xs in
      let count : groups_for (length items) ≡ suc (groups_for (length items - 100)) = one_more_group (length items) (omega arith) in
      let rest : length (drop 100 items) ≡ length items - 100 = length-drop 100 items in
      ap (λ n. map (λ k. take 100 (drop (100 * k) items)) (range_with_len 0 n)) (count ∙ ap (λ n. suc (groups_for n)) (sym rest))
      ∙ ap (λ (gs : List (List X)). take 100 items ∷ gs)
      (shifted (λ k. take 100 (drop (100 * k) items)) (λ k. take 100 (drop (100 * k) (drop 100 items))) (next_group items) 0 (groups_for (length (drop 100 items))))

  -- what holds of no items, and of items where it holds of those behind the first 100, holds of all
  by_fuel : (P : List X → Type 0) → P [] → ((x : X) (xs : List X) → P (drop 100 (x ∷ xs)) → P (x ∷ xs)) → (n : ℕ) (items : List X) → length items ≤ n → P items
  by_fuel P none step n [] most = none
  by_fuel P none step zero (x ∷ xs) most = absurd (omega (arith, most))
  by_fuel P none step (suc n) (x ∷ xs) most =
      let rest : length (drop 100 (x ∷ xs)) ≡ length (x ∷ xs) - 100 = length-drop 100 (x ∷ xs) in
      step x xs (by_fuel P none step n (drop 100 (x ∷ xs)) (omega (arith, rest, most)))

  pub by_groups : (P : List X → Type 0) → P [] → ((x : X) (xs : List X) → P (drop 100 (x ∷ xs)) → P (x ∷ xs)) → (items : List X) → P items
  by_groups P none step items = by_fuel P none step (length items) items (omega arith)

  -- how many groups there are
  pub length-groups : (items : List X) → length (groups items) ≡ groups_for (length items)
  length-groups items =
      let mapped = length-map (range_with_len 0 (groups_for (length items))) (λ k. take 100 (drop (100 * k) items)) in
      mapped ∙ length-range_with_len 0 (groups_for (length items))

  -- the first groups are those of the first items
  pub take-groups : (n : ℕ) (items : List X) → groups (take (n * 100) items) ≡ take n (groups items)
  take-groups zero items = refl
  take-groups (suc n) [] = ap (groups {X = X}) (take_all (suc n * 100) [] (omega arith)) ∙ sym (take_all (suc n) [] (omega arith))
  take-groups (suc n) (x ∷ xs) =
      let items : List X = x ∷ xs in
      let cut : ℕ = 99 + n * 100 in
      let many : suc n * 100 ≡ suc cut = omega arith in
      let more : suc cut ≡ 100 + n * 100 = omega arith in
      let first : take 100 (take (suc cut) items) ≡ take 100 items = take-take 100 (suc cut) items (omega arith) in
      let rest : drop 100 (take (suc cut) items) ≡ take (n * 100) (drop 100 items) = ap (λ m. drop 100 (take m items)) more ∙ drop-take 100 (n * 100) items in
      ap (λ m. groups (take m items)) many
      ∙ groups_cons x (take cut xs)
      ∙ ap (λ (g : List X). g ∷ groups (drop 100 (x ∷ take cut xs))) first
      ∙ ap (λ (more : List X). take 100 items ∷ groups more) rest
      ∙ ap (λ (gs : List (List X)). take 100 items ∷ gs) (take-groups n (drop 100 items))
      ∙ sym (ap (take (suc n)) (groups_cons x xs))
