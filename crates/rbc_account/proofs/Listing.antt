-- A list that is made one after another, of what some of the elements of another give.
use Rattle.std.proofs.Common.{◌≡◌, ℕ, ◌+◌, ◌<◌, ◌≤◌, List, [], ◌∷◌, ◌++◌, length, get_or, take, drop, map, Option, Some, None, refl, sym, ap, ◌∙◌, append_assoc, subst, suc}
use Rattle.std.specs.Prelude.{slice_get}
use Rattle.std.specs.List.{filter_map, cons_option}
use Rattle.std.proofs.lemmas.List.{at_drop_more, at_drop_all, map-append, append-nil, take_more}
use Rattle.rbc_account.specs.Subjects.{ArePaired}
use Rattle.std.proofs.lemmas.Option.{slice_get_within, get_or_from_slice_get}

module _ {A B C : Type 0} (give : A → Option C) (show : B → C) (xs : List A) (d : A) where
  -- what is made, with what is left
  pub made_and_left : List B → ℕ → List C
  made_and_left made i = map show made ++ filter_map give (drop i xs)

  pub begun : made_and_left [] 0 ≡ filter_map give xs
  unfolding made_and_left
  begun = refl

  pub none_made : (made : List B) (i : ℕ) → i < length xs → give (get_or xs i d) ≡ None → made_and_left made (i + 1) ≡ made_and_left made i
  unfolding made_and_left
  none_made made i within none =
      ap (λ (rest : List C). map show made ++ rest)
      (sym (at_drop_more (filter_map give) xs i d within ∙ ap (λ (o : Option C). cons_option o (filter_map give (drop (i + 1) xs))) none))

  pub one_made : (made : List B) (one : B) (i : ℕ) → i < length xs → give (get_or xs i d) ≡ Some (show one) → made_and_left (made ++ one ∷ []) (i + 1) ≡ made_and_left made i
  unfolding made_and_left
  one_made made one i within some =
      ap (λ (shown : List C). shown ++ filter_map give (drop (i + 1) xs)) (map-append show made (one ∷ []))
      ∙ append_assoc (map show made) (show one ∷ []) (filter_map give (drop (i + 1) xs))
      ∙ ap (λ (rest : List C). map show made ++ rest)
      (sym (at_drop_more (filter_map give) xs i d within ∙ ap (λ (o : Option C). cons_option o (filter_map give (drop (i + 1) xs))) some))

  pub all_made : (made : List B) (i : ℕ) → length xs ≤ i → made_and_left made i ≡ map show made
  unfolding made_and_left
  all_made made i all = ap (λ (rest : List C). map show made ++ rest) (at_drop_all (filter_map give) xs i all) ∙ append-nil (map show made)

-- two lists that go together, with one more of each
paired_push : {A B : Type 0} (Is : A → B → Type 0) (xs : List A) (ys : List B) (x : A) (y : B) → ArePaired Is xs ys → Is x y → ArePaired Is (xs ++ x ∷ []) (ys ++ y ∷ [])
paired_push Is [] [] x y all one = (one, tt)
paired_push Is (first ∷ xs) (other ∷ ys) x y all one = (all.0, paired_push Is xs ys x y all.1 one)
paired_push Is [] (other ∷ ys) x y all one = absurd all
paired_push Is (first ∷ xs) [] x y all one = absurd all

pub paired_more : {A B : Type 0} (Is : A → B → Type 0) (xs : List A) (ys : List B) (i : ℕ) (x : A) (y : B) → slice_get xs i ≡ Some x
    → ArePaired Is (take i xs) ys → Is x y → ArePaired Is (take (i + 1) xs) (ys ++ y ∷ [])
paired_more {A} Is xs ys i x y there all one =
    let more : take (i + 1) xs ≡ take i xs ++ x ∷ [] =
    take_more xs i x (slice_get_within xs i x there) ∙ ap (λ (z : A). take i xs ++ z ∷ []) (get_or_from_slice_get xs i x x there) in
    subst (λ (zs : List A). ArePaired Is zs (ys ++ y ∷ [])) (sym more) (paired_push Is (take i xs) ys x y all one)

pub paired_length : {A B : Type 0} (Is : A → B → Type 0) (xs : List A) (ys : List B) → ArePaired Is xs ys → length ys ≡ length xs
paired_length Is [] [] all = refl
paired_length Is (x ∷ xs) (y ∷ ys) all = ap (λ n. suc n) (paired_length Is xs ys all.1)
paired_length Is [] (y ∷ ys) all = absurd all
paired_length Is (x ∷ xs) [] all = absurd all
