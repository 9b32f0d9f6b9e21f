-- Values of two lists side by side, with one element more.
use Rattle.std.proofs.Common.{◌≡◌, ◌∙◌, ℕ, ◌+◌, List, [], ◌∷◌, ◌++◌, length, take, Some, ap, sym, subst}
use Rattle.std.specs.Prelude.{slice_get}
use Rattle.std.proofs.Math.Seq.{take-length}
use Rattle.std.proofs.lemmas.List.{take_more}
use Rattle.std.proofs.lemmas.Option.{slice_get_within, get_or_from_slice_get}
use Rattle.rbc_json.specs.Json.{Json}
use Rattle.rbc_json.specs.Lists.{AreTogether}

module _ {A B : Type 0} (Is : A → B → Json → Type 0) where
  behind : (some : List A) (others : List B) (values : List Json) (a : A) (b : B) (value : Json) → AreTogether Is some others values → Is a b value
      → AreTogether Is (some ++ a ∷ []) (others ++ b ∷ []) (values ++ value ∷ [])
  behind [] [] [] a b value all one = (one, tt)
  behind (x ∷ some) (y ∷ others) (z ∷ values) a b value all one = (all.0, behind some others values a b value all.1 one)
  behind [] [] (z ∷ values) a b value all one = absurd all
  behind [] (y ∷ others) [] a b value all one = absurd all
  behind [] (y ∷ others) (z ∷ values) a b value all one = absurd all
  behind (x ∷ some) [] [] a b value all one = absurd all
  behind (x ∷ some) [] (z ∷ values) a b value all one = absurd all
  behind (x ∷ some) (y ∷ others) [] a b value all one = absurd all

  next : {X : Type 0} (all : List X) (i : ℕ) (x : X) → slice_get all i ≡ Some x → take (i + 1) all ≡ take i all ++ x ∷ []
  next {X} all i x there = take_more all i x (slice_get_within all i x there) ∙ ap (λ (y : X). take i all ++ y ∷ []) (get_or_from_slice_get all i x x there)

  pub together_more : (some : List A) (others : List B) (values : List Json) (i : ℕ) (a : A) (b : B) (value : Json) → slice_get some i ≡ Some a → slice_get others i ≡ Some b
      → AreTogether Is (take i some) (take i others) values → Is a b value → AreTogether Is (take (i + 1) some) (take (i + 1) others) (values ++ value ∷ [])
  together_more some others values i a b value one two all is =
      subst (λ (xs : List A). AreTogether Is xs (take (i + 1) others) (values ++ value ∷ [])) (sym (next some i a one))
      (subst (λ (ys : List B). AreTogether Is (take i some ++ a ∷ []) ys (values ++ value ∷ [])) (sym (next others i b two))
      (behind (take i some) (take i others) values a b value all is))

  pub together_all : (some : List A) (others : List B) (values : List Json) → length others ≡ length some
      → AreTogether Is (take (length some) some) (take (length some) others) values → AreTogether Is some others values
  together_all some others values same all =
      subst (λ (xs : List A). AreTogether Is xs others values) (take-length some)
      (subst (λ (ys : List B). AreTogether Is (take (length some) some) ys values) (ap (λ n. take n others) (sym same) ∙ take-length others) all)
