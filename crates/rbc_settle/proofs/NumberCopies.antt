-- A copy of an ascending list that is put together from its two parts, with a number between them or without the one that stood there.
use Rattle.std.proofs.Common.{◌≡◌, ℕ, suc, ◌-◌, List, [], ◌∷◌, ◌++◌, length, take, drop, ap, ◌∙◌, append_assoc}
use Rattle.std.specs.List.{insert, remove}
use Rattle.std.proofs.lemmas.List.{take_rest}

-- the part before, the number, and the part behind
pub put_in : (n put at : ℕ) (items one two made before between whole : List ℕ) → put ≡ n → one ≡ items → two ≡ items → made ≡ []
    → before ≡ made ++ take at one → between ≡ before ++ put ∷ [] → whole ≡ between ++ take (length two - at) (drop at two)
    → whole ≡ insert items at n
put_in n put at items one two made before between whole put_is one_is two_is made_is before_is between_is whole_is =
    let behind : take (length two - at) (drop at two) ≡ drop at items = take_rest two at ∙ ap (drop at) two_is in
    let first : before ≡ take at items = before_is ∙ ap (λ (xs : List ℕ). xs ++ take at one) made_is ∙ ap (take at) one_is in
    let front : between ≡ take at items ++ n ∷ [] = between_is ∙ ap (λ k. before ++ k ∷ []) put_is ∙ ap (λ (xs : List ℕ). xs ++ n ∷ []) first in
    whole_is ∙ ap (λ (xs : List ℕ). between ++ xs) behind ∙ ap (λ (xs : List ℕ). xs ++ drop at items) front
    ∙ append_assoc (take at items) (n ∷ []) (drop at items)

-- the part before, and the part behind the number
pub left_out : (at next : ℕ) (items one two made before whole : List ℕ) → next ≡ suc at → one ≡ items → two ≡ items → made ≡ []
    → before ≡ made ++ take at one → whole ≡ before ++ take (length two - next) (drop next two) → whole ≡ remove items at
left_out at next items one two made before whole next_is one_is two_is made_is before_is whole_is =
    let last = take_rest two next ∙ ap (drop next) two_is in
    let behind : take (length two - next) (drop next two) ≡ drop (suc at) items = last ∙ ap (λ k. drop k items) next_is in
    let first : before ≡ take at items = before_is ∙ ap (λ (xs : List ℕ). xs ++ take at one) made_is ∙ ap (take at) one_is in
    whole_is ∙ ap (λ (xs : List ℕ). before ++ xs) behind ∙ ap (λ (xs : List ℕ). xs ++ drop (suc at) items) first
