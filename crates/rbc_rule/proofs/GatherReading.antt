-- What single records say of trains that are gathered.
use Rattle.std.proofs.Common.{◌≡◌, ℕ, ◌<◌, ◌+◌, length, take, get_or, flat_map, ◌||◌, true, false, not, eqb, List, [], ◌∷◌, ◌++◌, Option, Some, None, is_none, refl, sym, ap, ◌∙◌}
use Rattle.std.specs.Option.{option_map_or}
use Rattle.std.proofs.lemmas.List.{take_more, append-nil}
use Rattle.std.proofs.lemmas.Grind.{flat_map-append}
use Rattle.rbc_maps.specs.Maps.{has, value_of, keys}
use Rattle.rbc_settle.specs.Numbers.{has_number}
use Rattle.rbc_settle.proofs.Judging.{value_is_none}

-- a key is among the keys where the map has it
pub among_keys : {V : Type 0} (pairs : List (ℕ × V)) (key : ℕ) → has_number (keys pairs) key ≡ has pairs key
among_keys [] key = refl
among_keys (pair ∷ pairs) key = ap (λ there. eqb pair.0 key || there) (among_keys pairs key)

-- a key among the keys has a value
pub has_value : {V : Type 0} (pairs : List (ℕ × V)) (key : ℕ) → None ≡ value_of pairs key → has_number (keys pairs) key ≡ true → ⊥
has_value pairs key none there =
    let lacks : true ≡ not (has pairs key) = ap is_none none ∙ value_is_none pairs key in
    let bad : true ≡ false = lacks ∙ ap not (sym (among_keys pairs key) ∙ there) in cc

-- what is gathered of a value is what is gathered of it looked up
pub gathered_of : {V X : Type 0} (of : V → List X) (old new : List X) (value : V) (found : Option V) → new ≡ old ++ of value → Some value ≡ found → new ≡ old ++ option_map_or of found []
gathered_of {V} of old new value found is same = is ∙ ap (λ (looked_up : Option V). old ++ option_map_or of looked_up []) same

-- what is gathered of so many, and then of one more
pub one_more_gathered : {X A : Type 0} (of : X → List A) (xs : List X) (i : ℕ) (d : X) → i < length xs → (old new : List A) → old ≡ flat_map of (take i xs) → new ≡ old ++ of (get_or xs i d)
    → new ≡ flat_map of (take (i + 1) xs)
one_more_gathered of xs i d within old new old_is new_is =
    new_is
    ∙ ap (λ ys. ys ++ of (get_or xs i d)) old_is
    ∙ ap (λ ys. flat_map of (take i xs) ++ ys) (sym (append-nil (of (get_or xs i d))))
    ∙ sym (flat_map-append of (take i xs) (get_or xs i d ∷ []))
    ∙ ap (flat_map of) (sym (take_more xs i d within))
