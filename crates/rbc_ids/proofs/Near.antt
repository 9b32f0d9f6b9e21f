-- Where a number is told among the slots, whichever part is searched first.
use Rattle.std.proofs.Common.{◌≡◌, ℕ, ◌+◌, ◌-◌, Bool, true, false, cond, ◌||◌, List, [], ◌∷◌, length, take, drop, Some, is_some, refl, sym, ap, ◌∙◌}
use Rattle.std.specs.List.{list_any, position, position_from}
use Rattle.std.proofs.lemmas.Bool.{or_left, or_right}
use Rattle.std.proofs.lemmas.Iterator.Adapters.{position_from-zero}
use Rattle.std.proofs.lemmas.List.{take-append-drop, take_rest}
use Rattle.std.proofs.lemmas.List.Folds.{list_any-append}
use Rattle.rbc_ids.specs.Table.{Slots, tells, is_told}

module _ {X : Type 0} where
  found_from : (test : X → Bool) (i : ℕ) (xs : List X) → is_some (position_from test i xs) ≡ list_any test xs
  found_from test i [] = refl
  found_from test i (x ∷ xs) =
      elim (test x) as (λ b. is_some (cond b (Some i) (position_from test (i + 1) xs)) ≡ (b || list_any test xs)) [
        | true ↦ refl
        | false ↦ found_from test (i + 1) xs
      ]

  -- a first index is found exactly where one of the list passes
  pub position_is_some : (test : X → Bool) (xs : List X) → is_some (position test xs) ≡ list_any test xs
  position_is_some test xs = ap is_some (position_from-zero test xs) ∙ found_from test 0 xs

abbrev behind : Slots → ℕ → Slots
behind slots i = take (length slots - i) (drop i slots)

-- a number is told where one of both parts tells it
told_in_parts : (slots : Slots) (i number : ℕ) → is_told slots number ≡ (is_told (take i slots) number || is_told (behind slots i) number)
told_in_parts slots i number =
    ap (λ all. is_told all number) (sym (take-append-drop i slots))
    ∙ list_any-append (λ held. tells number held.1) (take i slots) (drop i slots)
    ∙ ap (λ rest. is_told (take i slots) number || is_told rest number) (sym (take_rest slots i))

pub found_behind : (held slots : Slots) (i number : ℕ) → held ≡ slots → true ≡ is_told (take (length held - i) (drop i held)) number → true ≡ is_told slots number
found_behind held slots i number same found =
    sym (told_in_parts held i number ∙ or_right (is_told (take i held) number) (is_told (behind held i) number) (sym found)) ∙ ap (λ all. is_told all number) same

pub found_before : (held slots : Slots) (i number : ℕ) → held ≡ slots → true ≡ is_told (take i held) number → true ≡ is_told slots number
found_before held slots i number same found =
    sym (told_in_parts held i number ∙ or_left (is_told (take i held) number) (is_told (behind held i) number) (sym found)) ∙ ap (λ all. is_told all number) same

pub found_nowhere : (held slots : Slots) (i number : ℕ) → held ≡ slots → false ≡ is_told (take (length held - i) (drop i held)) number → false ≡ is_told (take i held) number → false ≡ is_told slots number
found_nowhere held slots i number same not_behind not_before =
    ap (λ b. b || false) not_before ∙ ap (λ b. is_told (take i held) number || b) not_behind ∙ sym (told_in_parts held i number) ∙ ap (λ all. is_told all number) same
