-- What is active after one more, or one less.
use Rattle.std.proofs.Common.{◌≡◌, ℕ, ◌<◌, ◌≤◌, Bool, true, false, not, if◌then◌else◌, leb, List, [], ◌∷◌, ◌++◌, length, refl, sym, ap, ◌∙◌, arith, Option, is_none, is_some, option_copied, Bor, Result, Ok, Err}
use Rattle.std.specs.List.{All}
use Rattle.std.proofs.lemmas.Bool.{lt-leb}
use Rattle.std.proofs.lemmas.Bool.Decides.{nat_tests}
use Rattle.std.proofs.lemmas.List.Elements.{All-head, All-tail, All-weaker}
use Rattle.rbc_maps.specs.Maps.{has, value_of, with_value, without, keys}
use Rattle.rbc_maps.specs.Numbered.{Numbered, AreNumbered}
use Rattle.rbc_settle.proofs.Judging.{value_is_none, gone_where_none}
use Rattle.rbc_rule.specs.Effect.{with_next, with_less, after_adding, after_removing}
use Rattle.rbc_rule.specs.Codes.{code_of}
use Rattle.rbc_rule.specs.declared.refuse.Refusal.TheVariants.{NumberUsed, BadArea, TooManyActive, NoSuchNumber}

swapped : (a b : Bool) → a ≡ not b → b ≡ not a
swapped true true e = cc
swapped true false e = refl
swapped false true e = refl
swapped false false e = cc

module _ {V : Type 0} where
  with_after : (number : ℕ) (value : V) (pair : ℕ × V) (pairs : List (ℕ × V)) → pair.0 < number → with_value number value (pair ∷ pairs) ≡ pair ∷ with_value number value pairs
  with_after number value pair pairs below = grind (arith, nat_tests)

  -- a number above all that are there goes to the end
  pub with_value-last : (number : ℕ) (value : V) (pairs : List (ℕ × V)) → All (λ k. k < number) (keys pairs) → pairs ++ (number, value) ∷ [] ≡ with_value number value pairs
  with_value-last number value [] below = refl
  with_value-last number value (pair ∷ pairs) below =
      let first : pair.0 < number = All-head (λ k. k < number) pair.0 (keys pairs) below in
      ap (λ (xs : List (ℕ × V)). pair ∷ xs) (with_value-last number value pairs (All-tail (λ k. k < number) pair.0 (keys pairs) below))
      ∙ sym (with_after number value pair pairs first)

  -- one more under a number above the last one
  pub next_is : (number : ℕ) (value : V) (old : Numbered V) → AreNumbered old → old.last < number → record { last = number; active = old.active ++ (number, value) ∷ [] } ≡ with_next number value old
  next_is number value old numbered above =
      let below = All-weaker (λ k. k ≤ old.last) (λ k. k < number) (λ k le. omega (arith, le)) (keys old.active) numbered.within in
      ap (λ (pairs : List (ℕ × V)). record { last = number; active = pairs }) (with_value-last number value old.active below)

  allowed : (most number : ℕ) (good : Bool) (value : V) (old : Numbered V) → leb number old.last ≡ false → good ≡ true → leb most (length old.active) ≡ false → after_adding most good number value old ≡ Ok (with_next number value old)
  allowed most number good value old above is_good few =
      ap (λ used. if used then Err (code_of NumberUsed) else (if good then (if leb most (length old.active) then Err (code_of TooManyActive) else Ok (with_next number value old)) else Err (code_of BadArea))) above
      ∙ ap (λ fine. if fine then (if leb most (length old.active) then Err (code_of TooManyActive) else Ok (with_next number value old)) else Err (code_of BadArea)) is_good
      ∙ ap (λ full. if full then Err (code_of TooManyActive) else Ok (with_next number value old)) few

  -- what was added where nothing refuses it
  pub added : (most number : ℕ) (good : Bool) (value : V) (old new : Numbered V) → AreNumbered old → old.last < number → good ≡ true → length old.active < most → new ≡ record { last = number; active = old.active ++ (number, value) ∷ [] } → Ok new ≡ after_adding most good number value old
  added most number good value old new numbered above is_good few is =
      let to : Numbered V → Result (Numbered V) ℕ = λ n. Ok n in
      ap to (is ∙ next_is number value old numbered above)
      ∙ sym (allowed most number good value old (lt-leb number old.last above) is_good (lt-leb most (length old.active) few))

  module _ (number : ℕ) (gone : Bool) (found : Option (Bor V)) (old : Numbered V) (is : is_some found ≡ not gone) (same : option_copied found ≡ value_of old.active number) where
    there : has old.active number ≡ not gone
    there = swapped gone (has old.active number) (gone_where_none gone found is ∙ ap is_none same ∙ value_is_none old.active number)

    -- what is not there is not taken out
    pub not_there : gone ≡ true → Err (code_of NoSuchNumber) ≡ after_removing number old
    not_there e = sym (ap (λ b. if b then Ok (with_less number old) else Err (code_of NoSuchNumber)) (there ∙ ap not e))

    -- what is there is
    pub removed : (new : Numbered V) → gone ≡ false → new ≡ record { last = old.last; active = without number old.active } → Ok new ≡ after_removing number old
    removed new e after =
        let to : Numbered V → Result (Numbered V) ℕ = λ n. Ok n in
        ap to after ∙ sym (ap (λ b. if b then Ok (with_less number old) else Err (code_of NoSuchNumber)) (there ∙ ap not e))
