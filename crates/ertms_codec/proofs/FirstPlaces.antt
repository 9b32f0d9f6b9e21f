-- The first place of a byte, as a search finds it.
use Rattle.std.proofs.Common.{◌≡◌, ℕ, suc, ◌+◌, ◌<◌, ◌&&◌, Bool, true, false, not, cond, eqb, ltb, List, [], ◌∷◌, length, get_or, Option, Some, None, is_some, refl, sym, ap, ◌∙◌, arith}
use Rattle.std.specs.List.{position, position_or_len, list_all}
use Rattle.std.proofs.lemmas.List.Sums.{position_or_len_is}
use Rattle.std.proofs.lemmas.Bool.Decides.{nat_tests}
use Rattle.memchr.specs.Find.{IsFirstByte, is_byte}

refused : (b : Bool) → (b ≡ true → ⊥) → b ≡ false
refused true never = absurd (never refl)
refused false never = refl

at_place : (n len at : ℕ) → n ≡ at → at < len → Some at ≡ cond (ltb n len) (Some n) None
at_place n len at is lt = grind (arith, nat_tests)

nowhere : (n len : ℕ) → n ≡ len → None ≡ cond (ltb n len) (Some n) None
nowhere n len is = grind (arith, nat_tests)

-- the first byte is at the first place
pub first_place : (byte : ℕ) (text : List ℕ) (found : Option ℕ) → IsFirstByte (is_byte byte) text found → found ≡ position (λ b. eqb b byte) text
first_place byte text None is =
    nowhere (position_or_len (λ b. eqb b byte) text) (length text)
    (position_or_len_is (λ b. eqb b byte) text (length text) 0 (omega arith) (λ k lt. refused (eqb (get_or text k 0) byte) (is k (omega arith) lt)) (λ lt. absurd (omega (arith, lt))))
first_place byte text (Some at) (before, here) =
    at_place (position_or_len (λ b. eqb b byte) text) (length text) at
    (position_or_len_is (λ b. eqb b byte) text at 0 (let high = before.high in omega (arith, high)) (λ k lt. refused (eqb (get_or text k 0) byte) (before.before k (omega arith) lt)) (λ lt. here)) before.high

next_below : (n len : ℕ) → ltb (1 + n) (suc len) ≡ ltb n len
next_below n len = grind (arith, nat_tests)

first_below : (len : ℕ) → ltb 0 (suc len) ≡ true
first_below len = grind (arith, nat_tests)

-- a byte that is found nowhere is not there
lacks : (byte : ℕ) (text : List ℕ) → list_all (λ b. cond (eqb b byte) false true) text ≡ not (ltb (position_or_len (λ b. eqb b byte) text) (length text))
lacks byte [] = refl
lacks byte (b ∷ text) = by (eqb b byte) (lacks byte text)
  where
    by : (here : Bool) → list_all (λ b. cond (eqb b byte) false true) text ≡ not (ltb (position_or_len (λ b. eqb b byte) text) (length text))
        → (cond here false true && list_all (λ b. cond (eqb b byte) false true) text) ≡ not (ltb (cond (not here) (1 + position_or_len (λ b. eqb b byte) text) 0) (suc (length text)))
    by true rest = ap not (sym (first_below (length text)))
    by false rest = rest ∙ ap not (sym (next_below (position_or_len (λ b. eqb b byte) text) (length text)))

found_some : (b : Bool) (n : ℕ) → is_some (cond b (Some n) None) ≡ b
found_some true n = refl
found_some false n = refl

turned : (found none : Bool) → found ≡ not none → none ≡ not found
turned found true is = ap not (sym is)
turned found false is = ap not (sym is)

pub found_nowhere : (byte : ℕ) (text : List ℕ) (found : Option ℕ) (none : Bool) → IsFirstByte (is_byte byte) text found → is_some found ≡ not none → none ≡ list_all (λ b. cond (eqb b byte) false true) text
found_nowhere byte text found none first is =
    let place = position_or_len (λ b. eqb b byte) text in
    turned (ltb place (length text)) none (sym (ap is_some (first_place byte text found first) ∙ found_some (ltb place (length text)) place) ∙ is) ∙ sym (lacks byte text)
