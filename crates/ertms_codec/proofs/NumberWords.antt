-- Numbers as words of a text.
use Rattle.std.proofs.Common.{◌≡◌, ℕ, ◌<◌, ◌^◌, List, Result, Ok, Err, ℤ, refl, true, false}
use Rattle.std.specs.Str.{bytes_eq}
use Rattle.std.proofs.lemmas.Slice.Eq.{bytes_eq-Decides}
use Rattle.std.specs.Fmt.{decimal, signed_decimal}
use Rattle.std.specs.Int.{Width}
use Rattle.std.specs.Int.Signed.{mag}
use Rattle.std.specs.Int.RustNames.{FitsSigned}
use Rattle.std.specs.Str.Parse.{ParsesUnsigned, ParsesSigned}
use Rattle.std.proofs.lemmas.Fmt.{parse-decimal, parse-signed_decimal}

err_is_no_ok : {A E : Type 0} (e : E) (a : A) → Err e ≡ Ok a → ⊥
err_is_no_ok e a is = cc

same_ok : {A E : Type 0} (a b : A) (r : Result A E) → r ≡ Ok a → r ≡ Ok b → a ≡ b
same_ok a b r first second = cc

-- the word of a number is read as a number, and as no other
pub not_refused : (E : Type 0) (k number : ℕ) (word : List ℕ) (e : E) → number < 2 ^ k → number < 2 ^ 64 → word ≡ decimal number → ParsesUnsigned {E = E} k 10 word (Err e) → ⊥
not_refused E k number word e fits small is parses = err_is_no_ok e number (parse-decimal {E = E} k number word (Err e) fits small is parses)

pub no_other : (E : Type 0) (k number read : ℕ) (word : List ℕ) → number < 2 ^ k → number < 2 ^ 64 → word ≡ decimal number → ParsesUnsigned {E = E} k 10 word (Ok read) → word ≡ decimal read
no_other E k number read word fits small is parses =
    let same : read ≡ number = same_ok {E = E} read number (Ok read) refl (parse-decimal {E = E} k number word (Ok read) fits small is parses) in
    rw same is

-- the same with a sign
pub not_refused_signed : (E : Type 0) (w : Width) (number : ℤ) (word : List ℕ) (e : E) → FitsSigned w number → mag number < 2 ^ 63 → word ≡ signed_decimal number → ParsesSigned {E = E} w 10 word (Err e) → ⊥
not_refused_signed E w number word e fits small is parses = err_is_no_ok e number (parse-signed_decimal {E = E} w number word (Err e) fits small is parses)

pub no_other_signed : (E : Type 0) (w : Width) (number read : ℤ) (word : List ℕ) → FitsSigned w number → mag number < 2 ^ 63 → word ≡ signed_decimal number → ParsesSigned {E = E} w 10 word (Ok read) → word ≡ signed_decimal read
no_other_signed E w number read word fits small is parses =
    let same : read ≡ number = same_ok {E = E} read number (Ok read) refl (parse-signed_decimal {E = E} w number word (Ok read) fits small is parses) in
    rw same is

pub false_is_not_true : false ≡ true → ⊥
false_is_not_true is = cc

pub bytes_eq-same : (a b : List ℕ) → a ≡ b → bytes_eq a b ≡ true
bytes_eq-same a b is = (bytes_eq-Decides a b).1 is
