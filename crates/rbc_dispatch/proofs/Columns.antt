-- Numbers in columns, and a line of them.
use Rattle.std.proofs.Common.{refl, ◌≡◌, ℕ, List, [], ◌++◌, ◌^◌, ◌-◌, false, arith, codes, OnOk, Result}
use Rattle.std.specs.Fmt.{decimal, format_spec, padded_integral, styled_decimal}
use Rattle.std.proofs.Padding.{padded_integral_right}
use Rattle.rbc_dispatch.specs.Columns.{to_the_right}

pub right : (columns : ℕ) (numeral : List ℕ) → padded_integral (format_spec 32 3 0 columns (2 ^ 64 - 1)) false [] numeral ≡ to_the_right columns numeral
right columns numeral = padded_integral_right (format_spec 32 3 0 columns (2 ^ 64 - 1)) numeral refl refl (λ e. cc) (λ e. cc) (omega arith)

pub in_four : (n : ℕ) → styled_decimal (format_spec 32 3 0 4 (2 ^ 64 - 1)) n ≡ to_the_right 4 (decimal n)
in_four n = right 4 (decimal n)

pub in_five : (n : ℕ) → styled_decimal (format_spec 32 3 0 5 (2 ^ 64 - 1)) n ≡ to_the_right 5 (decimal n)
in_five n = right 5 (decimal n)

pub in_ten : (n : ℕ) → styled_decimal (format_spec 32 3 0 10 (2 ^ 64 - 1)) n ≡ to_the_right 10 (decimal n)
in_ten n = right 10 (decimal n)

-- a line whose parts are these
pub same_line : {T E : Type 0} (r : Result T E) (new old a b c d e place width name value meaning : List ℕ) → a ≡ place → b ≡ width → c ≡ name → d ≡ value → e ≡ meaning
    → OnOk r (new ≡ old ++ (a ++ (codes " " ++ (b ++ (codes "  " ++ (c ++ (codes " " ++ (d ++ (codes "  " ++ (e ++ codes "\n"))))))))))
    → OnOk r (new ≡ old ++ (place ++ (codes " " ++ (width ++ (codes "  " ++ (name ++ (codes " " ++ (value ++ (codes "  " ++ (meaning ++ codes "\n"))))))))))
same_line r new old a b c d e place width name value meaning is_a is_b is_c is_d is_e holds = rw (← is_a, ← is_b, ← is_c, ← is_d, ← is_e) holds
