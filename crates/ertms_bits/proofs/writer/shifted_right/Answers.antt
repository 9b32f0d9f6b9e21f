use Rattle.std.proofs.Common.{◌≡◌, ℕ, ◌+◌, ◌/◌, ◌^◌, ◌<◌, ◌≤◌, ◌∙◌, Option, Some, None, SomeIff, unwrap_or, arith, pow_mono, shr_lt, zero-add}
use Rattle.ertms_bits.proofs.writer.shifted_right.Goals as goal

-- a number of 64 bits has none from the 64th on
shifted_is : (shifted : Option ℕ) (value by : ℕ) → value < 2 ^ 64 → SomeIff shifted (by < 64) (value / 2 ^ by) → unwrap_or shifted 0 ≡ value / 2 ^ by
shifted_is None value by small far =
    let past : 64 ≤ by = omega arith in
    let power : 2 ^ 64 ≤ 2 ^ by = pow_mono past in
    let below : value < 2 ^ (0 + by) = rw zero-add (omega arith) in
    let one : value / 2 ^ by < 2 ^ 0 = shr_lt 0 by below in
    omega arith
shifted_is (Some shifted) value by small is = is.1

pub returns : goal.returns
returns c = c.unwrap_or.ensures ∙ shifted_is c.checked_shr.result c.args.value c.args.by c.ranges.value.fits c.checked_shr.ensures
