use Rattle.std.proofs.Common.{◌≡◌, ℕ, ◌+◌, ◌*◌, ◌-◌, ◌%◌, ◌^◌, ◌<◌, ◌≤◌, ◌∙◌, List, drop, sym, ap, arith, bit_or, drop-drop, pow-add}
use Rattle.ertms_bits.specs.Bits.{number_of}
use Rattle.ertms_bits.proofs.Numbers.{joined, number_of-add}
use Rattle.ertms_bits.proofs.reader.BitReader.take.Goals as goal

-- a field in two parts
field_is : (bits rest : List ℕ) (first high low : ℕ) → first + 32 ≤ 64 → high ≡ number_of first bits → high < 2 ^ first → rest ≡ drop first bits → low ≡ number_of 32 rest → low < 2 ^ 32 → bit_or (high * 2 ^ 32 % 2 ^ 64) low ≡ number_of (first + 32) bits
field_is bits rest first high low within high_is high_small rest_is low_is low_small =
    joined high low first 32 high_small low_small within
    ∙ rw (number_of-add first 32 bits, ← rest_is, ← high_is, ← low_is)

pub returns-clause-value : goal.returns-clause-value
returns-clause-value c =
    let high = c.take_some-high.ensures in
    let low = c.take_some-low.ensures in
    let first : ℕ = c.args.width - 32 in
    let whole : first + 32 ≡ c.args.width = omega arith in
    rw (← whole)
    (field_is c.args.self.now c.take_some-high.new.self first c.take_some-high.result c.take_some-low.result (omega arith) high.value high.small high.rest low.value low.small)

pub returns-clause-small : goal.returns-clause-small
returns-clause-small c =
    let high : ℕ = c.take_some-high.result in
    let low : ℕ = c.take_some-low.result in
    let first : ℕ = c.args.width - 32 in
    let whole : first + 32 ≡ c.args.width = omega arith in
    let power : 2 ^ c.args.width ≡ 2 ^ first * 2 ^ 32 = ap (λ n. 2 ^ n) (sym whole) ∙ pow-add 2 first 32 in
    let is : bit_or (high * 2 ^ 32 % 2 ^ 64) low ≡ high * 2 ^ 32 + low =
    joined high low first 32 c.take_some-high.ensures.small c.take_some-low.ensures.small (omega arith) in
    omega arith

-- the bits behind both parts
rest_is : (bits between rest : List ℕ) (first width : ℕ) → first + 32 ≡ width → between ≡ drop first bits → rest ≡ drop 32 between → rest ≡ drop width bits
rest_is bits between rest first width whole between_is is =
    is ∙ ap (drop 32) between_is ∙ drop-drop 32 first bits ∙ ap (λ n. drop n bits) whole

pub returns-clause-rest : goal.returns-clause-rest
returns-clause-rest c =
    rest_is c.args.self.now c.take_some-high.new.self c.take_some-low.new.self (c.args.width - 32) c.args.width (omega arith) c.take_some-high.ensures.rest c.take_some-low.ensures.rest
