use Rattle.std.proofs.Common.{◌≡◌, ℕ, ◌+◌, ◌-◌, ◌*◌, ◌/◌, ◌%◌, ◌^◌, ◌<◌, ◌++◌, ◌∙◌, List, sym, ap, subst, arith, length, take, drop, set, replicate, pow-add, mul_assoc, append_assoc, take-add}
use Rattle.std.proofs.lemmas.Nat.{mul-mod_first}
use Rattle.std.proofs.lemmas.List.{take-append-le, drop-set-lt}
use Rattle.ertms_bits.specs.Bits.{bits_of, bits_of_bytes}
use Rattle.ertms_bits.proofs.Bits.{length-bits_of, drop-bits_of, bits_of-mod, bits_of-shl, take-bits_of, bits_of_bytes-take-set}
use Rattle.ertms_bits.proofs.writer.put_bytes.Goals as goal

-- what is left of a window after so many bytes
left_of : ℕ → ℕ → ℕ
left_of window k = window * 2 ^ (8 * k) % 2 ^ 64

-- one byte more is shifted out
left_of-more : (window k : ℕ) → left_of window k * 2 ^ 8 % 2 ^ 64 ≡ left_of window (k + 1)
unfolding left_of
left_of-more window k =
    let power : 2 ^ (8 * k) * 2 ^ 8 ≡ 2 ^ (8 * (k + 1)) = sym (pow-add 2 (8 * k) 8) ∙ ap (λ n. 2 ^ n) (omega arith) in
    mul-mod_first (window * 2 ^ (8 * k)) (2 ^ 8) (2 ^ 64)
    ∙ ap (λ n. n % 2 ^ 64) (mul_assoc window (2 ^ (8 * k)) (2 ^ 8) ∙ ap (λ n. window * n) power)

-- the byte at the top of what is left is the next of the window
bits_of_top : (window k : ℕ) → k < 8 → bits_of 8 (left_of window k / 2 ^ 56) ≡ take 8 (drop (8 * k) (bits_of 64 window))
unfolding left_of
bits_of_top window k below =
    let n : ℕ = 8 * k in
    let low : ℕ = 64 - n in
    let split : n + low ≡ 64 = omega arith in
    let turned : low + n ≡ 64 = omega arith in
    let rest : drop n (bits_of 64 window) ≡ bits_of low window =
    subst (λ width. drop n (bits_of width window) ≡ bits_of low window) split (drop-bits_of n low window) in
    let left : bits_of 64 (window * 2 ^ n) ≡ bits_of low window ++ replicate n 0 =
    subst (λ width. bits_of width (window * 2 ^ n) ≡ bits_of low window ++ replicate n 0) turned (bits_of-shl low n window) in
    sym (take-bits_of 8 56 (window * 2 ^ n % 2 ^ 64))
    ∙ rw (bits_of-mod 64 (window * 2 ^ n), left, rest) (take-append-le 8 (bits_of low window) (replicate n 0) (rw (length-bits_of low window) (omega arith)))

-- one byte more of the window is written
written_more : (buffer : List ℕ) (before : List ℕ) (i k window : ℕ) → i < length buffer → k < 8 → bits_of_bytes (take i buffer) ≡ before ++ take (8 * k) (bits_of 64 window) → bits_of_bytes (take (i + 1) (set buffer i (left_of window k / 2 ^ 56))) ≡ before ++ take (8 * (k + 1)) (bits_of 64 window)
written_more buffer before i k window inside below so_far =
    let step : 8 * (k + 1) ≡ 8 * k + 8 = omega arith in
    rw (bits_of_bytes-take-set buffer i _ inside, so_far, bits_of_top window k below, step, take-add (8 * k) 8, append_assoc)

pub loop-i-preserved : goal.loop-i-preserved
unfolding left_of
loop-i-preserved c =
    let before = c.loop-i.invariant in
    let k : ℕ = c.loop-i.i - c.args.at in
    let next : c.loop-i.i + 1 - c.args.at ≡ k + 1 = omega arith in
    record {
      rest = rw (next, before.rest) (left_of-more c.args.window k);
      bits = rw (next, before.rest) (written_more c.loop-i.buffer _ c.loop-i.i k c.args.window (omega arith) (omega arith) before.bits);
      behind = drop-set-lt (c.args.at + c.args.count) _ c.loop-i.i _ (omega arith) ∙ before.behind;
    }
