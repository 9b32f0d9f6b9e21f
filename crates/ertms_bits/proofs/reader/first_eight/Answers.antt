use Rattle.std.proofs.Common.{◌≡◌, ℕ, ◌+◌, ◌*◌, ◌^◌, ◌<◌, ◌∙◌, List, [], ◌∷◌, get_or, refl, arith}
use Rattle.std.specs.Int.{w64, from_be_bytes}
use Rattle.ertms_bits.specs.Bits.{bits_of_bytes, number_of}
use Rattle.ertms_bits.proofs.Numbers.{number_of-byte_more}
use Rattle.ertms_bits.proofs.reader.first_eight.Goals as goal

-- no bits stand for 0
none : (bits : List ℕ) → number_of 0 bits ≡ 0
unfolding number_of
none bits = refl

-- eight bytes are read one after the other
eight : (n : ℕ → ℕ) (b : ℕ → ℕ) → n 0 ≡ 0 → ((i : ℕ) → i < 8 → n (i + 1) ≡ n i * 2 ^ 8 + b i) → from_be_bytes w64 (b 0 ∷ b 1 ∷ b 2 ∷ b 3 ∷ b 4 ∷ b 5 ∷ b 6 ∷ b 7 ∷ []) ≡ n 8
eight n b start more =
    omega (arith, start, more 0 (omega arith), more 1 (omega arith), more 2 (omega arith), more 3 (omega arith), more 4 (omega arith), more 5 (omega arith), more 6 (omega arith), more 7 (omega arith))

pub returns : goal.returns
returns c =
    let bytes : List ℕ = c.args.bytes.now in
    c.from_be_bytes.ensures
    ∙ eight (λ i. number_of (8 * i) (bits_of_bytes bytes)) (λ i. get_or bytes i 0) (none (bits_of_bytes bytes))
    (λ i inside. number_of-byte_more i bytes (omega arith) (c.type_inv.bytes i).fits)
