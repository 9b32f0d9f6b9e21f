use Rattle.std.proofs.Common.{◌≡◌, ℕ, ◌<◌, ◌≤◌, ◌++◌, ◌∙◌, List, ap, length, get_or, take, replicate, arith, length-take-le, get_or-take}
use Rattle.ertms_bits.specs.Bits.{bits_of_bytes, bytes_of}
use Rattle.ertms_bits.proofs.Bytes.{bytes_from_bits}
use Rattle.ertms_codec.proofs.write.put_fill_bits.Goals as goal

-- a front of some bytes, by its bits
front_is : (bytes bits : List ℕ) (used count : ℕ) → used ≤ length bytes → ((i : ℕ) → get_or bytes i 0 < 256) → bits_of_bytes (take used bytes) ≡ bits ++ replicate count 0 → take used bytes ≡ bytes_of used bits
front_is bytes bits used count within small is =
    let long : length (take used bytes) ≡ used = length-take-le used bytes within in
    let each : (i : ℕ) → i < length (take used bytes) → get_or (take used bytes) i 0 < 256 =
    λ i inside. let below : i < used = omega arith in rw get_or-take (small i) in
    bytes_from_bits (take used bytes) bits count each is ∙ ap (λ n. bytes_of n bits) long

pub returns-clause-bytes : goal.returns-clause-bytes
returns-clause-bytes c =
    front_is c.finish.new.buffer _ _ _ (omega arith) (λ i. (c.type_inv.buffer i).fits) c.finish.ensures.bits
