-- Bits of numbers and of bytes, the most significant one first. A bit is 0 or 1.
use Rattle.std.specs.Prelude.{ℕ, zero, suc, ◌+◌, ◌*◌, ◌/◌, ◌^◌, ◌<◌, List, [], ◌∷◌, drop}
use Rattle.std.specs.List.{flat_map}
use Rattle.std.specs.Int.{bit_at}

-- the low bits of a number, as many as the width says
unfoldable pub bits_of : ℕ → ℕ → List ℕ
bits_of zero value = []
bits_of (suc width) value = bit_at value width ∷ bits_of width value

-- the bits of bytes, one byte after the other
abbrev pub bits_of_bytes : List ℕ → List ℕ
bits_of_bytes bytes = flat_map (bits_of 8) bytes

-- each is 0 or 1
abbrev pub AreBits : List ℕ → Type 0
AreBits [] = Unit {0}
AreBits (bit ∷ bits) = (bit < 2) × AreBits bits

-- how many bytes this many bits take
abbrev pub bytes_for : ℕ → ℕ
bytes_for bits = (bits + 7) / 8

-- the number that this many bits stand for; missing bits are 0
unfoldable pub number_of : ℕ → List ℕ → ℕ
number_of zero bits = 0
number_of (suc width) [] = 0
number_of (suc width) (bit ∷ bits) = bit * 2 ^ width + number_of width bits

-- this many bytes, made of the bits in turn; missing bits are 0
unfoldable pub bytes_of : ℕ → List ℕ → List ℕ
bytes_of zero bits = []
bytes_of (suc count) bits = number_of 8 bits ∷ bytes_of count (drop 8 bits)
