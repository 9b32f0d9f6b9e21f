-- How variables are laid out in bits and in bytes (SUBSET-026, chapter 7.3).
use Rattle.std.specs.Prelude.{ℕ, ◌<◌, ◌^◌, List, drop}
use Rattle.std.specs.List.{flat_map, sum_by, AllByRecursion}
use Rattle.ertms_bits.specs.Bits.{bits_of, bytes_for, bytes_of, number_of}

-- a variable of the standard as it stands in a message: how many bits it takes, and its value
pub record Field : Type 0 where
  pub width : ℕ
  pub value : ℕ

abbrev pub field : ℕ → ℕ → Field
field width value = record { width = width; value = value }

-- the bits of fields, one after the other
abbrev pub bits_of_fields : List Field → List ℕ
bits_of_fields fields = flat_map (λ f. bits_of f.width f.value) fields

abbrev pub width_of : List Field → ℕ
width_of fields = sum_by (λ f. f.width) fields

-- the bytes that the fields take, the last one filled up with 0
abbrev pub bytes_of_fields : List Field → List ℕ
bytes_of_fields fields = bytes_of (bytes_for (width_of fields)) (bits_of_fields fields)

-- a field is wide enough for its value
abbrev pub HoldsValue : Field → Type 0
HoldsValue f = f.value < 2 ^ f.width

abbrev pub HoldValues : List Field → Type 0
HoldValues fields = AllByRecursion HoldsValue fields

-- the number in this many bits from a place on, which is counted in bits
abbrev pub value_at : ℕ → ℕ → List ℕ → ℕ
value_at place width bits = number_of width (drop place bits)
