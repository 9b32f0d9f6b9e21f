-- Why bytes are refused: the first step that fails (own rule).
use Rattle.std.specs.Prelude.{◌≡◌, ◌⊎◌, ℕ, ◌≤◌, List, length}
use Rattle.ertms_bits.specs.Bits.{bits_of_bytes}
use Rattle.ertms_codec.specs.declared.error.DecodeError.{DecodeError}
use Rattle.ertms_codec.specs.Layout.{value_at}

-- the refusal is this one if the step fails, and that of the next steps if it holds
abbrev pub Unless : Type 0 → DecodeError → (DecodeError → Type 0) → DecodeError → Type 0
Unless Step refusal Next e = (¬ Step × (e ≡ refusal)) ⊎ (Step × Next e)

abbrev pub Never : DecodeError → Type 0
Never e = ⊥

-- NID_MESSAGE
abbrev pub number_in : List ℕ → ℕ
number_in bytes = value_at 0 8 (bits_of_bytes bytes)

-- R-REFUSE-3: at least 3 bytes, and L_MESSAGE is their number
abbrev pub HasItsLength : List ℕ → Type 0
HasItsLength bytes = (3 ≤ length bytes) × (value_at 8 10 (bits_of_bytes bytes) ≡ length bytes)
