-- What a writer of fields has done to its place and to its buffer.
use Rattle.std.specs.Prelude.{◌≡◌, ℕ, ◌+◌, ◌*◌, ◌≤◌, List, [], ◌∷◌, ◌++◌, length, take, drop}
use Rattle.ertms_bits.specs.Bits.{bits_of_bytes, bytes_for}
use Rattle.ertms_codec.specs.declared.to_train.Head.{Head}
use Rattle.ertms_codec.specs.Layout.{Field, width_of, bits_of_fields, HoldValues}
use Rattle.ertms_codec.specs.Variables.{nid_message, l_message, t_train, m_ack, nid_lrbg}

-- fields that hold their values were written from a place in some bytes up to an end: what stood before the place
-- stays, and so do the bytes after the end
pub record Writes (fields : List Field) (place : ℕ) (before : List ℕ) (end : ℕ) (after : List ℕ) : Type 0 where
  pub holds : HoldValues fields
  pub moved : end ≡ place + width_of fields
  pub within : end ≤ 8 * length after
  pub bits : take end (bits_of_bytes after) ≡ take place (bits_of_bytes before) ++ bits_of_fields fields
  pub behind : drop (bytes_for end) after ≡ drop (bytes_for end) before

-- what begins every message, by its number and its number of bytes
abbrev pub header_of : ℕ → ℕ → Head → List Field
header_of number bytes head = nid_message number ∷ l_message bytes ∷ t_train head.stamp ∷ m_ack head.ack ∷ nid_lrbg head.lrbg ∷ []
