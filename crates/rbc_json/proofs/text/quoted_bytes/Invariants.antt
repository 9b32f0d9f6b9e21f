use Rattle.std.proofs.Common.{◌≡◌, ◌∷◌, take, string_bytes}
use Rattle.rbc_json.specs.Json.{characters_text}
use Rattle.rbc_json.proofs.text.quoted_bytes.Given as goal

-- the bytes that were looked at are written
abbrev pub invariant-loop-byte : goal.invariant-loop-byte
invariant-loop-byte l = string_bytes l.text ≡ 34 ∷ characters_text (take l.byte-index l.bytes)
