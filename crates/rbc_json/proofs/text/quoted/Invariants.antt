use Rattle.std.proofs.Common.{◌≡◌, ◌∷◌, string_bytes}
use Rattle.rbc_json.specs.Json.{characters_text}
use Rattle.rbc_json.proofs.text.quoted.Given as goal

-- the characters that were looked at are written
abbrev pub invariant-loop-c : goal.invariant-loop-c
invariant-loop-c l = string_bytes l.text ≡ 34 ∷ characters_text l.yielded
