-- The outboxes of a desk in parts, each of which is written by itself.
use Rattle.std.specs.Prelude.{ℕ, ◌+◌, ◌-◌, ◌*◌, ◌/◌, List, [], ◌∷◌, length, take, drop, Result, Ok, Err, ⊤}
use Rattle.std.specs.List.{flat_map}
use Rattle.std.specs.declared.vec.Vec.{Vec}
use Rattle.std.specs.declared.alloc.AllocError.{AllocError}
use Rattle.std.specs.declared.alloc.Global.{Global}
use Rattle.rbc_engine.specs.Mail.{Mail}
use Rattle.rbc_text.specs.OutputText.{outbox_lines}

-- the index of the first outbox of a part, of this many parts
abbrev pub part_start : ℕ → ℕ → ℕ → ℕ
part_start outboxes parts part = outboxes * part / parts

-- the lines of a part, of this many parts
abbrev pub lines_of_part : List (ℕ × List Mail) → ℕ → ℕ → List ℕ
lines_of_part outboxes parts part =
    let from = part_start (length outboxes) parts part in
    flat_map outbox_lines (take (part_start (length outboxes) parts (part + 1) - from) (drop from outboxes))

-- texts, one after another
abbrev pub joined : List (Vec ℕ Global) → List ℕ
joined texts = flat_map (λ text. text.items) texts

-- the bytes of a text, if it was made
abbrev pub bytes_of : Result (Vec ℕ Global) AllocError → List ℕ
bytes_of (Ok text) = text.items
bytes_of (Err refused) = []

-- each of these texts was made
abbrev pub AreMade : List (Result (Vec ℕ Global) AllocError) → Type 0
AreMade [] = ⊤
AreMade (Ok text ∷ texts) = AreMade texts
AreMade (Err refused ∷ texts) = ⊥
