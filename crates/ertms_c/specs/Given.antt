-- Bytes that are given to a caller (own rule).
use Rattle.std.specs.Prelude.{List, ◌++◌, take, drop, length}

-- a list written over the front of another, as far as there is room; the rest of the other stays
abbrev pub fronted : {A : Type 0} → List A → List A → List A
fronted given out = take (length out) given ++ drop (length given) out
