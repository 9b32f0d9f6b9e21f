-- Columns of a text.
use Rattle.std.specs.Prelude.{ℕ, List, ◌++◌, ◌-◌, length, replicate}

-- a text with blanks before it, so that it takes this many columns
abbrev pub to_the_right : ℕ → List ℕ → List ℕ
to_the_right columns text = replicate (columns - length text) 32 ++ text

-- a text with blanks after it
abbrev pub to_the_left : ℕ → List ℕ → List ℕ
to_the_left columns text = text ++ replicate (columns - length text) 32
