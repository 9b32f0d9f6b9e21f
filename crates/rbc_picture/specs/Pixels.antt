-- Lengths and coordinates on a picture (own rule), in tenths of a pixel.
use Rattle.std.specs.Prelude.{ℕ, List, ◌++◌, ◌==◌, ◌/◌, ◌%◌, if◌then◌else◌, codes}
use Rattle.std.specs.Fmt.{decimal}

-- pixels, with a decimal if it is not 0
abbrev pub pixels_text : ℕ → List ℕ
pixels_text tenths =
    if tenths % 10 == 0 then decimal (tenths / 10) else decimal (tenths / 10) ++ (codes "." ++ decimal (tenths % 10))
