-- A message in lines, one for each variable.
use Rattle.std.specs.Prelude.{◌≡◌, ℕ, List, ◌++◌, codes}
use Rattle.std.specs.List.{flat_map}
use Rattle.std.specs.Fmt.{decimal}
use Rattle.ertms_bits.specs.Bits.{bits_of, bits_of_bytes}
use Rattle.rbc_dispatch.specs.Columns.{to_the_left, to_the_right}
use Rattle.rbc_dispatch.specs.Meanings.{meaning_of}
use Rattle.rbc_dispatch.specs.Variables.{name_of, rows_of}
use Rattle.rbc_dispatch.specs.declared.stand.Row.{Row}

-- the line of a row: the place of its first bit, its width, its name, its value, and what that means
abbrev pub line_of : Row → List ℕ
line_of row =
    to_the_right 5 (decimal row.place) ++ (codes " " ++ (to_the_right 5 (decimal row.width) ++ (codes "  " ++ (to_the_left 15 (name_of row.variable)
    ++ (codes " " ++ (to_the_right 10 (decimal row.value) ++ (codes "  " ++ (meaning_of row.variable row.scale row.value ++ codes "\n"))))))))

-- the message that has these bytes: a heading, and the line of each row
abbrev pub long_text : List ℕ → List ℕ
long_text bytes = codes "  bit width  variable             value  meaning\n" ++ flat_map line_of (rows_of (bits_of_bytes bytes))

-- rows show each of some bits: their values at their widths are these bits, one after another
abbrev pub ShowAllBits : List Row → List ℕ → Type 0
ShowAllBits rows bits = flat_map (λ row. bits_of row.width row.value) rows ≡ bits

-- the rows of a message show each of its bits
abbrev pub AllBitsAreShown : Type 0
AllBitsAreShown = (bytes : List ℕ) → ShowAllBits (rows_of (bits_of_bytes bytes)) (bits_of_bytes bytes)
