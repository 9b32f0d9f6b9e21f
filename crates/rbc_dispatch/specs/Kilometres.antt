-- The part of a line that a text names in kilometres (own rule).
use Rattle.std.specs.Prelude.{ℕ, ◌+◌, ◌*◌, ◌==◌, Bool, List, ◌++◌, Option, Some, None, option_and_then, if◌then◌else◌, nat_le, nat_lt, length, drop, codes}
use Rattle.std.specs.List.{before_first, after_first}
use Rattle.rbc_text.specs.BatchText.{decimal_of, is_dash}

abbrev pub is_point : ℕ → Bool
is_point byte = byte == 46

-- up to four decimals of a kilometre, in units of 10 cm
abbrev pub units_of : List ℕ → Option ℕ
units_of decimals = if nat_le (length decimals) 4 then decimal_of (decimals ++ drop (length decimals) (codes "0000")) else None

-- the place so many kilometres and units from the beginning of a line, if 32 bits can hold it
abbrev pub place_at : ℕ → ℕ → Option ℕ
place_at km units = if nat_le (km * 10000 + units) 4294967295 then Some (km * 10000 + units) else None

-- the place that a number of kilometres names, with up to four decimals behind a point
abbrev pub place_of : List ℕ → Option ℕ
place_of word = option_and_then (λ km. option_and_then (λ units. place_at km units) (units_of (after_first is_point word))) (decimal_of (before_first is_point word))

-- the part between two places, if the first is less
abbrev pub part_between : Option ℕ → Option ℕ → Option (ℕ × ℕ)
part_between (Some from) (Some to) = if nat_lt from to then Some (from, to) else None
part_between (Some from) None = None
part_between None to = None

-- `FROM-TO`, in kilometres
abbrev pub part_of : List ℕ → Option (ℕ × ℕ)
part_of text = part_between (place_of (before_first is_dash text)) (place_of (after_first is_dash text))
