-- Places, lengths and counts as people read them (own rule). Units are of 10 cm.
use Rattle.std.specs.Prelude.{ℕ, List, ◌++◌, ◌==◌, ◌/◌, ◌%◌, if◌then◌else◌, codes}
use Rattle.std.specs.Fmt.{decimal}

-- kilometres with three decimals
abbrev pub km_in_metres : ℕ → List ℕ
km_in_metres units = decimal (units / 10000) ++ (codes "." ++ (decimal (units / 1000 % 10) ++ (decimal (units / 100 % 10) ++ decimal (units / 10 % 10))))

-- kilometres with three decimals, and a fourth if it is not 0
abbrev pub km_text : ℕ → List ℕ
km_text units = if units % 10 == 0 then km_in_metres units else km_in_metres units ++ decimal (units % 10)

-- metres, with a tenth if it is not 0
abbrev pub metres_text : ℕ → List ℕ
metres_text units = if units % 10 == 0 then decimal (units / 10) else decimal (units / 10) ++ (codes "." ++ decimal (units % 10))

-- a number of things: the plural of the noun ends in s
abbrev pub count_text : ℕ → List ℕ → List ℕ
count_text number noun = decimal number ++ (codes " " ++ (noun ++ (if number == 1 then codes "" else codes "s")))
