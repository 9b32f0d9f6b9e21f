-- Worked cases for the laws on pictures.
use Rattle.std.specs.Prelude.{ℕ, ◌-◌, ◌==◌, Bool, true, false, Option, min, if◌then◌else◌}
use Rattle.rbc_place.specs.Placing.{Place}
use Rattle.rbc_track.specs.declared.group.Way.TheVariants.{Up}
use Rattle.rbc_picture.specs.Window.{x_at}

-- a place on line 1
abbrev pub on_line_1 : Place
on_line_1 = record { line = 1; lrbg = 5; at = 10000; same = true; facing = Up; lo = 9900; hi = 12100 }

-- each train is on line 0
abbrev pub always_on_line_0 : ℕ → Option Place → Bool
always_on_line_0 line place = line == 0

-- no train is without a place
abbrev pub never_lost : Option Place → Bool
never_lost place = false

-- where places stand in the window from 0 to 1000
abbrev pub x_to_1000 : ℕ → ℕ
x_to_1000 place = x_at 0 1000 place

-- the same, turned round
abbrev pub turned : ℕ → ℕ
turned place = 12000 - x_to_1000 place

-- the upper end a pixel too far to the left
abbrev pub a_pixel_short : ℕ → ℕ
a_pixel_short place = min (x_to_1000 place) 11590

-- the middle at the left
abbrev pub broken : ℕ → ℕ
broken place = if place == 500 then 400 else x_to_1000 place
