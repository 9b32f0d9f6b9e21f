-- The part of a line that a panel shows. Places on the line are in units of 10 cm, places on the picture in tenths of a pixel.
use Rattle.std.specs.Prelude.{◌≡◌, ℕ, ◌+◌, ◌-◌, ◌*◌, ◌/◌, ◌<◌, ◌≤◌, min}

-- the greatest length of a line
abbrev pub max_length : ℕ
max_length = 3000000

-- where the lower end of a window stands on the picture
abbrev pub left_end : ℕ
left_end = 400

-- where its upper end stands
abbrev pub right_end : ℕ
right_end = 11600

-- where a place stands on the picture, in the window from `low` to `high`
abbrev pub x_at : ℕ → ℕ → ℕ → ℕ
x_at low high place = 400 + (min place high - low) * 11200 / (high - low)

-- a window shows the places of a line from the first to the second of two
abbrev pub Shows : ℕ → ℕ × ℕ → ℕ → ℕ → Type 0
Shows length ends low high = ends.1 ≤ length → length ≤ max_length → (low ≤ ends.0) × (ends.1 ≤ high)

-- The lower end of a window is at the left, its upper end at the right, and order on the picture is order on the line.
-- Each place on the line has one on the picture.
pub record KeepsOrder (x : ℕ → ℕ) (low high : ℕ) : Type 0 where
  pub first : x low ≡ left_end
  pub last : x high ≡ right_end
  pub rises : (place next : ℕ) → place ≤ next → x place ≤ x next

-- the same for each window
abbrev pub EachWindowKeepsOrder : Type 0
EachWindowKeepsOrder = (low high : ℕ) → low < high → KeepsOrder (x_at low high) low high
