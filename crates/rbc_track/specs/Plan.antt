-- What a track is: its horizon, the lengths of its lines, and where its balise groups stand. Lengths and places
-- are in units of 10 cm (own rule).
use Rattle.std.specs.Prelude.{◌≡◌, ℕ, ◌≤◌, ◌==◌, List, length, map, Option, Some, slice_get, codes}
use Rattle.std.specs.List.Sorted.{IsStrictlyIncreasing}
use Rattle.std.specs.Map.{lookup}
use Rattle.rbc_track.specs.declared.error.TrackError.{TrackError}
use Rattle.rbc_track.specs.declared.error.TrackError.TheVariants.{Text, Shape, TooManyLines, TooManyGroups, BadLength, GroupOffLine, GroupTwice, OutOfMemory}
use Rattle.rbc_track.specs.declared.group.Group.{Group}

-- the most lines that a track has
abbrev pub max_lines : ℕ
max_lines = 64

-- the most balise groups that a track has
abbrev pub max_groups : ℕ
max_groups = 8000

-- the greatest length of a line, and the greatest horizon: 300 km
abbrev pub max_length : ℕ
max_length = 3000000

-- the greatest number of a balise group; the next number means that the balise group is unknown
abbrev pub max_group_number : ℕ
max_group_number = 16777214

-- a track: its horizon, the length of each line, and each balise group with its number, in ascending order
pub record Plan : Type 0 where
  pub horizon : ℕ
  pub lines : List ℕ
  pub groups : List (ℕ × Group)

-- the balise group with this number
abbrev pub group_of : Plan → ℕ → Option Group
group_of plan nid = lookup (λ number. number == nid) plan.groups

-- a balise group has a number that is not too great, and stands within the length of its line
pub record IsPlaced (plan : Plan) (nid : ℕ) (group : Group) : Type 0 where
  pub number : nid ≤ max_group_number
  pub length : ℕ
  pub line : slice_get plan.lines group.line ≡ Some length
  pub place : group.at ≤ length

-- a length is one that a line or the horizon can have
pub record IsLength (length : ℕ) : Type 0 where
  pub low : 1 ≤ length
  pub high : length ≤ max_length

-- what holds of each track
pub record IsPlan (plan : Plan) : Type 0 where
  pub horizon : IsLength plan.horizon
  pub few_lines : length plan.lines ≤ max_lines
  pub lines : (line n : ℕ) → slice_get plan.lines line ≡ Some n → IsLength n
  pub few_groups : length plan.groups ≤ max_groups
  pub ascending : IsStrictlyIncreasing (map (λ entry. entry.0) plan.groups)
  pub groups : (nid : ℕ) (group : Group) → group_of plan nid ≡ Some group → IsPlaced plan nid group

-- the name of an error
abbrev pub name_of : TrackError → List ℕ
name_of Text = codes "Text"
name_of Shape = codes "Shape"
name_of TooManyLines = codes "TooManyLines"
name_of TooManyGroups = codes "TooManyGroups"
name_of BadLength = codes "BadLength"
name_of GroupOffLine = codes "GroupOffLine"
name_of GroupTwice = codes "GroupTwice"
name_of OutOfMemory = codes "OutOfMemory"
