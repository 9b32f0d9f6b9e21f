-- Where a train may stand, according to its position report (own rule, from the variables of SUBSET-026, chapter 7).
-- Places and lengths are whole units of 10 cm. The places of a line are 0 to its length.
use Rattle.std.specs.Prelude.{◌≡◌, ℕ, ◌+◌, ◌-◌, ◌*◌, ◌^◌, ◌≤◌, min, max, Bool, true, false, ◌&&◌, ◌==◌, nat_lt, nat_le, if◌then◌else◌, Option, Some, None, is_none, option_and_then, slice_get, slice_index}
use Rattle.ertms_codec.specs.declared.from_train.Position.{Position}
use Rattle.rbc_track.specs.Plan.{Plan, group_of, max_group_number, max_length}
use Rattle.rbc_track.specs.declared.group.Group.{Group}
use Rattle.rbc_track.specs.declared.group.Way.{Way}
use Rattle.rbc_track.specs.declared.group.Way.TheVariants.{Up, Down}

-- where a train may stand: on a line, from `lo` to `hi`
pub record Place : Type 0 where
  pub line : ℕ
  pub lrbg : ℕ  -- the number of the balise group that its report counts from
  pub at : ℕ  -- where that balise group lies
  pub same : Bool  -- whether its nominal direction is up
  pub facing : Way  -- how the train faces
  pub lo : ℕ
  pub hi : ℕ

-- each place has a number that a balise group can have, places that a line can have, and its ends in order
pub record IsSound (p : Place) : Type 0 where
  pub group : p.lrbg ≤ max_group_number
  pub at : p.at ≤ max_length
  pub ordered : p.lo ≤ p.hi
  pub within : p.hi ≤ max_length

-- the balise group of a place and its whole interval are on its line
pub record LiesOnLine (plan : Plan) (p : Place) : Type 0 where
  pub length : ℕ
  pub line : slice_get plan.lines p.line ≡ Some length
  pub at : p.at ≤ length
  pub ordered : p.lo ≤ p.hi
  pub within : p.hi ≤ length

-- whether a way is up
abbrev pub is_up : Way → Bool
is_up Up = true
is_up Down = false

-- the other way
abbrev pub back : Way → Way
back Up = Down
back Down = Up

-- how far a line that ends at `end` goes on from a place
abbrev pub room : Way → ℕ → ℕ → ℕ
room Up end place = end - place
room Down end place = place

-- the place at a distance from another, going one way
abbrev pub onward : Way → ℕ → ℕ → ℕ
onward Up place by = place + by
onward Down place by = place - by

-- R-PLACE-4: the same, or the last place of the line if that comes first
abbrev pub onward_on_line : Way → ℕ → ℕ → ℕ → ℕ
onward_on_line way end place by = onward way place (min by (room way end place))

-- R-PLACE-2, R-PLACE-3: Q_DIRLRBG and Q_DLRBG: 1 is the nominal direction of the balise group, 0 the other one
abbrev pub way_of : Way → ℕ → Way
way_of nominal code = if code == 1 then nominal else back nominal

-- R-PLACE-3: Q_SCALE: a distance is counted in 10 cm, 1 m or 10 m
abbrev pub in_units : ℕ → ℕ → ℕ
in_units scale distance = distance * 10 ^ scale

-- the value of an unknown distance
abbrev pub unknown : ℕ
unknown = 32767

-- R-PLACE-1: a report is enough to place a train: it is packet 0, no distance or direction is unknown, and no value is
-- spare
abbrev pub is_known : Position → Bool
is_known p =
    is_none p.previous && nat_le p.scale 2 && nat_le p.dir 1 && nat_le p.side 1
    && nat_lt p.distance unknown && nat_lt p.over unknown && nat_lt p.under unknown

-- R-PLACE-1: the estimated front of the train lies on the line of the balise group
abbrev pub is_front_on_line : ℕ → Group → Position → Bool
is_front_on_line end g p = nat_le (in_units p.scale p.distance) (room (way_of g.nominal p.side) end g.at)

-- R-PLACE-2, R-PLACE-3, R-PLACE-4. The interval ends ahead of the estimated front by the doubt under, and behind it by
-- the doubt over and the length of the train. Both ends are cut to the line.
abbrev pub place_from : ℕ → Group → Position → ℕ → Place
place_from end g p length =
    let facing = way_of g.nominal p.dir in
    let front = onward (way_of g.nominal p.side) g.at (in_units p.scale p.distance) in
    let ahead = onward_on_line facing end front (in_units p.scale p.under) in
    let behind = onward_on_line (back facing) end front (in_units p.scale p.over + length) in
    record {
      line = g.line;
      lrbg = p.lrbg;
      at = g.at;
      same = is_up g.nominal;
      facing = facing;
      lo = min ahead behind;
      hi = max ahead behind;
    }

-- R-PLACE-1: the place of a train from its balise group: there is one if all is known and the front is on the line
abbrev pub place_by_group : Plan → Position → ℕ → Group → Option Place
place_by_group plan p length g =
    let end = slice_index plan.lines g.line in
    if is_known p && is_front_on_line end g p then Some (place_from end g p length) else None

-- R-PLACE-1, R-PLACE-5: the place of a train of some length from its report, if the track has its balise group
abbrev pub place_of_report : Plan → Position → ℕ → Option Place
place_of_report plan p length = option_and_then (place_by_group plan p length) (group_of plan p.lrbg)
