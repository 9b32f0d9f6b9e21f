-- What the interval of a place means (own rule).
use Rattle.std.specs.Prelude.{◌≡◌, ◌↔◌, ℕ, ◌+◌, ◌≤◌, Some, slice_index}
use Rattle.ertms_codec.specs.declared.from_train.Position.{Position}
use Rattle.rbc_track.specs.Plan.{Plan, group_of, IsPlaced}
use Rattle.rbc_track.specs.declared.group.Group.{Group}
use Rattle.rbc_track.specs.declared.group.Way.{Way}
use Rattle.rbc_track.specs.declared.group.Way.TheVariants.{Up, Down}
use Rattle.rbc_place.specs.Placing.{Place, back, way_of, in_units, place_of_report}

-- a place lies at this distance ahead of another, going one way
abbrev pub IsAhead : Way → ℕ → ℕ → ℕ → Type 0
IsAhead Up from by place = place ≡ from + by
IsAhead Down from by place = from ≡ place + by

-- a place lies at most this distance ahead of another; it may lie behind it
abbrev pub IsAtMostAhead : Way → ℕ → ℕ → ℕ → Type 0
IsAtMostAhead Up from by place = place ≤ from + by
IsAtMostAhead Down from by place = from ≤ place + by

-- A part of a train stands at a place: there is a front on the line, no farther from the estimate than the doubts,
-- and the place is between that front and the rear, the length of the train behind it.
pub record StandsAt (end : ℕ) (facing : Way) (estimate under over length place : ℕ) : Type 0 where
  pub front : ℕ
  pub on_line : front ≤ end
  pub not_beyond : IsAtMostAhead facing estimate under front
  pub not_short : IsAtMostAhead (back facing) estimate over front
  pub from_front : IsAtMostAhead facing front 0 place
  pub to_rear : IsAtMostAhead (back facing) front length place

-- R-PLACE-3, R-PLACE-4. By a report, a part of the train may stand at a place: the estimated front is at the reported
-- distance from the balise group.
pub record MayStandAt (end : ℕ) (g : Group) (p : Position) (length place : ℕ) : Type 0 where
  pub estimate : ℕ
  pub counted : IsAhead (way_of g.nominal p.side) g.at (in_units p.scale p.distance) estimate
  pub stands : StandsAt end (way_of g.nominal p.dir) estimate (in_units p.scale p.under) (in_units p.scale p.over) length place

-- R-PLACE-4. The interval of a place holds a train: each place of the line lies in it exactly where a part of the train
-- may stand.
abbrev pub HoldsItsTrain : ℕ → Group → Position → ℕ → Place → Type 0
HoldsItsTrain end g p length place =
    (x : ℕ) → x ≤ end → ((place.lo ≤ x) × (x ≤ place.hi)) ↔ MayStandAt end g p length x

-- R-PLACE-4: the interval of each place that a report gives holds its train
abbrev pub EachPlaceHoldsItsTrain : Type 0
EachPlaceHoldsItsTrain =
    (plan : Plan) (p : Position) (length : ℕ) (g : Group) (place : Place)
    → group_of plan p.lrbg ≡ Some g → IsPlaced plan p.lrbg g → place_of_report plan p length ≡ Some place
    → HoldsItsTrain (slice_index plan.lines g.line) g p length place
