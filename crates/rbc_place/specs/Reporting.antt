-- The report of a train whose estimated front is at a place (own rule). Places and lengths are whole units of 10 cm.
use Rattle.std.specs.Prelude.{◌≡◌, ℕ, ◌+◌, ◌/◌, ◌%◌, ◌^◌, ◌<◌, ◌≤◌, Some, None, slice_get, slice_index}
use Rattle.std.specs.Int.{abs_diff, div_ceil}
use Rattle.ertms_codec.specs.declared.from_train.Position.{Position}
use Rattle.rbc_track.specs.Behind.{IsNearestBehind, NoneBehind}
use Rattle.rbc_track.specs.Plan.{Plan, group_of}
use Rattle.rbc_track.specs.declared.group.Group.{Group}
use Rattle.rbc_track.specs.declared.group.Way.{Way}
use Rattle.rbc_track.specs.declared.group.Way.TheVariants.{Up, Down}
use Rattle.rbc_place.specs.declared.reporting.NoReport.{NoReport}
use Rattle.rbc_place.specs.declared.reporting.NoReport.TheVariants.{NoLine, Beyond, NoGroup}
use Rattle.rbc_place.specs.declared.reporting.Told.{Told}
use Rattle.rbc_place.specs.Placing.{Place, place_of_report, unknown}
use Rattle.rbc_place.specs.Reach.{MayStandAt}

-- a place is on a line of a track
pub record IsOnTrack (plan : Plan) (line place : ℕ) : Type 0 where
  pub end : ℕ
  pub length : slice_get plan.lines line ≡ Some end
  pub within : place ≤ end

-- what a report tells at a scale: the distance from the balise group, rounded down to whole units; the doubt, rounded
-- up; and the doubt with the rest of the distance, rounded up
abbrev pub told_at : ℕ → ℕ → ℕ → Told
told_at scale distance doubt =
    let unit = 10 ^ scale in
    record {
      distance = distance / unit;
      over = div_ceil doubt unit;
      under = div_ceil (doubt + distance % unit) unit;
    }

-- each of the three has a value that does not mean "unknown"
pub record CanBeTold (told : Told) : Type 0 where
  pub distance : told.distance < unknown
  pub over : told.over < unknown
  pub under : told.under < unknown

-- the least scale at which a distance and a doubt can be told
pub record IsLeastScale (distance doubt scale : ℕ) : Type 0 where
  pub known : scale ≤ 2
  pub enough : CanBeTold (told_at scale distance doubt)
  pub least : (lower : ℕ) → lower < scale → ¬ CanBeTold (told_at lower distance doubt)

-- Q_DIRLRBG or Q_DLRBG: 1 for the nominal direction of the balise group, 0 for the other one
abbrev pub code_of : Way → Way → ℕ
code_of Up Up = 1
code_of Up Down = 0
code_of Down Up = 0
code_of Down Down = 1

-- the report of a train at a place: it counts from the nearest balise group behind, at the least scale
pub record IsReportAt (plan : Plan) (line place : ℕ) (facing : Way) (doubt : ℕ) (report : Position) : Type 0 where
  pub on_track : IsOnTrack plan line place
  pub group : Group
  pub nearest : IsNearestBehind plan line place facing (report.lrbg, group)
  pub previous : report.previous ≡ None
  pub scale : IsLeastScale (abs_diff place group.at) doubt report.scale
  pub told : record { distance = report.distance; over = report.over; under = report.under }
      ≡ told_at report.scale (abs_diff place group.at) doubt
  pub dir : report.dir ≡ code_of group.nominal facing
  pub side : report.side ≡ code_of group.nominal facing

-- why no report places a train at a place
abbrev pub IsNoReportAt : Plan → ℕ → ℕ → Way → NoReport → Type 0
IsNoReportAt plan line place facing NoLine = slice_get plan.lines line ≡ None
IsNoReportAt plan line place facing (Beyond end) = (slice_get plan.lines line ≡ Some end) × (end < place)
IsNoReportAt plan line place facing NoGroup = IsOnTrack plan line place × NoneBehind plan line place facing

-- The place of a train by a report is the one that was asked for: it faces that way on that line, its front may stand
-- at the place, and so the place is in the interval.
pub record LeadsBack (plan : Plan) (line place : ℕ) (facing : Way) (report : Position) (length : ℕ) : Type 0 where
  pub given : Place
  pub by_report : place_of_report plan report length ≡ Some given
  pub on_line : given.line ≡ line
  pub faces : given.facing ≡ facing
  pub group : Group
  pub known : group_of plan report.lrbg ≡ Some group
  pub allowed : MayStandAt (slice_index plan.lines line) group report length place
  pub front : allowed.stands.front ≡ place
  pub low : given.lo ≤ place
  pub high : place ≤ given.hi
