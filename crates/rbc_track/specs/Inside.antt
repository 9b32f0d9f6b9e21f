-- How the fields of a track make its plan.
use Rattle.rbc_track.specs.Plan.{Plan, IsPlan}
use Rattle.rbc_track.specs.declared.track.Track.TheInside.{Inside}

-- the plan in the fields of a track
abbrev pub plan_in : Inside → Plan
plan_in inside = record { horizon = inside.horizon; lines = inside.lines.items; groups = inside.groups.items }

-- the fields of a track make a plan
abbrev pub IsPlanIn : Inside → Type 0
IsPlanIn inside = IsPlan (plan_in inside)
