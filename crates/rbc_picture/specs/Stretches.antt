-- The stretches of a line on which stops and restrictions are active.
use Rattle.std.specs.Prelude.{ℕ, ◌==◌, List, [], ◌∷◌, ◌++◌, map, filter}
use Rattle.rbc_zones.specs.declared.segment.Segment.{Segment}
use Rattle.rbc_zones.specs.Limits.{Limit}
use Rattle.rbc_picture.specs.declared.stretches.Stretch.{Stretch}
use Rattle.rbc_picture.specs.declared.stretches.Active.TheVariants.{Stop, Restriction}

-- the stretch that a stop closes on a segment
abbrev pub stop_stretch : ℕ → Segment → Stretch
stop_stretch number segment = record { number = number; from = segment.from; to = segment.to; active = Stop }

-- the stretches of a line among the segments of a stop
abbrev pub stretches_in : ℕ → ℕ → List Segment → List Stretch
stretches_in line number segments = map (stop_stretch number) (filter (λ segment. segment.line == line) segments)

-- the stretches of a line that stops close, each once
abbrev pub stop_stretches : ℕ → List (ℕ × List Segment) → List Stretch
stop_stretches line [] = []
stop_stretches line (stop ∷ rest) = stretches_in line stop.0 stop.1 ++ stop_stretches line rest

-- the stretch of a restriction
abbrev pub limit_stretch : ℕ → Limit → Stretch
limit_stretch number limit =
    record { number = number; from = limit.segment.from; to = limit.segment.to; active = Restriction limit.speed limit.dirs }

-- the stretches of a line on which restrictions apply, each once
abbrev pub limit_stretches : ℕ → List (ℕ × Limit) → List Stretch
limit_stretches line limits =
    map (λ limit. limit_stretch limit.0 limit.1) (filter (λ limit. limit.1.segment.line == line) limits)
