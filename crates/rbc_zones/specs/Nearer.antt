-- How the code finds the nearest edge ahead, one segment after another.
use Rattle.std.specs.Prelude.{ℕ, min, max, if◌then◌else◌, Option, Some}
use Rattle.std.specs.Option.{option_map_or}
use Rattle.rbc_place.specs.Way.{Way}
use Rattle.rbc_place.specs.Way.TheVariants.{Up, Down}
use Rattle.rbc_place.specs.Placing.{Place}
use Rattle.rbc_zones.specs.declared.segment.Segment.{Segment}
use Rattle.rbc_zones.specs.Concerns.{edge_of, is_ahead}

-- the one of two places that a train reaches first
abbrev pub first_of : Way → ℕ → ℕ → ℕ
first_of Up a b = min a b
first_of Down a b = max a b

-- the nearest edge found so far, or the edge of a segment if that is ahead and nearer
abbrev pub nearer : Place → Option ℕ → Segment → Option ℕ
nearer p found segment =
    let edge = edge_of p.facing segment in
    if is_ahead p.facing p edge then Some (option_map_or (λ other. first_of p.facing other edge) found edge) else found
