-- The worked cases of what is told of a stop.
use Rattle.std.proofs.Common.{◌≡◌, ◌+◌, ◌<◌, ◌≤◌, true, false, [], ◌∷◌, arith, refl}
use Rattle.std.specs.List.{All}
use Rattle.std.proofs.lemmas.Bool.{false≢true}
use Rattle.std.proofs.lemmas.List.Elements.{All-nil, All-cons}
use Rattle.rbc_place.specs.Placing.{IsSound}
use Rattle.rbc_zones.specs.declared.segment.Segment.{Segment}
use Rattle.rbc_zones.specs.Segments.{IsSegment}
use Rattle.rbc_zones.specs.Concerns.{IsToldRightly}
use Rattle.rbc_zones.specs.Witnesses.{facing_up, facing_down, near_stop, far_stop, double_stop, stop_elsewhere, low_stop, lowest_stop}
use Rattle.rbc_zones.proofs.NearestEdges.{of_one}
use Rattle.rbc_zones.proofs.StopLaw.{each_stop}

pub facing_up_is_sound : IsSound facing_up
facing_up_is_sound = record { group = omega arith; at = omega arith; ordered = omega arith; within = omega arith }

pub facing_down_is_sound : IsSound facing_down
facing_down_is_sound = record { group = omega arith; at = omega arith; ordered = omega arith; within = omega arith }

-- a stop of one segment
one_segment : (segment : Segment) → IsSegment segment → All IsSegment (segment ∷ [])
one_segment segment h = All-cons IsSegment segment [] h (All-nil IsSegment)

pub told_in_metres : IsToldRightly facing_up far_stop 50005 1 4000
told_in_metres = each_stop facing_up far_stop false 50005 facing_up_is_sound (one_segment _ (record { ordered = omega arith; within = omega arith })) refl

pub told_facing_down : IsToldRightly facing_down low_stop 3000 0 7000
told_facing_down = each_stop facing_down low_stop false 3000 facing_down_is_sound (one_segment _ (record { ordered = omega arith; within = omega arith })) refl

pub no_such_scale : IsToldRightly facing_up near_stop 20000 5 0 → ⊥
no_such_scale h = let not_spare : 5 ≤ 2 = h.finest.not_spare in omega arith

-- 4,001 units of 1 m end at 50010
pub beyond_the_edge : IsToldRightly facing_up far_stop 50005 1 4001 → ⊥
beyond_the_edge h =
    let ahead : h.told.place ≡ 10000 + 40010 = h.told.ahead in
    let not_beyond : h.told.place ≤ 50005 = h.told.not_beyond in
    omega arith

-- units of 1 m have room
pub too_coarse : IsToldRightly facing_up far_stop 50005 2 400 → ⊥
too_coarse h = let no_room : 32766 < 4000 = h.finest.finest 1 (omega arith) in omega arith

-- no place lies 1,200 m below the balise group
pub below_the_line : IsToldRightly facing_down lowest_stop 0 0 12000 → ⊥
below_the_line h = let ahead : 10000 ≡ h.told.place + 12000 = h.told.ahead in omega arith

-- the edge is farther from the balise group
pub counted_from_the_front : IsToldRightly facing_up far_stop 50005 1 3800 → ⊥
counted_from_the_front h = let near : 40005 < 38000 + 10 = h.finest.near in omega arith

-- 20000 is nearer
pub the_farther_edge : IsToldRightly facing_up double_stop 50005 1 4000 → ⊥
the_farther_edge h =
    let nearest : 50005 ≤ 20000 = of_one (λ other. 50005 ≤ other) 20000 (50005 ∷ 20000 ∷ []) h.first.nearest refl in
    omega arith

-- the train reaches the other end first
pub the_far_end : IsToldRightly facing_up near_stop 21000 0 11000 → ⊥
the_far_end h = let an_edge : false ≡ true = h.first.an_edge in false≢true an_edge

pub on_another_line : IsToldRightly facing_up stop_elsewhere 50005 1 4000 → ⊥
on_another_line h = let an_edge : false ≡ true = h.first.an_edge in false≢true an_edge
