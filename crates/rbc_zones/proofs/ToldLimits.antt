-- What is told of a restriction, from distances to places.
use Rattle.std.proofs.Common.{◌≡◌, ℕ, ◌+◌, ◌-◌, ◌*◌, ◌<◌, ◌≤◌, min, max, Bool, true, ◌&&◌, not, IsTrue, arith, refl, sym, subst}
use Rattle.std.proofs.lemmas.Grind.{common_steps}
use Rattle.rbc_place.specs.Way.{Way}
use Rattle.rbc_place.specs.Way.TheVariants.{Up, Down}
use Rattle.rbc_place.specs.Placing.{Place}
use Rattle.rbc_place.specs.Reach.{IsAhead}
use Rattle.rbc_zones.specs.declared.segment.Segment.{Segment}
use Rattle.rbc_zones.specs.Limits.{Limit, IsLimit, ends_beyond, ends_beyond_group, starts_within, is_clear, begins_at, ends_at, told_of_part, told_part, AreNear, IsToldPart, EachLimitIsToldRightly}
use Rattle.rbc_zones.proofs.Parts.{AreUnits, are_told}

-- the distances of a segment are in order where it ends beyond the balise group
pub are_ordered : (way : Way) (segment : Segment) (at : ℕ) → segment.from < segment.to → IsTrue (ends_beyond way segment at)
    → begins_at way segment at < ends_at way segment at
are_ordered Up segment at ordered beyond = let h : at < segment.to = grind (arith, common_steps) in omega arith
are_ordered Down segment at ordered beyond = let h : segment.from < at = grind (arith, common_steps) in omega arith

-- no place of a line is farther from a balise group than a line is long
pub ends_within : (way : Way) (segment : Segment) (at : ℕ) → segment.to ≤ 3000000 → at ≤ 3000000 → ends_at way segment at ≤ 3000000
ends_within Up segment at within on_line = omega arith
ends_within Down segment at within on_line = omega arith

-- a place of a segment lies ahead of the balise group
pub record LiesOn (way : Way) (segment : Segment) (at distance : ℕ) : Type 0 where
  pub place : ℕ
  pub ahead : IsAhead way at distance place
  pub from : segment.from ≤ place
  pub to : place ≤ segment.to

-- its distance lies between those of the segment
pub between : (way : Way) (segment : Segment) (at distance : ℕ) → begins_at way segment at < ends_at way segment at
    → LiesOn way segment at distance → (begins_at way segment at ≤ distance) × (distance ≤ ends_at way segment at)
between Up segment at distance ordered h =
    let ahead : h.place ≡ at + distance = h.ahead in (omega arith, omega arith)
between Down segment at distance ordered h =
    let ahead : at ≡ h.place + distance = h.ahead in (omega arith, omega arith)

-- each distance between those of a segment is of a place on it
pub lies_on : (way : Way) (segment : Segment) (at distance : ℕ) → begins_at way segment at < ends_at way segment at
    → begins_at way segment at ≤ distance → distance ≤ ends_at way segment at → LiesOn way segment at distance
lies_on Up segment at distance ordered low high =
    let o : max segment.from at - at < segment.to - at = ordered in
    let l : max segment.from at - at ≤ distance = low in
    let k : distance ≤ segment.to - at = high in
    record { place = at + distance; ahead = refl; from = omega arith; to = omega arith }
lies_on Down segment at distance ordered low high =
    let o : at - min segment.to at < at - segment.from = ordered in
    let l : at - min segment.to at ≤ distance = low in
    let k : distance ≤ at - segment.from = high in
    record { place = at - distance; ahead = omega arith; from = omega arith; to = omega arith }

-- the nearest distance within the ends to one that is told
pub nearest_between : (unit begin end start length distance : ℕ) → begin < end → AreUnits unit begin end start length
    → start * unit ≤ distance → distance ≤ (start + length) * unit → AreNear unit distance (max begin (min distance end))
nearest_between unit begin end start length distance ordered units low high =
    record { not_above = omega arith; not_below = omega arith }

pub told_rightly : (limit : Limit) (p : Place) → IsLimit limit → IsTrue (ends_beyond_group limit p)
    → ends_at p.facing limit.segment p.at ≤ 3000000
    → IsToldPart limit p (told_part limit p).0 (told_part limit p).1 (told_part limit p).2
told_rightly limit p kept beyond within =
    let begin = begins_at p.facing limit.segment p.at in
    let end = ends_at p.facing limit.segment p.at in
    let ordered : begin < end = are_ordered p.facing limit.segment p.at kept.ordered beyond in
    let told = are_told begin end ordered within in
    let units = told.units in
    record {
      not_spare = told.not_spare;
      start_in_field = told.start_in_field;
      length_in_field = told.length_in_field;
      some = units.some;
      covers = λ distance of.
          let b = between p.facing limit.segment p.at distance ordered (record { place = of.place; ahead = of.ahead; from = of.from; to = of.to }) in
          record { begun = omega arith; not_ended = omega arith };
      no_longer = λ distance is.
          let other = max begin (min distance end) in
          let on = lies_on p.facing limit.segment p.at other ordered (omega arith) (omega arith) in
          record {
            other = other;
            of = record { place = on.place; ahead = on.ahead; from = on.from; to = on.to };
            near = nearest_between _ begin end _ _ distance ordered units is.begun is.not_ended;
          };
      finest = told.finest;
    }

ends_beyond_from : (clear beyond near : Bool) → (not clear && beyond && near) ≡ true → IsTrue beyond
ends_beyond_from clear beyond near h = grind (arith, common_steps)

-- the same, of a restriction whose distances are named
pub told_rightly_by : (limit : Limit) (p : Place) (segment : Segment) (begin end : ℕ) (part : ℕ × ℕ × ℕ) → IsLimit limit
    → IsTrue (ends_beyond_group limit p) → segment ≡ limit.segment → begin ≡ begins_at p.facing segment p.at
    → end ≡ ends_at p.facing segment p.at → end ≤ 3000000 → part ≡ told_of_part begin end
    → IsToldPart limit p part.0 part.1 part.2
told_rightly_by limit p segment begin end part kept beyond of begins ends within told =
    let at_end : end ≡ ends_at p.facing limit.segment p.at = cc in
    let is : part ≡ told_part limit p = cc in
    subst (λ (one : ℕ × ℕ × ℕ). IsToldPart limit p one.0 one.1 one.2) (sym is) (told_rightly limit p kept beyond (omega arith))

pub each_limit_is_told_rightly : EachLimitIsToldRightly
each_limit_is_told_rightly limit p horizon kept sound h =
    told_rightly limit p kept
    (ends_beyond_from (is_clear limit p) (ends_beyond_group limit p) (starts_within p.facing limit.segment p horizon) h)
    (ends_within p.facing limit.segment p.at kept.within sound.at)
