-- The worked cases of what is told of a restriction.
use Rattle.std.proofs.Common.{◌≡◌, ◌⊎◌, inl, inr, ℕ, ◌+◌, ◌<◌, ◌≤◌, arith, refl}
use Rattle.rbc_zones.specs.Limits.{IsLimit, IsTold, IsNearOne, IsToldPart}
use Rattle.rbc_zones.specs.Witnesses.{facing_up, facing_down, restriction}
use Rattle.rbc_zones.proofs.ToldLimits.{each_limit_is_told_rightly}
use Rattle.rbc_zones.proofs.WitnessStops.{facing_up_is_sound, facing_down_is_sound}

is_limit : (from to : ℕ) → from < to → to ≤ 3000000 → IsLimit (restriction from to)
is_limit from to ordered within = record { ordered = ordered; within = within; speed = omega arith; in_fives = refl }

pub told : IsToldPart (restriction 11050 12050) facing_up 0 1050 1000
told = each_limit_is_told_rightly (restriction 11050 12050) facing_up 100000 (is_limit 11050 12050 (omega arith) (omega arith)) facing_up_is_sound refl

pub told_in_metres : IsToldPart (restriction 11055 51055) facing_up 1 105 4001
told_in_metres = each_limit_is_told_rightly (restriction 11055 51055) facing_up 100000 (is_limit 11055 51055 (omega arith) (omega arith)) facing_up_is_sound refl

pub told_at_the_group : IsToldPart (restriction 9000 12050) facing_up 0 0 2050
told_at_the_group = each_limit_is_told_rightly (restriction 9000 12050) facing_up 100000 (is_limit 9000 12050 (omega arith) (omega arith)) facing_up_is_sound refl

pub told_facing_down : IsToldPart (restriction 5000 7000) facing_down 0 3000 2000
told_facing_down = each_limit_is_told_rightly (restriction 5000 7000) facing_down 100000 (is_limit 5000 7000 (omega arith) (omega arith)) facing_down_is_sound refl

-- 1,100 m is told, and the restriction begins at 1,105 m
pub too_long : IsToldPart (restriction 11050 12050) facing_up 0 1000 1100 → ⊥
too_long h =
    let near : IsNearOne (restriction 11050 12050) facing_up 1 1000 = h.no_longer 1000 (record { begun = omega arith; not_ended = omega arith }) in
    let ahead : near.of.place ≡ 10000 + near.other = near.of.ahead in
    let from : 11050 ≤ near.of.place = near.of.from in
    let not_below : near.other < 1000 + 1 = near.near.not_below in
    omega arith

-- the last half metre is not told
pub length_rounded_down : IsToldPart (restriction 11055 51055) facing_up 1 105 4000 → ⊥
length_rounded_down h =
    let is : IsTold 1 105 4000 41055 = h.covers 41055 (record { place = 51055; ahead = refl; from = omega arith; to = omega arith }) in
    let not_ended : 41055 ≤ 41050 = is.not_ended in
    omega arith

-- the first half metre is not told
pub start_rounded_up : IsToldPart (restriction 11055 51055) facing_up 1 106 4000 → ⊥
start_rounded_up h =
    let is : IsTold 1 106 4000 1055 = h.covers 1055 (record { place = 11055; ahead = refl; from = omega arith; to = omega arith }) in
    let begun : 1060 ≤ 1055 = is.begun in
    omega arith

-- units of 10 cm have room
pub too_coarse : IsToldPart (restriction 11050 12050) facing_up 1 105 100 → ⊥
too_coarse h =
    let no_room : (32766 < 1050) ⊎ (32766 < 1000) = h.finest 0 (omega arith) in
    elim no_room [ inl start ↦ omega arith | inr length ↦ omega arith ]

-- the end is not told
pub counted_from_the_front : IsToldPart (restriction 11050 12050) facing_up 0 0 50 → ⊥
counted_from_the_front h =
    let is : IsTold 0 0 50 2050 = h.covers 2050 (record { place = 12050; ahead = refl; from = omega arith; to = omega arith }) in
    let not_ended : 2050 ≤ 50 = is.not_ended in
    omega arith

-- the restriction ends 205 m ahead of the balise group
pub the_part_behind_told : IsToldPart (restriction 9000 12050) facing_up 0 0 3050 → ⊥
the_part_behind_told h =
    let near : IsNearOne (restriction 9000 12050) facing_up 1 3050 = h.no_longer 3050 (record { begun = omega arith; not_ended = omega arith }) in
    let ahead : near.of.place ≡ 10000 + near.other = near.of.ahead in
    let to : near.of.place ≤ 12050 = near.of.to in
    let not_above : 3050 < near.other + 1 = near.near.not_above in
    omega arith

-- facing down the higher end comes first
pub turned_round : IsToldPart (restriction 5000 7000) facing_down 0 5000 2000 → ⊥
turned_round h =
    let is : IsTold 0 5000 2000 3000 = h.covers 3000 (record { place = 7000; ahead = refl; from = omega arith; to = omega arith }) in
    let begun : 5000 ≤ 3000 = is.begun in
    omega arith
