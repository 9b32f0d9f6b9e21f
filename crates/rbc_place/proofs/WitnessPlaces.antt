-- The worked cases of where a train may stand.
use Rattle.std.proofs.Common.{◌≡◌, ℕ, ◌+◌, ◌≤◌, arith, refl}
use Rattle.ertms_codec.specs.declared.from_train.Position.{Position}
use Rattle.rbc_track.specs.declared.group.Way.TheVariants.{Up, Down}
use Rattle.rbc_place.specs.Placing.{Place}
use Rattle.rbc_place.specs.Reach.{StandsAt, MayStandAt}
use Rattle.rbc_place.specs.Witnesses.{group_5, facing_up, told_in_metres, unequal_doubts, facing_down, from_to, Holds}
use Rattle.rbc_place.proofs.Holds.{holds_its_train}

-- a part of the train may stand at a place
abbrev MayStand : Position → ℕ → Type 0
MayStand report x = MayStandAt 300000 group_5 report 2000 x

pub facing_up_holds : Holds facing_up (from_to Up 9900 12100)
facing_up_holds = holds_its_train 300000 group_5 facing_up 2000 (omega arith) (omega arith)

pub metres_hold : Holds told_in_metres (from_to Up 9900 12100)
metres_hold = holds_its_train 300000 group_5 told_in_metres 2000 (omega arith) (omega arith)

pub unequal_doubts_hold : Holds unequal_doubts (from_to Up 9950 12200)
unequal_doubts_hold = holds_its_train 300000 group_5 unequal_doubts 2000 (omega arith) (omega arith)

pub facing_down_holds : Holds facing_down (from_to Down 7900 10100)
facing_down_holds = holds_its_train 300000 group_5 facing_down 2000 (omega arith) (omega arith)

-- a place at which the train may stand lies in the interval
lies_in : (report : Position) (place : Place) (x : ℕ) → Holds report place → x ≤ 300000 → MayStand report x → (place.lo ≤ x) × (x ≤ place.hi)
lies_in report place x h there stands = (h x there).1 stands

-- at a place in the interval the train may stand
may_stand : (report : Position) (place : Place) (x : ℕ) → Holds report place → x ≤ 300000 → (place.lo ≤ x) × (x ≤ place.hi) → MayStand report x
may_stand report place x h there within = (h x there).0 within

-- with the doubts swapped the highest place is missing
pub doubts_swapped : Holds unequal_doubts (from_to Up 9800 12050) → ⊥
doubts_swapped h =
    let stands : StandsAt 300000 Up 12000 200 50 2000 12200 =
    record { front = 12200; on_line = omega arith; not_beyond = omega arith; not_short = omega arith; from_front = omega arith; to_rear = omega arith } in
    let within = lies_in unequal_doubts (from_to Up 9800 12050) 12200 h (omega arith) (record { estimate = 12000; counted = refl; stands = stands }) in
    let high : 12200 ≤ 12050 = within.1 in
    omega arith

-- no part of the train stands 210 m ahead of its front
pub length_ahead : Holds facing_up (from_to Up 11900 14100) → ⊥
length_ahead h =
    let m = may_stand facing_up (from_to Up 11900 14100) 14100 h (omega arith) (omega arith, omega arith) in
    let counted : m.estimate ≡ 10000 + 2000 = m.counted in
    let not_beyond : m.stands.front ≤ m.estimate + 100 = m.stands.not_beyond in
    let from_front : 14100 ≤ m.stands.front + 0 = m.stands.from_front in
    omega arith

-- the front may be 10 m beyond where it is reported
pub no_doubts : Holds facing_up (from_to Up 10000 12000) → ⊥
no_doubts h =
    let stands : StandsAt 300000 Up 12000 100 100 2000 12100 =
    record { front = 12100; on_line = omega arith; not_beyond = omega arith; not_short = omega arith; from_front = omega arith; to_rear = omega arith } in
    let within = lies_in facing_up (from_to Up 10000 12000) 12100 h (omega arith) (record { estimate = 12000; counted = refl; stands = stands }) in
    let high : 12100 ≤ 12000 = within.1 in
    omega arith

-- also where the report counts in metres
pub doubts_not_scaled : Holds told_in_metres (from_to Up 9990 12010) → ⊥
doubts_not_scaled h =
    let stands : StandsAt 300000 Up 12000 100 100 2000 12100 =
    record { front = 12100; on_line = omega arith; not_beyond = omega arith; not_short = omega arith; from_front = omega arith; to_rear = omega arith } in
    let within = lies_in told_in_metres (from_to Up 9990 12010) 12100 h (omega arith) (record { estimate = 12000; counted = refl; stands = stands }) in
    let high : 12100 ≤ 12010 = within.1 in
    omega arith

-- a train whose front is below the balise group does not stand far above it
pub on_the_other_side : Holds facing_down (from_to Down 11900 14100) → ⊥
on_the_other_side h =
    let m = may_stand facing_down (from_to Down 11900 14100) 14100 h (omega arith) (omega arith, omega arith) in
    let counted : 10000 ≡ m.estimate + 2000 = m.counted in
    let not_short : m.stands.front ≤ m.estimate + 100 = m.stands.not_short in
    let to_rear : 14100 ≤ m.stands.front + 2000 = m.stands.to_rear in
    omega arith
