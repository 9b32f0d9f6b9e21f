-- The worked cases of the report of a train at a place.
use Rattle.std.proofs.Common.{◌≡◌, ℕ, zero, suc, ◌<◌, ◌≤◌, Some, None, arith, refl, sym, subst, ap, ◌∙◌, inl, inr, [], ◌∷◌}
use Rattle.std.specs.Int.{abs_diff}
use Rattle.ertms_codec.specs.declared.from_train.Position.{Position}
use Rattle.rbc_track.specs.Behind.{StandsBehind, IsNearestBehind}
use Rattle.rbc_track.specs.Plan.{group_of, IsPlaced}
use Rattle.rbc_track.specs.declared.group.Group.{Group}
use Rattle.rbc_track.specs.declared.group.Way.{Way}
use Rattle.rbc_track.specs.declared.group.Way.TheVariants.{Up, Down}
use Rattle.rbc_track.proofs.Nearest.{at_or_in}
use Rattle.rbc_place.specs.declared.reporting.NoReport.TheVariants.{NoLine, Beyond, NoGroup}
use Rattle.rbc_place.specs.Reporting.{IsOnTrack, told_at, CanBeTold, IsLeastScale, code_of}
use Rattle.rbc_place.specs.ReportWitnesses.{group_5, group_6, group_7, three_groups, Tells, TellsNothing, at_the_group, against, from_6, in_metres}

nothing : (group : Group) → None ≡ Some group → ⊥
nothing group e = cc

-- what holds of the three balise groups holds of each
each_group : (P : ℕ × Group → Type 0) → P (5, group_5) → P (6, group_6) → P (7, group_7) → (nid : ℕ) (group : Group) → group_of three_groups nid ≡ Some group → P (nid, group)
each_group P five six seven nid group known = elim (at_or_in (5, group_5) ((6, group_6) ∷ (7, group_7) ∷ []) nid group known) [
  | inl at ↦ let same : (5, group_5) ≡ (nid, group) = λ i. (at.0 i, at.1 i) in subst P same five
  | inr rest ↦ elim (at_or_in (6, group_6) ((7, group_7) ∷ []) nid group rest) [
    | inl at ↦ let same : (6, group_6) ≡ (nid, group) = λ i. (at.0 i, at.1 i) in subst P same six
    | inr last ↦ elim (at_or_in (7, group_7) [] nid group last) [
      | inl at ↦ let same : (7, group_7) ≡ (nid, group) = λ i. (at.0 i, at.1 i) in subst P same seven
      | inr none ↦ absurd (nothing group none)
    ]
  ]
]

on_track : (place : ℕ) → place ≤ 300000 → IsOnTrack three_groups 0 place
on_track place within = record { end = 300000; length = refl; within = within }

placed_5 : IsPlaced three_groups 5 group_5
placed_5 = record { number = omega arith; length = 300000; line = refl; place = omega arith }

placed_6 : IsPlaced three_groups 6 group_6
placed_6 = record { number = omega arith; length = 300000; line = refl; place = omega arith }

alone_5 : (nid : ℕ) (group : Group) → group_of three_groups nid ≡ Some group → group.line ≡ 0 → group.at ≡ 10000 → 5 ≤ nid
alone_5 = each_group (λ entry. entry.1.line ≡ 0 → entry.1.at ≡ 10000 → 5 ≤ entry.0) (λ on same. omega arith) (λ on same. omega arith) (λ on same. omega arith)

-- going up, balise group 5 is the nearest one below the others
nearest_up : (place : ℕ) → 10000 ≤ place → place < 60000 → IsNearestBehind three_groups 0 place Up (5, group_5)
nearest_up place low high = record {
  known = refl;
  placed = placed_5;
  behind = record { on = refl; behind = low };
  nearest = each_group (λ entry. StandsBehind 0 place Up entry.1 → entry.1.at ≤ 10000) (λ h. omega arith)
      (λ h. let le : 60000 ≤ place = h.behind in omega arith) (λ h. let le : 60000 ≤ place = h.behind in omega arith);
  least = alone_5;
}

nearest_down : IsNearestBehind three_groups 0 9000 Down (5, group_5)
nearest_down = record {
  known = refl;
  placed = placed_5;
  behind = record { on = refl; behind = let le : 9000 ≤ 10000 = omega arith in le };
  nearest = each_group (λ entry. StandsBehind 0 9000 Down entry.1 → 10000 ≤ entry.1.at) (λ h. omega arith) (λ h. omega arith) (λ h. omega arith);
  least = alone_5;
}

nearest_6 : IsNearestBehind three_groups 0 61000 Up (6, group_6)
nearest_6 = record {
  known = refl;
  placed = placed_6;
  behind = record { on = refl; behind = let le : 60000 ≤ 61000 = omega arith in le };
  nearest = each_group (λ entry. StandsBehind 0 61000 Up entry.1 → entry.1.at ≤ 60000) (λ h. omega arith) (λ h. omega arith) (λ h. omega arith);
  least = each_group (λ entry. entry.1.line ≡ 0 → entry.1.at ≡ 60000 → 6 ≤ entry.0) (λ on same. let bad : 10000 ≡ 60000 = same in absurd (omega arith)) (λ on same. omega arith) (λ on same. omega arith);
}

-- the least scale of all
in_units_of_10_cm : (distance doubt : ℕ) → CanBeTold (told_at 0 distance doubt) → IsLeastScale distance doubt 0
in_units_of_10_cm distance doubt can = record { known = omega arith; enough = can; least = λ lower below. absurd (omega arith) }

too_far : (lower : ℕ) → lower < 1 → ¬ CanBeTold (told_at lower 40005 16)
too_far zero below can = let lt : 40005 < 32767 = can.distance in omega arith
too_far (suc n) below can = omega arith

pub at_the_group_told : Tells 10000 Up 0 at_the_group
at_the_group_told = record {
  on_track = on_track 10000 (omega arith);
  group = group_5;
  nearest = nearest_up 10000 (omega arith) (omega arith);
  previous = refl;
  scale = in_units_of_10_cm 0 0 (record { distance = omega arith; over = omega arith; under = omega arith });
  told = refl;
  dir = refl;
  side = refl;
}

pub facing_down_told : Tells 9000 Down 50 against
facing_down_told = record {
  on_track = on_track 9000 (omega arith);
  group = group_5;
  nearest = nearest_down;
  previous = refl;
  scale = in_units_of_10_cm 1000 50 (record { distance = omega arith; over = omega arith; under = omega arith });
  told = refl;
  dir = refl;
  side = refl;
}

pub least_number_told : Tells 61000 Up 50 from_6
least_number_told = record {
  on_track = on_track 61000 (omega arith);
  group = group_6;
  nearest = nearest_6;
  previous = refl;
  scale = in_units_of_10_cm 1000 50 (record { distance = omega arith; over = omega arith; under = omega arith });
  told = refl;
  dir = refl;
  side = refl;
}

pub in_metres_told : Tells 50005 Up 16 in_metres
in_metres_told = record {
  on_track = on_track 50005 (omega arith);
  group = group_5;
  nearest = nearest_up 50005 (omega arith) (omega arith);
  previous = refl;
  scale = record {
    known = omega arith;
    enough = record { distance = omega arith; over = omega arith; under = omega arith };
    least = too_far;
  };
  told = refl;
  dir = refl;
  side = refl;
}

pub no_group_told : TellsNothing 0 9999 Up NoGroup
no_group_told = (
  on_track 9999 (omega arith),
  each_group (λ entry. ¬ StandsBehind 0 9999 Up entry.1) (λ h. let le : 10000 ≤ 9999 = h.behind in omega arith) (λ h. let le : 60000 ≤ 9999 = h.behind in omega arith) (λ h. let le : 60000 ≤ 9999 = h.behind in omega arith),
)

pub beyond_told : TellsNothing 0 300001 Up (Beyond 300000)
beyond_told = (refl, omega arith)

pub no_line_told : TellsNothing 1 0 Up NoLine
no_line_told = refl

-- ---- wrong ones

-- the balise group of a report is the one that its number has
group_is : (group named : Group) → Some named ≡ Some group → group ≡ named
group_is group named e = cc

pub group_ahead : Tells 9000 Up 50 against → ⊥
group_ahead h =
    let at : h.group.at ≡ 10000 = ap (λ g. g.at) (group_is h.group group_5 h.nearest.known) in
    let behind : h.group.at ≤ 9000 = h.nearest.behind.behind in
    omega (arith, at, behind)

pub farther_group : Tells 61000 Up 50 (record in_metres { distance = 5100; over = 5; under = 5 }) → ⊥
farther_group h =
    let at : h.group.at ≡ 10000 = ap (λ g. g.at) (group_is h.group group_5 h.nearest.known) in
    let behind : 60000 ≤ h.group.at = h.nearest.nearest 6 group_6 refl (record { on = refl; behind = let le : 60000 ≤ 61000 = omega arith in le }) in
    omega (arith, at, behind)

pub higher_number : Tells 61000 Up 50 (record from_6 { lrbg = 7; dir = 1; side = 1 }) → ⊥
higher_number h =
    let at : 60000 ≡ h.group.at = ap (λ g. g.at) (sym (group_is h.group group_7 h.nearest.known)) in
    let least : 7 ≤ 6 = h.nearest.least 6 group_6 refl refl at in
    omega (arith, least)

-- of the reports that count from balise group 5
record IsFrom5 (place : ℕ) (doubt : ℕ) (facing : Way) (report : Position) : Type 0 where
  scale : IsLeastScale (abs_diff place 10000) doubt report.scale
  told : record { distance = report.distance; over = report.over; under = report.under } ≡ told_at report.scale (abs_diff place 10000) doubt
  dir : report.dir ≡ code_of Up facing
  side : report.side ≡ code_of Up facing

from_5 : (place doubt : ℕ) (facing : Way) (report : Position) → Some group_5 ≡ group_of three_groups report.lrbg → Tells place facing doubt report → IsFrom5 place doubt facing report
from_5 place doubt facing report five h =
    let same : h.group ≡ group_5 = group_is h.group group_5 (five ∙ h.nearest.known) in
    record {
      scale = subst (λ g. IsLeastScale (abs_diff place g.at) doubt report.scale) same h.scale;
      told = subst (λ g. record { distance = report.distance; over = report.over; under = report.under } ≡ told_at report.scale (abs_diff place g.at) doubt) same h.told;
      dir = subst (λ g. report.dir ≡ code_of g.nominal facing) same h.dir;
      side = subst (λ g. report.side ≡ code_of g.nominal facing) same h.side;
    }

pub scale_too_great : Tells 10000 Up 0 (record at_the_group { scale = 1 }) → ⊥
scale_too_great h = (from_5 10000 0 Up _ refl h).scale.least 0 (omega arith) (record { distance = omega arith; over = omega arith; under = omega arith })

pub direction_turned : Tells 9000 Down 50 (record against { dir = 1 }) → ⊥
direction_turned h = let e : 1 ≡ 0 = (from_5 9000 50 Down _ refl h).dir in omega (arith, e)

pub side_turned : Tells 9000 Down 50 (record against { side = 1 }) → ⊥
side_turned h = let e : 1 ≡ 0 = (from_5 9000 50 Down _ refl h).side in omega (arith, e)

pub doubt_rounded_down : Tells 50005 Up 16 (record in_metres { over = 1 }) → ⊥
doubt_rounded_down h = let e : 1 ≡ 2 = ap (λ told. told.over) (from_5 50005 16 Up _ refl h).told in omega (arith, e)

pub rest_left_out : Tells 50005 Up 16 (record in_metres { under = 2 }) → ⊥
rest_left_out h = let e : 2 ≡ 3 = ap (λ told. told.under) (from_5 50005 16 Up _ refl h).told in omega (arith, e)
