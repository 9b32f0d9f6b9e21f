-- A report of a train at a place leads back to the place.
use Rattle.std.proofs.Common.{◌≡◌, ℕ, zero, suc, ◌+◌, ◌-◌, ◌*◌, ◌/◌, ◌%◌, ◌^◌, ◌<◌, ◌≤◌, min, Bool, true, false, ◌&&◌, cond, Some, None, is_none, option_and_then, slice_index, IsTrue, ◌↔◌, arith, refl, sym, ap, subst, ◌∙◌}
use Rattle.std.specs.Int.{abs_diff, div_ceil}
use Rattle.std.proofs.lemmas.Bool.{and_from, le-leb, lt-ltb}
use Rattle.std.proofs.lemmas.Grind.{div_ceil_times}
use Rattle.std.proofs.lemmas.Option.{get_or_from_slice_get}
use Rattle.ertms_codec.specs.declared.from_train.Position.{Position}
use Rattle.rbc_track.specs.Behind.{LiesBehind}
use Rattle.rbc_track.specs.Plan.{Plan}
use Rattle.rbc_track.specs.declared.group.Group.{Group}
use Rattle.rbc_track.specs.declared.group.Way.{Way}
use Rattle.rbc_track.specs.declared.group.Way.TheVariants.{Up, Down}
use Rattle.rbc_place.specs.declared.reporting.Told.{Told}
use Rattle.rbc_place.specs.Placing.{back, room, onward, way_of, in_units, unknown, is_known, is_front_on_line, place_from, place_by_group, place_of_report}
use Rattle.rbc_place.specs.Reach.{IsAhead, IsAtMostAhead, MayStandAt}
use Rattle.rbc_place.specs.Reporting.{told_at, CanBeTold, IsLeastScale, code_of, IsReportAt, LeadsBack}
use Rattle.rbc_place.proofs.Holds.{onward_is_ahead, holds_its_train}

-- ---- the scale

-- at the greatest scale each distance of a line and each doubt can be told
told_in_tens_of_metres : (distance doubt : ℕ) → distance ≤ 3000000 → doubt ≤ 3000000 → CanBeTold (told_at 2 distance doubt)
told_in_tens_of_metres distance doubt near sure = record {
  distance = let lt : distance / 100 < 32767 = omega arith in lt;
  over = let lt : doubt / 100 + min 1 (doubt % 100) < 32767 = omega arith in lt;
  under = let lt : (doubt + distance % 100) / 100 + min 1 ((doubt + distance % 100) % 100) < 32767 = omega arith in lt;
}

-- a test says that something cannot be told
pub cannot : (test : Bool) (told wanted : Told) → told ≡ wanted → (IsTrue test ↔ CanBeTold told) → test ≡ false → ¬ CanBeTold wanted
cannot test told wanted same means fails can =
    let passes : test ≡ true = means.1 (subst CanBeTold (sym same) can) in
    cc

lower : (distance doubt : ℕ) → ¬ CanBeTold (told_at 0 distance doubt) → ¬ CanBeTold (told_at 1 distance doubt)
    → (scale : ℕ) → scale < 2 → ¬ CanBeTold (told_at scale distance doubt)
lower distance doubt first second zero below = first
lower distance doubt first second (suc zero) below = second
lower distance doubt first second (suc (suc n)) below = absurd (omega arith)

-- the greatest scale is the least one where the two below are too small
pub tens_of_metres : (distance doubt : ℕ) → distance ≤ 3000000 → doubt ≤ 3000000 → ¬ CanBeTold (told_at 0 distance doubt) → ¬ CanBeTold (told_at 1 distance doubt)
    → IsLeastScale distance doubt 2
tens_of_metres distance doubt near sure first second =
    record { known = omega arith; enough = told_in_tens_of_metres distance doubt near sure; least = lower distance doubt first second }

-- ---- the place

code_leads_back : (nominal facing : Way) → way_of nominal (code_of nominal facing) ≡ facing
code_leads_back Up Up = refl
code_leads_back Up Down = refl
code_leads_back Down Up = refl
code_leads_back Down Down = refl

code_known : (nominal facing : Way) → code_of nominal facing ≤ 1
code_known Up Up = omega arith
code_known Up Down = omega arith
code_known Down Up = omega arith
code_known Down Down = omega arith

-- the estimate lies on the way from the balise group to the place
fits_room : (facing : Way) (end at place told : ℕ) → LiesBehind facing place at → place ≤ end → told ≤ abs_diff place at → told ≤ room facing end at
fits_room Up end at place told behind on_line le = let b : at ≤ place = behind in let l : told ≤ (place - at) + (at - place) = le in let goal : told ≤ end - at = omega arith in goal
fits_room Down end at place told behind on_line le = let b : place ≤ at = behind in let l : told ≤ (place - at) + (at - place) = le in let goal : told ≤ at = omega arith in goal

not_beyond : (facing : Way) (at place told under : ℕ) → LiesBehind facing place at → abs_diff place at ≤ told + under → told ≤ abs_diff place at
    → IsAtMostAhead facing (onward facing at told) under place
not_beyond Up at place told under behind far near =
    let b : at ≤ place = behind in
    let f : (place - at) + (at - place) ≤ told + under = far in
    let goal : place ≤ (at + told) + under = omega arith in goal
not_beyond Down at place told under behind far near =
    let b : place ≤ at = behind in
    let n : told ≤ (place - at) + (at - place) = near in
    let f : (place - at) + (at - place) ≤ told + under = far in
    let goal : at - told ≤ place + under = omega arith in goal

not_short : (facing : Way) (at place told over : ℕ) → LiesBehind facing place at → told ≤ abs_diff place at → IsAtMostAhead (back facing) (onward facing at told) over place
not_short Up at place told over behind near =
    let b : at ≤ place = behind in
    let n : told ≤ (place - at) + (at - place) = near in
    let goal : at + told ≤ place + over = omega arith in goal
not_short Down at place told over behind near =
    let b : place ≤ at = behind in
    let n : told ≤ (place - at) + (at - place) = near in
    let goal : place ≤ (at - told) + over = omega arith in goal

itself : (way : Way) (place by : ℕ) → IsAtMostAhead way place by place
itself Up place by = let goal : place ≤ place + by = omega arith in goal
itself Down place by = let goal : place ≤ place + by = omega arith in goal

-- what a report tells of the distance to a place
pub record IsToldOf (facing : Way) (end place : ℕ) (g : Group) (p : Position) : Type 0 where
  pub behind : LiesBehind facing place g.at
  pub on_line : place ≤ end
  pub at : g.at ≤ end
  pub dir : way_of g.nominal p.dir ≡ facing
  pub side : way_of g.nominal p.side ≡ facing
  pub near : in_units p.scale p.distance ≤ abs_diff place g.at
  pub far : abs_diff place g.at ≤ in_units p.scale p.distance + in_units p.scale p.under

room_for : (facing : Way) (end place : ℕ) (g : Group) (p : Position) → IsToldOf facing end place g p → in_units p.scale p.distance ≤ room (way_of g.nominal p.side) end g.at
room_for facing end place g p h = subst (λ way. in_units p.scale p.distance ≤ room way end g.at) (sym h.side) (fits_room facing end g.at place _ h.behind h.on_line h.near)

-- a train whose front is at the place may stand there
abbrev front_at : (facing : Way) (end place : ℕ) (g : Group) (p : Position) (length : ℕ) → IsToldOf facing end place g p → MayStandAt end g p length place
front_at facing end place g p length h =
    let told = in_units p.scale p.distance in
    let estimate = onward facing g.at told in
    record {
      estimate = estimate;
      counted = subst (λ way. IsAhead way g.at told estimate) (sym h.side) (onward_is_ahead facing end g.at told h.at (fits_room facing end g.at place told h.behind h.on_line h.near)).1;
      stands = record {
        front = place;
        on_line = h.on_line;
        not_beyond = subst (λ way. IsAtMostAhead way estimate (in_units p.scale p.under) place) (sym h.dir) (not_beyond facing g.at place told _ h.behind h.far h.near);
        not_short = subst (λ way. IsAtMostAhead (back way) estimate (in_units p.scale p.over) place) (sym h.dir) (not_short facing g.at place told _ h.behind h.near);
        from_front = itself (way_of g.nominal p.dir) place 0;
        to_rear = itself (back (way_of g.nominal p.dir)) place length;
      };
    }

known_from : (p : Position) → p.previous ≡ None → p.scale ≤ 2 → p.dir ≤ 1 → p.side ≤ 1 → p.distance < unknown → p.over < unknown → p.under < unknown → is_known p ≡ true
known_from p previous scale dir side distance over under =
    and_from _ _ (and_from _ _ (and_from _ _ (and_from _ _ (and_from _ _ (and_from _ _ (ap is_none previous) (le-leb p.scale 2 scale)) (le-leb p.dir 1 dir)) (le-leb p.side 1 side)) (lt-ltb p.distance 32767 distance)) (lt-ltb p.over 32767 over)) (lt-ltb p.under 32767 under)

-- the units of a scale that is known
unit_positive : (scale : ℕ) → scale ≤ 2 → 0 < 10 ^ scale
unit_positive zero h = omega arith
unit_positive (suc zero) h = omega arith
unit_positive (suc (suc zero)) h = omega arith
unit_positive (suc (suc (suc n))) h = absurd (omega arith)

-- what the scale rounds off is within the doubt under
rounded : (unit distance doubt told under : ℕ) → 0 < unit → told ≡ distance / unit → under ≡ div_ceil (doubt + distance % unit) unit
    → (told * unit ≤ distance) × (distance ≤ told * unit + under * unit)
rounded unit distance doubt told under positive is_told is_under =
    let up = div_ceil_times (doubt + distance % unit) unit positive in
    let e : told * unit ≡ distance / unit * unit = ap (λ n. n * unit) is_told in
    let u : under * unit ≡ div_ceil (doubt + distance % unit) unit * unit = ap (λ n. n * unit) is_under in
    (omega (arith, e), omega (arith, e, u, up.0))

told_of : (plan : Plan) (line place : ℕ) (facing : Way) (doubt : ℕ) (report : Position) (h : IsReportAt plan line place facing doubt report)
    → IsToldOf facing (slice_index plan.lines line) place h.group report
told_of plan line place facing doubt report h =
    let g = h.group in
    let d = abs_diff place g.at in
    let unit = 10 ^ report.scale in
    let end_is : slice_index plan.lines line ≡ h.on_track.end = get_or_from_slice_get plan.lines line h.on_track.end 0 h.on_track.length in
    let placed = h.nearest.placed in
    let group_end : slice_index plan.lines g.line ≡ placed.length = get_or_from_slice_get plan.lines g.line placed.length 0 placed.line in
    let same_end : slice_index plan.lines g.line ≡ slice_index plan.lines line = ap (slice_index plan.lines) h.nearest.behind.on in
    let within = h.on_track.within in
    let at = placed.place in
    let both = rounded unit d doubt report.distance report.under (unit_positive report.scale h.scale.known) (ap (λ told. told.distance) h.told) (ap (λ told. told.under) h.told) in
    record {
      behind = h.nearest.behind.behind;
      on_line = omega (arith, end_is, within);
      at = omega (arith, group_end, same_end, at);
      dir = ap (way_of g.nominal) h.dir ∙ code_leads_back g.nominal facing;
      side = ap (way_of g.nominal) h.side ∙ code_leads_back g.nominal facing;
      near = both.0;
      far = both.1;
    }

-- the rule gives a place
given_by : (plan : Plan) (line place : ℕ) (facing : Way) (doubt : ℕ) (report : Position) (length : ℕ) (h : IsReportAt plan line place facing doubt report)
    → IsToldOf facing (slice_index plan.lines line) place h.group report
    → place_of_report plan report length ≡ Some (place_from (slice_index plan.lines line) h.group report length)
given_by plan line place facing doubt report length h told =
    let g = h.group in
    let same : told_at report.scale (abs_diff place g.at) doubt ≡ record { distance = report.distance; over = report.over; under = report.under } = sym h.told in
    let can = subst CanBeTold same h.scale.enough in
    let known = known_from report h.previous h.scale.known (subst (λ code. code ≤ 1) (sym h.dir) (code_known g.nominal facing))
    (subst (λ code. code ≤ 1) (sym h.side) (code_known g.nominal facing)) can.distance can.over can.under in
    let on_line : is_front_on_line (slice_index plan.lines line) g report ≡ true = le-leb _ _ (room_for facing (slice_index plan.lines line) place g report told) in
    ap (option_and_then (place_by_group plan report length)) h.nearest.known
    ∙ ap (λ l. cond (is_known report && is_front_on_line (slice_index plan.lines l) g report) (Some (place_from (slice_index plan.lines l) g report length)) None) h.nearest.behind.on
    ∙ ap (λ b. cond b (Some (place_from (slice_index plan.lines line) g report length)) None) (and_from _ _ known on_line)

pub leads_back : (plan : Plan) (line place : ℕ) (facing : Way) (doubt : ℕ) (report : Position) (length : ℕ)
    → IsReportAt plan line place facing doubt report → LeadsBack plan line place facing report length
leads_back plan line place facing doubt report length h =
    let g = h.group in
    let end = slice_index plan.lines line in
    let told = told_of plan line place facing doubt report h in
    let allowed = front_at facing end place g report length told in
    let within = (holds_its_train end g report length told.at (room_for facing end place g report told) place told.on_line).1 allowed in
    record {
      given = place_from end g report length;
      by_report = given_by plan line place facing doubt report length h told;
      on_line = h.nearest.behind.on;
      faces = told.dir;
      group = g;
      known = h.nearest.known;
      allowed = allowed;
      front = refl;
      low = within.0;
      high = within.1;
    }
