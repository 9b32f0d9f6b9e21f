-- A train on another line is not touched by a stop or a restriction that begins.
use Rattle.std.proofs.Common.{◌≡◌, ℕ, ◌<◌, Bool, false, not, cond, ◌&&◌, ◌||◌, ◌==◌, if◌then◌else◌, ltb, List, [], ◌∷◌, length, map, Some, None, is_some, refl, ap, ◌∙◌, arith}
use Rattle.std.specs.List.{All, filter, list_any}
use Rattle.std.proofs.lemmas.Bool.{false_from_ne_true, or_parts, and_right}
use Rattle.rbc_track.specs.Plan.{Plan}
use Rattle.rbc_track.specs.declared.group.Way.{Way}
use Rattle.rbc_track.specs.declared.group.Way.TheVariants.{Up, Down}
use Rattle.rbc_place.specs.Placing.{Place}
use Rattle.rbc_zones.specs.declared.segment.Segment.{Segment}
use Rattle.rbc_zones.specs.declared.stop_meaning.Concern.{Concern}
use Rattle.rbc_zones.specs.declared.stop_meaning.Concern.TheVariants as concern
use Rattle.rbc_zones.specs.Concerns.{meets, edge_of, is_ahead, nearest, concern_by_edge, concern_at, concern_of}
use Rattle.rbc_zones.specs.Limits.{Limit, is_for, lies_behind, ends_beyond_group, starts_within, concerns}
use Rattle.rbc_settle.specs.declared.train.TrainRec.{TrainRec}
use Rattle.rbc_settle.specs.Numbers.{has_number}
use Rattle.rbc_settle.specs.Settling.{Stops, told_limit, limit_told_to}
use Rattle.rbc_settle.specs.WellFormed.{IsGiven, IsWellFormedTrain}
use Rattle.rbc_settle.proofs.Labels.{all_has}
use Rattle.rbc_rule.specs.World.{World}
use Rattle.rbc_records.specs.SoughtTrains.{is_concern}
use Rattle.rbc_rule.specs.Touching.{is_stop_for, is_limit_for, HasBegun}

-- ---- a stop

-- nothing is left of a list in which no element passes
pub none_left : {A : Type 0} (test : A → Bool) (xs : List A) → list_any test xs ≡ false → filter test xs ≡ []
none_left test [] e = refl
none_left test (x ∷ xs) e =
    let parts = or_parts (test x) (list_any test xs) e in
    ap (λ b. cond b (x ∷ filter test xs) (filter test xs)) parts.0 ∙ none_left test xs parts.1

-- no edge is nearest where there is none
none_nearest : (way : Way) → nearest way [] ≡ None
none_nearest Up = refl
none_nearest Down = refl

-- what a stop means, from its segments on the train's line
abbrev by_segments : Place → List Segment → Concern
by_segments p segments =
    if list_any (meets p) segments then concern.Now
    else concern_by_edge p (nearest p.facing (filter (is_ahead p.facing p) (map (edge_of p.facing) segments)))

-- an area of which no segment is on the train's line is nothing to a train that has not rejected it
nothing_on_line : (p : Place) (area : List Segment) → list_any (λ segment. segment.line == p.line) area ≡ false
    → concern_at area false p ≡ concern.None
nothing_on_line p area none =
    ap (by_segments p) (none_left (λ (segment : Segment). segment.line == p.line) area none) ∙ ap (concern_by_edge p) (none_nearest p.facing)

-- a number above the last one was not given
not_given : (last number : ℕ) (given : List ℕ) → last < number → All (IsGiven last) given → has_number given number ≡ false
not_given last number given above all =
    false_from_ne_true (has_number given number) (λ there.
    let within = (all_has (IsGiven last) given all number there).1 in
    absurd (omega (arith, above, within)))

-- a stop that begins does not touch a train on a line on which it has no segment
pub stop_elsewhere : (plan : Plan) (w : World) (stops : Stops) (number : ℕ) (area : List Segment) (train : TrainRec) (p : Place)
    → IsWellFormedTrain plan w.stops w.limits train → HasBegun number area w.stops stops → train.place ≡ Some p
    → list_any (λ segment. segment.line == p.line) area ≡ false → is_stop_for train (number, area) ≡ false
stop_elsewhere plan w stops number area train p well begun at none =
    and_right (ltb (length train.stops) 15) (is_concern (concern_of area (has_number train.forced number) train.place))
    (ap (λ forced. is_concern (concern_of area forced train.place)) (not_given w.stops.last number train.forced begun.above well.forced)
    ∙ ap (λ place. is_concern (concern_of area false place)) at
    ∙ ap is_concern (nothing_on_line p area none))

-- ---- a restriction

-- a restriction on another line does not concern a train
not_concerned : (horizon : ℕ) (limit : Limit) (p : Place) → (limit.segment.line == p.line) ≡ false → concerns limit p horizon ≡ false
not_concerned horizon limit p other =
    let clear = λ (same : Bool). not same || not (is_for limit.dirs p.facing) || lies_behind p.facing limit.segment p in
    ap (λ same. not (clear same) && ends_beyond_group limit p && starts_within p.facing limit.segment p horizon) other

-- a restriction that begins does not touch a train without a place
pub limit_nowhere : (horizon : ℕ) (train : TrainRec) (limit : Limit) → train.place ≡ None → is_limit_for horizon train limit ≡ false
limit_nowhere horizon train limit at =
    and_right (ltb (length train.limits) 255) (is_some (limit_told_to horizon train.place limit))
    (ap (λ place. is_some (limit_told_to horizon place limit)) at)

-- nor one on another line
pub limit_elsewhere : (horizon : ℕ) (train : TrainRec) (limit : Limit) (p : Place) → train.place ≡ Some p
    → (limit.segment.line == p.line) ≡ false → is_limit_for horizon train limit ≡ false
limit_elsewhere horizon train limit p at other =
    and_right (ltb (length train.limits) 255) (is_some (limit_told_to horizon train.place limit))
    (ap (λ place. is_some (limit_told_to horizon place limit)) at
    ∙ ap (λ b. is_some (cond b (Some (told_limit limit p)) None)) (not_concerned horizon limit p other))
