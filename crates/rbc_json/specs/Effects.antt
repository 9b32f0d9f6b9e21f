-- What an accepted input did, as an object (own rule).
use Rattle.std.specs.Prelude.{ℕ, Bool, ◌==◌, if◌then◌else◌, Option, Some, None, List, [], ◌∷◌, ◌++◌, map, codes}
use Rattle.rbc_place.specs.Placing.{Place}
use Rattle.rbc_zones.specs.declared.segment.Segment.{Segment}
use Rattle.rbc_zones.specs.declared.limit.Dirs.{Dirs}
use Rattle.rbc_account.specs.declared.placing.Placing.{Placing}
use Rattle.rbc_account.specs.declared.placing.Placing.TheVariants.{At, Nowhere}
use Rattle.rbc_account.specs.declared.placing.NoPlace.TheVariants.{TwoGroups, Direction, Distance, UnknownGroup, OffLine}
use Rattle.rbc_account.specs.declared.counts.Counts.{Counts}
use Rattle.rbc_account.specs.declared.deed.Acked.{Acked}
use Rattle.rbc_account.specs.declared.deed.Acked.TheVariants as acked
use Rattle.rbc_account.specs.declared.deed.Deed.{Deed}
use Rattle.rbc_account.specs.declared.deed.Deed.TheVariants as deed
use Rattle.rbc_json.specs.Json.{Json, Null, Text, number, object, array}
use Rattle.rbc_json.specs.Reasons.{reason}
use Rattle.rbc_json.specs.Places.{place_or_null}
use Rattle.rbc_json.specs.Shapes.{segment_object, ways_word, end_word, number_or_null, known_stamp}

-- ---- where a report places a train

abbrev pub place_in : Placing → Option Place
place_in (At place front) = Some place
place_in (Nowhere why) = None

abbrev pub front_in : Placing → Option ℕ
front_in (At place front) = Some front
front_in (Nowhere why) = None

abbrev pub no_place_or_null : Placing → Json
no_place_or_null (At place front) = Null
no_place_or_null (Nowhere TwoGroups) = reason (codes "two_balise_groups")
no_place_or_null (Nowhere Direction) = reason (codes "unknown_direction")
no_place_or_null (Nowhere Distance) = reason (codes "unknown_distance")
no_place_or_null (Nowhere (UnknownGroup nid)) = object ((codes "reason", Text (codes "unknown_balise_group")) ∷ (codes "balise_group", number nid) ∷ [])
no_place_or_null (Nowhere (OffLine line)) = object ((codes "reason", Text (codes "off_line")) ∷ (codes "line", number line) ∷ [])

-- ---- what a stop or a restriction that began means for the trains

abbrev pub stop_counts : Option Counts → Json
stop_counts (Some counts) = object (
    (codes "trains", number counts.trains) ∷ (codes "told", number counts.told) ∷ (codes "not_told", number counts.untold)
    ∷ (codes "not_concerned", number counts.unconcerned) ∷ [])
stop_counts None = Null

abbrev pub restrict_counts : Option Counts → Json
restrict_counts (Some counts) = object (
    (codes "trains", number counts.trains) ∷ (codes "told", number counts.told) ∷ (codes "not_told", number counts.untold)
    ∷ (codes "without_place", number counts.unplaced) ∷ (codes "not_concerned", number counts.unconcerned) ∷ [])
restrict_counts None = Null

-- ---- the effects

-- an answer to a stop, by its Q_EMERGENCYSTOP
abbrev pub answer_word : ℕ → Json
answer_word answer =
    if answer == 0 then Text (codes "accepted_changed") else if answer == 1 then Text (codes "accepted_unchanged")
    else if answer == 2 then Text (codes "accepted") else Text (codes "rejected")

abbrev pub affected_object : Acked → Json
affected_object (acked.StopFreed id) = object ((codes "kind", Text (codes "stop_revocation")) ∷ (codes "identifier", number id) ∷ [])
affected_object (acked.RestrictionFreed id) = object ((codes "kind", Text (codes "restriction_revocation")) ∷ (codes "identifier", number id) ∷ [])
affected_object (acked.Restriction id restriction) =
    object ((codes "kind", Text (codes "restriction")) ∷ (codes "identifier", number id) ∷ (codes "restriction", number restriction) ∷ [])

abbrev pub stopped_object : ℕ → List Segment → Option Counts → Json
stopped_object stop segments counts = object (
    (codes "kind", Text (codes "stop")) ∷ (codes "stop", number stop) ∷ (codes "segments", array (map segment_object segments))
    ∷ (codes "counts", stop_counts counts) ∷ [])

-- which restriction it is, and its speed
abbrev pub limit_fields : ℕ → Segment → Dirs → List (List ℕ × Json)
limit_fields restriction segment dirs =
    (codes "kind", Text (codes "restrict")) ∷ (codes "restriction", number restriction) ∷ (codes "segment", segment_object segment) ∷ (codes "ways", ways_word dirs)
    ∷ []

abbrev pub speed_fields : ℕ → Bool → Option Counts → List (List ℕ × Json)
speed_fields speed front counts =
    (codes "speed", number speed) ∷ (codes "ends_with", end_word front) ∷ (codes "counts", restrict_counts counts) ∷ []

abbrev pub restricted_object : ℕ → Segment → Dirs → ℕ → Bool → Option Counts → Json
restricted_object restriction segment dirs speed front counts = object (limit_fields restriction segment dirs ++ speed_fields speed front counts)

abbrev pub reported_object : ℕ → ℕ → Placing → Json
reported_object engine stamp placing = object (
    (codes "kind", Text (codes "report")) ∷ (codes "engine", number engine) ∷ (codes "stamp", number_or_null (known_stamp stamp))
    ∷ (codes "place", place_or_null (place_in placing)) ∷ (codes "front", number_or_null (front_in placing)) ∷ (codes "no_place", no_place_or_null placing) ∷ [])

-- which train answers which stop, and how
abbrev pub asked_fields : ℕ → ℕ → ℕ → List (List ℕ × Json)
asked_fields engine stamp stop =
    (codes "kind", Text (codes "answer")) ∷ (codes "engine", number engine) ∷ (codes "stamp", number_or_null (known_stamp stamp)) ∷ (codes "stop", number stop)
    ∷ []

abbrev pub answer_fields : ℕ → ℕ → Placing → List (List ℕ × Json)
answer_fields id answer placing =
    (codes "identifier", number id) ∷ (codes "answer", answer_word answer) ∷ (codes "place", place_or_null (place_in placing))
    ∷ (codes "front", number_or_null (front_in placing)) ∷ (codes "no_place", no_place_or_null placing) ∷ []

abbrev pub answered_object : ℕ → ℕ → ℕ → ℕ → ℕ → Placing → Json
answered_object engine stamp id stop answer placing = object (asked_fields engine stamp stop ++ answer_fields id answer placing)

abbrev pub acknowledged_object : ℕ → ℕ → ℕ → List Acked → Json
acknowledged_object engine stamp acked all = object (
    (codes "kind", Text (codes "acknowledge")) ∷ (codes "engine", number engine) ∷ (codes "stamp", number_or_null (known_stamp stamp))
    ∷ (codes "acknowledged_stamp", number acked) ∷ (codes "affected", array (map affected_object all)) ∷ [])

-- what an accepted input did, and nothing of a refused one
abbrev pub effect_object : Option Counts → Deed → Json
effect_object counts (deed.Enrolled engine train_length) =
    object ((codes "kind", Text (codes "enrol")) ∷ (codes "engine", number engine) ∷ (codes "length", number train_length) ∷ [])
effect_object counts (deed.Withdrawn engine) = object ((codes "kind", Text (codes "withdraw")) ∷ (codes "engine", number engine) ∷ [])
effect_object counts (deed.Stopped stop segments) = stopped_object stop segments.items counts
effect_object counts (deed.Restricted restriction segment dirs speed front) = restricted_object restriction segment dirs speed front counts
effect_object counts (deed.Released stop) = object ((codes "kind", Text (codes "release")) ∷ (codes "stop", number stop) ∷ [])
effect_object counts (deed.Lifted restriction) = object ((codes "kind", Text (codes "lift")) ∷ (codes "restriction", number restriction) ∷ [])
effect_object counts (deed.Reported engine stamp placing) = reported_object engine stamp placing
effect_object counts (deed.Answered engine stamp id stop answer placing) = answered_object engine stamp id stop answer placing
effect_object counts (deed.Acknowledged engine stamp acked all) = acknowledged_object engine stamp acked all.items
effect_object counts (deed.Refused detail) = Null
