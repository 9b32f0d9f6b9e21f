-- Why a message was sent, as an object (own rule).
use Rattle.std.specs.Prelude.{ℕ, Bool, true, false, List, [], ◌∷◌, codes}
use Rattle.rbc_zones.specs.declared.segment.Segment.{Segment}
use Rattle.rbc_account.specs.declared.told.WhyAtOnce.{WhyAtOnce}
use Rattle.rbc_account.specs.declared.told.WhyAtOnce.TheVariants as once
use Rattle.rbc_account.specs.declared.told.WhyTold.{WhyTold}
use Rattle.rbc_account.specs.declared.told.WhyTold.TheVariants as told
use Rattle.rbc_account.specs.declared.told.WhyRevoked.{WhyRevoked}
use Rattle.rbc_account.specs.declared.told.WhyRevoked.TheVariants as revoked
use Rattle.rbc_json.specs.Json.{Json, Text, number, object}
use Rattle.rbc_json.specs.Shapes.{segment_object, ways_word}

-- a reason alone
abbrev pub reason : List ℕ → Json
reason name = object ((codes "reason", Text name) ∷ [])

abbrev pub unanswered_object : ℕ → Json
unanswered_object id = object ((codes "reason", Text (codes "unanswered")) ∷ (codes "identifier", number id) ∷ [])

abbrev pub overlap_object : Segment → Json
overlap_object segment = object ((codes "reason", Text (codes "overlap")) ∷ (codes "segment", segment_object segment) ∷ [])

-- why a train is told to stop before a place
abbrev pub edge_object : ℕ → Json
edge_object edge = object ((codes "reason", Text (codes "edge_ahead")) ∷ (codes "edge", number edge) ∷ [])

abbrev pub at_once_object : WhyAtOnce → Json
at_once_object (once.Unanswered id) = unanswered_object id
at_once_object once.NoPlace = reason (codes "no_place")
at_once_object once.Rejected = reason (codes "rejected")
at_once_object (once.Overlaps segment) = overlap_object segment
at_once_object (once.BehindGroup edge) = object ((codes "reason", Text (codes "edge_behind")) ∷ (codes "edge", number edge) ∷ [])

-- why a stop is revoked: the train left it unanswered under an identifier, or else it is released
abbrev pub stop_revoked_object : ℕ → Bool → Json
stop_revoked_object id true = unanswered_object id
stop_revoked_object id false = reason (codes "released")

-- why the restriction of a stretch is told
abbrev pub told_object : Segment → WhyTold → Json
told_object segment told.Overlaps = overlap_object segment
told_object segment (told.Ahead distance) =
    object ((codes "reason", Text (codes "ahead")) ∷ (codes "segment", segment_object segment) ∷ (codes "distance", number distance) ∷ [])

abbrev pub revoked_object : WhyRevoked → Json
revoked_object revoked.Lifted = reason (codes "lifted")
revoked_object revoked.Passed = reason (codes "passed")
revoked_object (revoked.OtherLine train restriction) = object ((codes "reason", Text (codes "other_line")) ∷ (codes "line", number restriction) ∷ [])
revoked_object (revoked.OtherWay facing dirs) = object ((codes "reason", Text (codes "other_way")) ∷ (codes "ways", ways_word dirs) ∷ [])
