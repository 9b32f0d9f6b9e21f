-- Where a report places a train, and why it gives no place.
use Rattle.std.specs.Prelude.{◌≡◌, ◌⊎◌, ℕ, ◌*◌, ◌<◌, ◌≤◌, if◌then◌else◌, Some, None, is_some, true}
use Rattle.ertms_codec.specs.declared.from_train.Position.{Position}
use Rattle.rbc_track.specs.Plan.{Plan, group_of}
use Rattle.rbc_track.specs.declared.group.Group.{Group}
use Rattle.rbc_track.specs.declared.group.Way.{Way}
use Rattle.rbc_track.specs.declared.group.Way.TheVariants.{Up, Down}
use Rattle.rbc_place.specs.Placing.{Place, place_of_report, onward, way_of, unknown}
use Rattle.rbc_account.specs.declared.placing.Placing.{Placing}
use Rattle.rbc_account.specs.declared.placing.Placing.TheVariants.{At, Nowhere}
use Rattle.rbc_account.specs.declared.placing.NoPlace.{NoPlace}
use Rattle.rbc_account.specs.declared.placing.NoPlace.TheVariants.{TwoGroups, Direction, Distance, UnknownGroup, OffLine}
use Rattle.rbc_account.specs.Places.{unit_of}

-- a reason why a report gives no place is true of it
abbrev pub IsWhyNowhere : Plan → Position → NoPlace → Type 0
IsWhyNowhere plan position TwoGroups = is_some position.previous ≡ true
IsWhyNowhere plan position Direction = (1 < position.dir) ⊎ (1 < position.side)
IsWhyNowhere plan position Distance = (unknown ≤ position.distance) ⊎ ((unknown ≤ position.over) ⊎ (unknown ≤ position.under))
IsWhyNowhere plan position (UnknownGroup nid) = (nid ≡ position.lrbg) × (group_of plan position.lrbg ≡ None)
IsWhyNowhere plan position (OffLine line) = (group : Group) × (group_of plan position.lrbg ≡ Some group) × (group.line ≡ line)

-- the nominal direction of the balise group of a place
abbrev pub nominal_of : Place → Way
nominal_of place = if place.same then Up else Down

-- The estimated front of a train at the place of a report: at the distance from the balise group, and on the side, that the report gives.
abbrev pub estimated_front : Place → Position → ℕ
estimated_front place position = onward (way_of (nominal_of place) position.side) place.at (position.distance * unit_of position.scale)

-- A report of a train of this length gives the place of the rules, with the estimated front, or no place, for a reason that is true of it.
abbrev pub IsPlacing : Plan → Position → ℕ → Placing → Type 0
IsPlacing plan position length (At place front) = (place_of_report plan position length ≡ Some place) × (front ≡ estimated_front place position)
IsPlacing plan position length (Nowhere why) = (place_of_report plan position length ≡ None) × IsWhyNowhere plan position why
