-- What a message says to a train, from its variables back to places on the track (SUBSET-026, 7.5 and 8; own rule).
use Rattle.std.specs.Prelude.{◌≡◌, ℕ, ◌+◌, ◌*◌, ◌^◌, Bool, ◌==◌, nat_le, if◌then◌else◌, List, [], ◌∷◌, Option, Some, None, pos}
use Rattle.ertms_codec.specs.declared.packets.Part.{Part}
use Rattle.ertms_codec.specs.declared.packets.Part.TheVariants as packet
use Rattle.ertms_codec.specs.declared.to_train.ToTrain.{ToTrain}
use Rattle.ertms_codec.specs.declared.to_train.ToTrain.TheVariants as message
use Rattle.rbc_track.specs.Plan.{Plan, group_of}
use Rattle.rbc_track.specs.declared.group.Group.{Group}
use Rattle.rbc_track.specs.declared.group.Way.{Way}
use Rattle.rbc_place.specs.Placing.{back}
use Rattle.rbc_place.specs.Reach.{IsAhead}

-- ---- what can be said

-- a place on a line before which a train is to stop: what it lies ahead of, in which direction, and the unit in which it was counted
pub record Spot : Type 0 where
  pub line : ℕ
  pub origin : ℕ
  pub way : Way
  pub place : ℕ
  pub unit : ℕ

-- a stretch ahead of an origin on a line, in one direction, from one distance to another, and the unit in which they were counted
pub record Stretch : Type 0 where
  pub line : ℕ
  pub origin : ℕ
  pub way : Way
  pub begin : ℕ
  pub end : ℕ
  pub unit : ℕ

-- What a train is told under an identifier: to stop at once; to stop before a place; to keep to a speed in km/h on a stretch, with
-- Q_FRONT; or that a stop, or a restriction, is revoked.
pub data Said : Type 0 where
  StopsAtOnce : ℕ → Said
  StopsBefore : ℕ → Spot → Said
  Restricts : ℕ → Stretch → Bool → ℕ → Said
  RevokesStop : ℕ → Said
  RevokesLimit : ℕ → Said

-- ---- what a message says

-- Q_DIR, seen from a balise group: 1 is its nominal direction and 0 the other one. 2 (both) and 3 (spare) are no way to count.
abbrev pub way_told : Way → ℕ → Option Way
way_told nominal dir = if dir == 1 then Some nominal else if dir == 0 then Some (back nominal) else None

-- Q_SCALE: distances are counted in units of 10 cm, 1 m or 10 m. 3 is spare.
abbrev pub unit_told : ℕ → Option ℕ
unit_told scale = if nat_le scale 2 then Some (10 ^ scale) else None

-- what the distances of a message count from: the balise group that it names, in one direction, in a unit
pub record CountsFrom (plan : Plan) (lrbg dir scale line origin : ℕ) (way : Way) (unit : ℕ) : Type 0 where
  pub group : Group
  pub known : group_of plan lrbg ≡ Some group
  pub on_line : line ≡ group.line
  pub from_group : origin ≡ group.at
  pub one_way : way_told group.nominal dir ≡ Some way
  pub in_units : unit_told scale ≡ Some unit

-- the place that lies this many units ahead
pub record IsSpotTold (plan : Plan) (lrbg dir scale distance : ℕ) (spot : Spot) : Type 0 where
  pub counts : CountsFrom plan lrbg dir scale spot.line spot.origin spot.way spot.unit
  pub ahead : IsAhead spot.way spot.origin (distance * spot.unit) spot.place

-- the stretch that begins this many units ahead, and is this many units long
pub record IsStretchTold (plan : Plan) (lrbg dir scale start length : ℕ) (stretch : Stretch) : Type 0 where
  pub counts : CountsFrom plan lrbg dir scale stretch.line stretch.origin stretch.way stretch.unit
  pub begins : stretch.begin ≡ start * stretch.unit
  pub ends : stretch.end ≡ (start + length) * stretch.unit

-- Q_DIR of the revocation of a restriction: it holds both ways
abbrev pub both_ways : ℕ
both_ways = 2

-- what a packet says, in a message that names a balise group
abbrev pub PacketSays : Plan → ℕ → Part → Said → Type 0
PacketSays plan lrbg (packet.Restrict dir scale id start length front speed) said = (stretch : Stretch) × (IsStretchTold plan lrbg dir scale start length stretch × (said ≡ Restricts id stretch front (5 * speed)))
PacketSays plan lrbg (packet.Lift dir id) said = (dir ≡ both_ways) × (said ≡ RevokesLimit id)

-- packets say one thing each, in their order
abbrev pub PacketsSay : Plan → ℕ → List Part → List Said → Type 0
PacketsSay plan lrbg [] [] = Unit
PacketsSay plan lrbg (first ∷ packets) (one ∷ said) = PacketSays plan lrbg first one × PacketsSay plan lrbg packets said
PacketsSay plan lrbg [] (one ∷ said) = ⊥
PacketsSay plan lrbg (first ∷ packets) [] = ⊥

-- What a message says. D_REF is 0: distances count from the balise group itself.
abbrev pub Says : Plan → ToTrain → List Said → Type 0
Says plan (message.StopAt head id scale reference dir distance) said = (reference ≡ pos 0) × ((spot : Spot) × (IsSpotTold plan head.lrbg dir scale distance spot × (said ≡ StopsBefore id spot ∷ [])))
Says plan (message.Stop head id) said = said ≡ StopsAtOnce id ∷ []
Says plan (message.Revoke head id) said = said ≡ RevokesStop id ∷ []
Says plan (message.General head packets) said = PacketsSay plan head.lrbg packets said
