-- A packet of a message 24 as an object (own rule).
use Rattle.std.specs.Prelude.{◌≡◌, ℕ, ℤ, pos, neg_ℤ, int_le, if◌then◌else◌, List, [], ◌∷◌, ◌++◌, codes}
use Rattle.ertms_codec.specs.declared.packets.Part.{Part}
use Rattle.ertms_codec.specs.declared.packets.Part.TheVariants as packet
use Rattle.rbc_track.specs.Plan.{Plan}
use Rattle.rbc_rule.specs.Saying as rule
use Rattle.rbc_rule.specs.Saying.{Said, PacketSays}
use Rattle.rbc_account.specs.declared.told.WhyRevoked.{WhyRevoked}
use Rattle.rbc_account.specs.declared.told.ToldRestriction.{ToldRestriction}
use Rattle.rbc_account.specs.declared.told.RestrictionTold.{RestrictionTold}
use Rattle.rbc_account.specs.declared.told.RestrictionTold.TheVariants as told
use Rattle.rbc_explain.specs.declared.said.Spot.{Spot}
use Rattle.rbc_explain.specs.declared.said.Spoken.TheVariants as spoken
use Rattle.rbc_explain.specs.Said.{IsSpokenByPacket}
use Rattle.rbc_json.specs.declared.packet.RestrictPacket.{RestrictPacket}
use Rattle.rbc_json.specs.declared.packet.StretchTold.{StretchTold}
use Rattle.rbc_json.specs.Json.{Json, Number, number, object}
use Rattle.rbc_json.specs.Lists.{AreTogether}
use Rattle.rbc_json.specs.Reasons.{told_object, revoked_object}

-- the fields of a packet 65: what it says, and why
abbrev pub stretch_fields : RestrictPacket → List (List ℕ × Json)
stretch_fields packet =
    (codes "packet", number 65) ∷ (codes "restriction", number packet.number) ∷ (codes "identifier", number packet.id) ∷ (codes "line", number packet.told.line)
    ∷ []

abbrev pub told_fields : RestrictPacket → List (List ℕ × Json)
told_fields packet =
    (codes "from", Number packet.told.from) ∷ (codes "to", Number packet.told.to) ∷ (codes "speed", number packet.told.speed) ∷ (codes "step", number packet.unit)
    ∷ (codes "why", told_object packet.segment packet.why) ∷ []

abbrev pub restrict_object : RestrictPacket → Json
restrict_object packet = object (stretch_fields packet ++ told_fields packet)

abbrev pub lift_object : ℕ → ℕ → WhyRevoked → Json
lift_object restriction id why = object (
    (codes "packet", number 66) ∷ (codes "restriction", number restriction) ∷ (codes "identifier", number id) ∷ (codes "why", revoked_object why) ∷ [])

-- the place of a spot on its line, below 0 before the beginning of the line
abbrev pub place_of : Spot → ℤ
place_of spot = if spot.is_before then neg_ℤ (pos spot.units) else pos spot.units

-- of two numbers, the lesser one and the greater one
abbrev pub lesser : ℤ → ℤ → ℤ
lesser one other = if int_le one other then one else other

abbrev pub greater : ℤ → ℤ → ℤ
greater one other = if int_le one other then other else one

-- a stretch is what a packet tells, its ends in order
abbrev pub IsStretchOf : Plan → ℕ → Part → StretchTold → Type 0
IsStretchOf plan lrbg packet stretch =
    (from to : Spot) × IsSpokenByPacket plan lrbg packet (spoken.Restriction stretch.line from to stretch.speed)
    × (stretch.from ≡ lesser (place_of from) (place_of to)) × (stretch.to ≡ greater (place_of from) (place_of to))

-- a train is told a restriction
abbrev pub IsRestriction : Said → Type 0
IsRestriction (rule.Restricts id stretch front speed) = Unit
IsRestriction _ = ⊥

-- The value of a packet that is told with a number and a reason, in a message that names a balise group: it has what the
-- packet says.
abbrev pub IsOf : Plan → ℕ → Part → ℕ → RestrictionTold → Json → Type 0
IsOf plan lrbg (packet.Restrict dir scale id start length front speed) restriction (told.Told segment begin end unit why) value =
    (stretch : StretchTold) × IsStretchOf plan lrbg (packet.Restrict dir scale id start length front speed) stretch
    × (value ≡ restrict_object (record { number = restriction; id = id; told = stretch; unit = unit; segment = segment; why = why }))
IsOf plan lrbg (packet.Lift dir id) restriction (told.Revoked why) value = value ≡ lift_object restriction id why
IsOf plan lrbg _ restriction _ value = Unit

-- a value is that of a packet with what is told of it, if the packet says something; each packet of a run does
abbrev pub IsOfPacket : Plan → ℕ → Part → ToldRestriction → Json → Type 0
IsOfPacket plan lrbg packet one value = (said : Said) → PacketSays plan lrbg packet said → IsOf plan lrbg packet one.number one.what value

-- values are those of packets, in their order
abbrev pub ArePackets : Plan → ℕ → List Part → List ToldRestriction → List Json → Type 0
ArePackets plan lrbg packets all values = AreTogether (IsOfPacket plan lrbg) packets all values
