-- The words on a message say what the message says (own rule).
use Rattle.std.specs.Prelude.{◌≡◌, ℕ, ◌+◌, Bool, true, false, List, [], ◌∷◌}
use Rattle.ertms_codec.specs.declared.packets.Part.{Part}
use Rattle.ertms_codec.specs.declared.to_train.ToTrain.{ToTrain}
use Rattle.rbc_track.specs.Plan.{Plan}
use Rattle.rbc_track.specs.declared.group.Way.{Way}
use Rattle.rbc_track.specs.declared.group.Way.TheVariants.{Up, Down}
use Rattle.rbc_rule.specs.Saying as rule
use Rattle.rbc_rule.specs.Saying.{CountsFrom, IsSpotTold, IsStretchTold, Says, PacketSays}
use Rattle.rbc_explain.specs.Sentences.{stop_sentence, restriction_sentence, packet_sentence}
use Rattle.rbc_explain.specs.declared.said.Origin.{Origin}
use Rattle.rbc_explain.specs.declared.said.Spoken.{Spoken}
use Rattle.rbc_explain.specs.declared.said.Spoken.TheVariants as spoken

-- what the distances of a message count from
abbrev pub IsOriginOf : Plan → ℕ → ℕ → ℕ → Origin → Type 0
IsOriginOf plan lrbg dir scale origin = CountsFrom plan lrbg dir scale origin.line origin.at origin.way origin.unit

-- a place lies this far ahead of another: this many units after the beginning of the line, or before it
abbrev pub IsSpotAhead : Way → ℕ → ℕ → Bool → ℕ → Type 0
IsSpotAhead Up from by false units = units ≡ from + by
IsSpotAhead Up from by true units = ⊥
IsSpotAhead Down from by false units = from ≡ units + by
IsSpotAhead Down from by true units = by ≡ from + units

-- the words say what the message says
abbrev pub IsSpoken : rule.Said → Spoken → Type 0
IsSpoken (rule.StopsAtOnce id) spoken.StopAtOnce = Unit
IsSpoken (rule.StopsBefore id spot) (spoken.StopBefore line place) = (line ≡ spot.line) × (place ≡ spot.place)
IsSpoken (rule.RevokesStop id) spoken.StopRevoked = Unit
IsSpoken (rule.RevokesStop id) (spoken.IdentifierRevoked other) = id ≡ other
IsSpoken (rule.Restricts id stretch front speed) (spoken.Restriction line from to told) =
    (line ≡ stretch.line) × (told ≡ speed)
    × IsSpotAhead stretch.way stretch.origin stretch.begin from.is_before from.units
    × IsSpotAhead stretch.way stretch.origin stretch.end to.is_before to.units
IsSpoken (rule.RevokesLimit id) spoken.RestrictionRevoked = Unit
IsSpoken _ _ = ⊥

-- a message says one thing, and the words say it
abbrev pub IsSpokenBy : Plan → ToTrain → Spoken → Type 0
IsSpokenBy plan message words = (said : rule.Said) × Says plan message (said ∷ []) × IsSpoken said words

-- a train is told something of a stop
abbrev pub IsOnStop : rule.Said → Type 0
IsOnStop (rule.StopsAtOnce id) = Unit
IsOnStop (rule.StopsBefore id spot) = Unit
IsOnStop (rule.RevokesStop id) = Unit
IsOnStop (rule.Restricts id stretch front speed) = ⊥
IsOnStop (rule.RevokesLimit id) = ⊥

-- the same for a packet, in a message that names a balise group
abbrev pub IsSpokenByPacket : Plan → ℕ → Part → Spoken → Type 0
IsSpokenByPacket plan lrbg packet words = (said : rule.Said) × PacketSays plan lrbg packet said × IsSpoken said words

-- to stop before the place that lies this many units ahead
abbrev pub IsStopBefore : Plan → ℕ → ℕ → ℕ → ℕ → Spoken → Type 0
IsStopBefore plan lrbg dir scale distance words =
    (spot : rule.Spot) × IsSpotTold plan lrbg dir scale distance spot × ((id : ℕ) → IsSpoken (rule.StopsBefore id spot) words)

-- to keep to a speed on the stretch that begins this many units ahead
abbrev pub IsRestriction : Plan → ℕ → ℕ → ℕ → ℕ → ℕ → ℕ → Spoken → Type 0
IsRestriction plan lrbg dir scale start length speed words =
    (stretch : rule.Stretch) × IsStretchTold plan lrbg dir scale start length stretch
    × ((id : ℕ) (front : Bool) → IsSpoken (rule.Restricts id stretch front speed) words)

-- "The stop is revoked" is said of a stop that is no longer active. A stop that a train left unanswered is still
-- active: only an identifier of it is revoked.
abbrev pub IsRevokedAs : Bool → Spoken → Type 0
IsRevokedAs unanswered spoken.StopRevoked = unanswered ≡ false
IsRevokedAs unanswered (spoken.IdentifierRevoked id) = unanswered ≡ true
IsRevokedAs unanswered _ = Unit

-- the sentence on a message to a train about a stop, which the train may have left unanswered: what the message says, in words
abbrev pub IsStopSentence : Plan → ℕ → ℕ → Bool → ToTrain → List ℕ → Type 0
IsStopSentence plan engine number unanswered message text =
    (words : Spoken) × IsSpokenBy plan message words × IsRevokedAs unanswered words × (text ≡ stop_sentence engine number words)

-- the sentence on a message to a train on one restriction: what its packet says, in words
abbrev pub IsRestrictionSentence : Plan → ℕ → ℕ → ℕ → Part → List ℕ → Type 0
IsRestrictionSentence plan lrbg engine number packet text =
    (words : Spoken) × IsSpokenByPacket plan lrbg packet words × (text ≡ restriction_sentence engine number words)

-- the sentence on one of several packets: what the packet says, in words
abbrev pub IsPacketSentence : Plan → ℕ → ℕ → Part → List ℕ → Type 0
IsPacketSentence plan lrbg number packet text =
    (words : Spoken) × IsSpokenByPacket plan lrbg packet words × (text ≡ packet_sentence number words)
