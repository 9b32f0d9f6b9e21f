-- What the objects of messages and packets say.
use Rattle.std.proofs.Common.{◌≡◌, ◌∙◌, ℕ, Bool, true, false, [], ◌∷◌, Option, IfSome, ap, sym, subst, refl, is_some}
use Rattle.ertms_codec.specs.declared.packets.Part.{Part}
use Rattle.ertms_codec.specs.declared.packets.Part.TheVariants as packet
use Rattle.ertms_codec.specs.declared.to_train.ToTrain.{ToTrain}
use Rattle.ertms_codec.specs.declared.to_train.ToTrain.TheVariants as message
use Rattle.rbc_track.specs.Plan.{Plan}
use Rattle.rbc_rule.specs.Saying as rule
use Rattle.rbc_rule.specs.Saying.{Said, Says, PacketSays}
use Rattle.rbc_explain.specs.declared.said.Spoken.{Spoken}
use Rattle.rbc_explain.specs.declared.said.Spoken.TheVariants as spoken
use Rattle.rbc_explain.specs.Said.{IsSpokenBy, IsSpoken}
use Rattle.rbc_json.specs.declared.message.PlaceTold.{PlaceTold}
use Rattle.rbc_json.specs.Messages.{IsBefore, place_in}
use Rattle.rbc_account.specs.declared.told.RestrictionTold.{RestrictionTold}
use Rattle.rbc_json.specs.Json.{Json}
use Rattle.rbc_json.specs.Packets.{IsRestriction, IsOf}

-- words that tell no place
abbrev IsOther : Spoken → Type 0
IsOther (spoken.StopBefore line place) = ⊥
IsOther _ = Unit

-- what is said of a message that tells a place is the place
one_said : (said other : Said) → said ∷ [] ≡ other ∷ [] → said ≡ other
one_said said other same = cc

places_only : (said : Said) (words : Spoken) → IsBefore said → IsSpoken said words → IsOther words → ⊥
places_only (rule.StopsBefore id spot) (spoken.StopBefore line place) before is other = other
places_only (rule.StopsBefore id spot) spoken.StopAtOnce before is other = is
places_only (rule.StopsBefore id spot) spoken.StopRevoked before is other = is
places_only (rule.StopsBefore id spot) (spoken.IdentifierRevoked id') before is other = is
places_only (rule.StopsBefore id spot) (spoken.Restriction line from to speed) before is other = is
places_only (rule.StopsBefore id spot) spoken.RestrictionRevoked before is other = is
places_only (rule.StopsAtOnce id) words before is other = before
places_only (rule.Restricts id stretch front speed) words before is other = before
places_only (rule.RevokesStop id) words before is other = before
places_only (rule.RevokesLimit id) words before is other = before

-- a message of which a place is said has nothing else said of it
says_place : (plan : Plan) (m : ToTrain) (said other : Said) → IsBefore said → Says plan m (said ∷ []) → Says plan m (other ∷ []) → IsBefore other
says_place plan (message.StopAt head id scale reference dir distance) said other before one two =
    subst IsBefore (sym (one_said other (rule.StopsBefore id two.1.0) two.1.1.1)) tt
says_place plan (message.Stop head id) said other before one two = absurd (subst IsBefore (one_said said (rule.StopsAtOnce id) one) before)
says_place plan (message.Revoke head id) said other before one two = absurd (subst IsBefore (one_said said (rule.RevokesStop id) one) before)
says_place plan (message.General head []) said other before one two = absurd one
says_place plan (message.General head (packet.Restrict dir scale id start length front speed ∷ more)) said other before one two =
    absurd (subst IsBefore one.0.1.1 before)
says_place plan (message.General head (packet.Lift dir id ∷ more)) said other before one two = absurd (subst IsBefore one.0.1 before)

-- the words of a message that tells a place are that place
pub no_other_words : (plan : Plan) (m : ToTrain) (said : Said) (words : Spoken) → IsBefore said → Says plan m (said ∷ []) → IsSpokenBy plan m words → IsOther words → ⊥
no_other_words plan m said words before says is other = places_only is.0 words (says_place plan m said is.0 before says is.1) is.2 other

-- what a packet 65 says is a restriction
pub says_restriction : (plan : Plan) (lrbg dir scale id start length speed : ℕ) (front : Bool) (said : Said)
    → PacketSays plan lrbg (packet.Restrict dir scale id start length front speed) said → IsRestriction said
says_restriction plan lrbg dir scale id start length speed front said says = subst IsRestriction (sym says.1.1) tt

-- a value is that of a packet, by which packet it is and what is told of it
pub packet_carried : (plan : Plan) (lrbg : ℕ) (p q : Part) (restriction : ℕ) (w v : RestrictionTold) (value : Json) → p ≡ q → w ≡ v → IsOf plan lrbg q restriction v value
    → IsOf plan lrbg p restriction w value
packet_carried plan lrbg p q restriction w v value same told is =
    subst (λ (x : Part). IsOf plan lrbg x restriction w value) (sym same) (subst (λ (y : RestrictionTold). IsOf plan lrbg q restriction y value) (sym told) is)

-- a packet 65 that says something tells a stretch
pub no_stretch : (plan : Plan) (lrbg dir scale id start length speed : ℕ) (front : Bool) (p : Part) (said : Said) (found : Bool)
    → p ≡ packet.Restrict dir scale id start length front speed → PacketSays plan lrbg p said → (IsRestriction said → found ≡ true) → found ≡ false → ⊥
no_stretch plan lrbg dir scale id start length speed front p said found same says all none =
    let yes = all (says_restriction plan lrbg dir scale id start length speed front said (subst (λ (x : Part). PacketSays plan lrbg x said) same says)) in
    cc

-- the place in the words of a message is told by the message
pub place_is : (Is : Spoken → Type 0) (words : Spoken) (found : Option PlaceTold) → found ≡ place_in words → Is words → IfSome found (λ told. Is (spoken.StopBefore told.line told.at))
place_is Is words found same is = subst (λ (f : Option PlaceTold). IfSome f (λ told. Is (spoken.StopBefore told.line told.at))) (sym same) (by_words words is) where
  by_words : (w : Spoken) → Is w → IfSome (place_in w) (λ told. Is (spoken.StopBefore told.line told.at))
  by_words (spoken.StopBefore line place) here = here
  by_words spoken.StopAtOnce here = tt
  by_words spoken.StopRevoked here = tt
  by_words (spoken.IdentifierRevoked id) here = tt
  by_words (spoken.Restriction line from to speed) here = tt
  by_words spoken.RestrictionRevoked here = tt

-- the words of a message that tells a place have it
pub place_found : (plan : Plan) (m : ToTrain) (words : Spoken) (found : Option PlaceTold) → found ≡ place_in words → IsSpokenBy plan m words → (said : Said) → IsBefore said → Says plan m (said ∷ [])
    → is_some found ≡ true
place_found plan m words found same is said before says = ap (λ (f : Option PlaceTold). is_some f) same ∙ by_words words is where
  by_words : (w : Spoken) → IsSpokenBy plan m w → is_some (place_in w) ≡ true
  by_words (spoken.StopBefore line place) here = refl
  by_words spoken.StopAtOnce here = absurd (no_other_words plan m said spoken.StopAtOnce before says here tt)
  by_words spoken.StopRevoked here = absurd (no_other_words plan m said spoken.StopRevoked before says here tt)
  by_words (spoken.IdentifierRevoked id) here = absurd (no_other_words plan m said (spoken.IdentifierRevoked id) before says here tt)
  by_words (spoken.Restriction line from to speed) here = absurd (no_other_words plan m said (spoken.Restriction line from to speed) before says here tt)
  by_words spoken.RestrictionRevoked here = absurd (no_other_words plan m said spoken.RestrictionRevoked before says here tt)
