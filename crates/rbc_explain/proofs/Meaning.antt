-- What is put in words of a message is what the message says.
use Rattle.std.proofs.Common.{◌≡◌, ℕ, ◌+◌, ◌*◌, Bool, false, List, [], ◌∷◌, refl, sym, ap, ◌∙◌, subst, Option, Some, None, IfSome, ℤ, pos}
use Rattle.std.specs.Option.{unwrap_or}
use Rattle.ertms_codec.specs.declared.packets.Part.{Part}
use Rattle.ertms_codec.specs.declared.packets.Part.TheVariants as packet
use Rattle.ertms_codec.specs.declared.to_train.Head.{Head}
use Rattle.ertms_codec.specs.declared.to_train.ToTrain.{ToTrain}
use Rattle.ertms_codec.specs.declared.to_train.ToTrain.TheVariants as message
use Rattle.rbc_track.specs.Plan.{Plan, group_of}
use Rattle.rbc_track.specs.declared.group.Group.{Group}
use Rattle.rbc_track.specs.declared.group.Way.{Way}
use Rattle.rbc_track.specs.declared.group.Way.TheVariants.{Up, Down}
use Rattle.rbc_place.specs.Reach.{IsAhead}
use Rattle.rbc_rule.specs.Saying as rule
use Rattle.rbc_rule.specs.Saying.{CountsFrom}
use Rattle.rbc_explain.specs.declared.said.Origin.{Origin}
use Rattle.rbc_explain.specs.declared.said.Spot.{Spot}
use Rattle.rbc_explain.specs.declared.said.Spoken.{Spoken}
use Rattle.rbc_explain.specs.declared.said.Spoken.TheVariants as spoken
use Rattle.rbc_explain.specs.Said.{IsOnStop, IsOriginOf, IsSpotAhead, IsRevokedAs, IsSpokenBy, IsSpokenByPacket, IsStopBefore, IsRestriction}

-- a place that is no place before the beginning of the line lies ahead
lies_ahead : (way : Way) (from by units : ℕ) → IsSpotAhead way from by false units → IsAhead way from by units
lies_ahead Up from by units ahead = ahead
lies_ahead Down from by units ahead = ahead

-- to stop before the place that lies so far ahead
pub stop_told : (plan : Plan) (lrbg dir scale distance counted : ℕ) (origin : Origin) (spot : Spot) → IsOriginOf plan lrbg dir scale origin → counted ≡ distance
    → IsSpotAhead origin.way origin.at (counted * origin.unit) spot.is_before spot.units → spot.is_before ≡ false
    → IsStopBefore plan lrbg dir scale distance (spoken.StopBefore origin.line spot.units)
stop_told plan lrbg dir scale distance counted origin spot counts same ahead not_before =
    let on_line = subst (λ (b : Bool). IsSpotAhead origin.way origin.at (counted * origin.unit) b spot.units) not_before ahead in
    let told = subst (λ (n : ℕ). IsSpotAhead origin.way origin.at (n * origin.unit) false spot.units) same on_line in (
      record { line = origin.line; origin = origin.at; way = origin.way; place = spot.units; unit = origin.unit },
      record { counts = counts; ahead = lies_ahead origin.way origin.at (distance * origin.unit) spot.units told },
      λ id. (refl, refl),
    )

-- to keep to a speed on the stretch between two places that lie so far ahead
pub restriction_told : (plan : Plan) (lrbg dir scale start length speed begins ends told : ℕ) (origin : Origin) (from to : Spot) → IsOriginOf plan lrbg dir scale origin
    → begins ≡ start → ends ≡ start + length → told ≡ 5 * speed
    → IsSpotAhead origin.way origin.at (begins * origin.unit) from.is_before from.units → IsSpotAhead origin.way origin.at (ends * origin.unit) to.is_before to.units
    → IsRestriction plan lrbg dir scale start length (5 * speed) (spoken.Restriction origin.line from to told)
restriction_told plan lrbg dir scale start length speed begins ends told origin from to counts same_begin same_end same_speed first last = (
  record { line = origin.line; origin = origin.at; way = origin.way; begin = start * origin.unit; end = (start + length) * origin.unit; unit = origin.unit },
  record { counts = counts; begins = refl; ends = refl },
  λ id front. (
    refl,
    same_speed,
    subst (λ (n : ℕ). IsSpotAhead origin.way origin.at (n * origin.unit) from.is_before from.units) same_begin first,
    subst (λ (n : ℕ). IsSpotAhead origin.way origin.at (n * origin.unit) to.is_before to.units) same_end last,
  ),
)

-- a message 15 says it
pub by_stop_before : (plan : Plan) (head : Head) (id scale : ℕ) (reference : ℤ) (dir distance : ℕ) (whole : ToTrain) (found : Option Spoken)
    → whole ≡ message.StopAt head id scale reference dir distance → reference ≡ pos 0 → IfSome found (IsStopBefore plan head.lrbg dir scale distance) → IfSome found (IsSpokenBy plan whole)
by_stop_before plan head id scale reference dir distance whole None is zero told = tt
by_stop_before plan head id scale reference dir distance whole (Some words) is zero told =
    subst (λ (m : ToTrain). IsSpokenBy plan m words) (sym is) (rule.StopsBefore id told.0, (zero, (told.0, (told.1, refl))), told.2 id)

-- to stop before a place is said of no stop that is revoked
pub not_revoked : (plan : Plan) (lrbg dir scale distance : ℕ) (unanswered : Bool) (found : Option Spoken) → IfSome found (IsStopBefore plan lrbg dir scale distance)
    → IfSome found (IsRevokedAs unanswered)
not_revoked plan lrbg dir scale distance unanswered None told = tt
not_revoked plan lrbg dir scale distance unanswered (Some spoken.StopAtOnce) told = tt
not_revoked plan lrbg dir scale distance unanswered (Some (spoken.StopBefore line place)) told = tt
not_revoked plan lrbg dir scale distance unanswered (Some spoken.StopRevoked) told = absurd (told.2 0)
not_revoked plan lrbg dir scale distance unanswered (Some (spoken.IdentifierRevoked id)) told = absurd (told.2 0)
not_revoked plan lrbg dir scale distance unanswered (Some (spoken.Restriction line from to speed)) told = tt
not_revoked plan lrbg dir scale distance unanswered (Some spoken.RestrictionRevoked) told = tt

-- a message 16 says it
pub by_stop : (plan : Plan) (head : Head) (id : ℕ) (whole : ToTrain) → whole ≡ message.Stop head id → IsSpokenBy plan whole spoken.StopAtOnce
by_stop plan head id whole is = subst (λ (m : ToTrain). IsSpokenBy plan m spoken.StopAtOnce) (sym is) (rule.StopsAtOnce id, refl, tt)

-- a message 18 says it
pub by_revocation : (plan : Plan) (head : Head) (id : ℕ) (whole : ToTrain) → whole ≡ message.Revoke head id → IsSpokenBy plan whole spoken.StopRevoked
by_revocation plan head id whole is = subst (λ (m : ToTrain). IsSpokenBy plan m spoken.StopRevoked) (sym is) (rule.RevokesStop id, refl, tt)

pub by_escalation : (plan : Plan) (head : Head) (id : ℕ) (whole : ToTrain) → whole ≡ message.Revoke head id → IsSpokenBy plan whole (spoken.IdentifierRevoked id)
by_escalation plan head id whole is = subst (λ (m : ToTrain). IsSpokenBy plan m (spoken.IdentifierRevoked id)) (sym is) (rule.RevokesStop id, refl, refl)

-- a packet 65 says it
pub by_restriction : (plan : Plan) (lrbg dir scale id start length : ℕ) (front : Bool) (speed : ℕ) (whole : Part) (found : Option Spoken)
    → whole ≡ packet.Restrict dir scale id start length front speed → IfSome found (IsRestriction plan lrbg dir scale start length (5 * speed))
    → IfSome found (IsSpokenByPacket plan lrbg whole)
by_restriction plan lrbg dir scale id start length front speed whole None is told = tt
by_restriction plan lrbg dir scale id start length front speed whole (Some words) is told =
    subst (λ (p : Part). IsSpokenByPacket plan lrbg p words) (sym is) (rule.Restricts id told.0 front (5 * speed), (told.0, (told.1, refl)), told.2 id front)

-- a packet 66 says it
pub by_lift : (plan : Plan) (lrbg dir id : ℕ) (whole : Part) → whole ≡ packet.Lift dir id → dir ≡ 2 → IsSpokenByPacket plan lrbg whole spoken.RestrictionRevoked
by_lift plan lrbg dir id whole is both = subst (λ (p : Part). IsSpokenByPacket plan lrbg p spoken.RestrictionRevoked) (sym is) (rule.RevokesLimit id, (both, refl), tt)

-- ---- what says something is put in words

-- no balise group, no direction or no unit: distances count from nothing
pub no_group : (plan : Plan) (lrbg dir scale : ℕ) (found : Option Group) → found ≡ group_of plan lrbg → found ≡ None → (line at : ℕ) (way : Way) (unit : ℕ)
    → CountsFrom plan lrbg dir scale line at way unit → ⊥
no_group plan lrbg dir scale found is none line at way unit counts = let bad : None ≡ Some counts.group = sym none ∙ is ∙ counts.known in cc

same_group : (plan : Plan) (lrbg : ℕ) (one other : Group) → group_of plan lrbg ≡ Some one → group_of plan lrbg ≡ Some other → one ≡ other
same_group plan lrbg one other first second = ap (λ (g : Option Group). unwrap_or g one) (sym first ∙ second)

pub no_way : (plan : Plan) (lrbg dir scale : ℕ) (group : Group) (found : Option Way) → Some group ≡ group_of plan lrbg → found ≡ rule.way_told group.nominal dir → found ≡ None
    → (line at : ℕ) (way : Way) (unit : ℕ) → CountsFrom plan lrbg dir scale line at way unit → ⊥
no_way plan lrbg dir scale group found is told none line at way unit counts =
    let same = same_group plan lrbg group counts.group (sym is) counts.known in
    let bad : None ≡ Some way = sym none ∙ told ∙ ap (λ (g : Group). rule.way_told g.nominal dir) same ∙ counts.one_way in cc

-- distances count from one origin alone, one way on
same_at : (plan : Plan) (lrbg dir scale : ℕ) (line at line2 at2 : ℕ) (way way2 : Way) (unit unit2 : ℕ) → CountsFrom plan lrbg dir scale line at way unit
    → CountsFrom plan lrbg dir scale line2 at2 way2 unit2 → (at ≡ at2) × (way ≡ way2) × (unit ≡ unit2)
same_at plan lrbg dir scale line at line2 at2 way way2 unit unit2 one two =
    let same = same_group plan lrbg one.group two.group one.known two.known in (
      one.from_group ∙ ap (λ (g : Group). g.at) same ∙ sym two.from_group,
      ap (λ (w : Option Way). unwrap_or w way) (sym one.one_way ∙ ap (λ (g : Group). rule.way_told g.nominal dir) same ∙ two.one_way),
      ap (λ (u : Option ℕ). unwrap_or u unit) (sym one.in_units ∙ two.in_units),
    )

-- a message on several restrictions, or on one, says nothing of a stop
pub not_on_stop : (plan : Plan) (lrbg : ℕ) (packets : List Part) (said : rule.Said) → IsOnStop said → rule.PacketsSay plan lrbg packets (said ∷ []) → ⊥
not_on_stop plan lrbg [] said on says = says
not_on_stop plan lrbg (packet.Restrict dir scale id start length front speed ∷ packets) said on says = subst IsOnStop says.0.1.1 on
not_on_stop plan lrbg (packet.Lift dir id ∷ packets) said on says = subst IsOnStop says.0.1 on
