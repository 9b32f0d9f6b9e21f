-- What a message that says what it has to must contain.
use Rattle.std.proofs.Common.{◌≡◌, ℕ, ℤ, zero, suc, pos, ◌+◌, ◌*◌, ◌^◌, ◌<◌, ◌≤◌, Bool, true, false, eqb, eq-eqb, List, [], ◌∷◌, length, Some, None, refl, sym, ap, ◌∙◌, subst, arith}
use Rattle.std.proofs.lemmas.Option.{same_Some}
use Rattle.ertms_codec.specs.declared.to_train.Head.{Head}
use Rattle.ertms_codec.specs.declared.packets.Part.{Part as Packet}
use Rattle.ertms_codec.specs.declared.packets.Part.TheVariants as packet
use Rattle.ertms_codec.specs.declared.to_train.ToTrain.TheVariants as message
use Rattle.rbc_track.specs.Plan.{Plan, group_of}
use Rattle.rbc_track.specs.declared.group.Group.{Group}
use Rattle.rbc_track.specs.declared.group.Way.{Way}
use Rattle.rbc_track.specs.declared.group.Way.TheVariants.{Up, Down}
use Rattle.rbc_place.specs.Placing.{Place, IsSound}
use Rattle.rbc_place.specs.Reach.{IsAhead}
use Rattle.rbc_maps.specs.Maps.{value_of}
use Rattle.rbc_maps.specs.Numbered.{none_numbered}
use Rattle.rbc_zones.specs.declared.segment.Segment.{Segment}
use Rattle.rbc_zones.specs.declared.stop_meaning.Concern.{Concern}
use Rattle.rbc_zones.specs.declared.stop_meaning.Concern.TheVariants as concern
use Rattle.rbc_zones.specs.Concerns.{concern_of, distance_to, IsToldFor}
use Rattle.rbc_zones.specs.Limits.{Limit, concerns, told_part, IsOf, IsNearOne, HasNoRoom, IsToldPart, begins_at, ends_at}
use Rattle.rbc_zones.proofs.ToldLimits.{each_limit_is_told_rightly}
use Rattle.rbc_settle.specs.declared.train.TrainRec.{TrainRec}
use Rattle.rbc_settle.specs.declared.change.StopChange.TheVariants as stop_change
use Rattle.rbc_settle.specs.declared.change.LimitChange.{LimitChange}
use Rattle.rbc_settle.specs.declared.change.LimitChange.TheVariants as limit_change
use Rattle.rbc_settle.specs.Actions.{ChangesStop, ChangesLimits}
use Rattle.rbc_settle.specs.declared.change.ToldStop.{ToldStop}
use Rattle.rbc_settle.specs.Told.{Part}
use Rattle.rbc_settle.specs.Settling.{Stops, Limits, concern_to}
use Rattle.rbc_rule.specs.Saying.{Spot, Stretch, Said, StopsAtOnce, StopsBefore, Restricts, RevokesStop, RevokesLimit, both_ways, way_told, unit_told, IsSpotTold, PacketSays, PacketsSay, Says}
use Rattle.rbc_rule.specs.SaidFor.{IsStretchFor, IsEdgeSaid, IsConcernSaid, IsStopSaid, IsLimitSaid, IsChangeSaid, AreChangesSaid, IsSpotFor, IsSendable, SaysFor}
use Rattle.rbc_rule_laws.specs.Witnesses.{track_a, facing_up, on_line_0, train_7, stop_1, limit_80, restriction_1, head_at, stop_before, stop_now, restrict_to, restrict_as, revoke, lift, spot_at}
use Rattle.rbc_rule_laws.proofs.Packets.{restrict_packed}
use Rattle.rbc_rule_laws.proofs.Sendable as sendable

-- a distance that a message 15 tells right: the place that it counts to is the one for the edge
pub record CountsRight (p : Place) (edge origin : ℕ) (way : Way) (unit distance : ℕ) : Type 0 where
  pub place : ℕ
  pub counted : IsAhead way origin (distance * unit) place
  pub scale : ℕ
  pub units : ℕ
  pub told : IsToldFor (distance_to p.facing p.at edge) scale units
  pub unit_is : unit ≡ 10 ^ scale
  pub ahead : IsAhead p.facing p.at (units * unit) place
  pub not_beyond : units * unit ≤ distance_to p.facing p.at edge
  pub near : distance_to p.facing p.at edge < units * unit + unit
  pub faces : way ≡ p.facing

-- A part that packet 65 tells right: it covers the restriction, is less than a unit longer at each end, and its unit is the finest that has
-- room.
pub record IsPartSaid (limit : Limit) (p : Place) (way : Way) (unit start length speed : ℕ) (front : Bool) : Type 0 where
  pub way_is : p.facing ≡ way
  pub scale : ℕ
  pub not_spare : scale ≤ 2
  pub unit_is : unit ≡ 10 ^ scale
  pub covers : (distance : ℕ) → IsOf limit p distance → (start * unit ≤ distance) × (distance ≤ (start + length) * unit)
  pub no_longer : (distance : ℕ) → start * unit ≤ distance → distance ≤ (start + length) * unit → IsNearOne limit p unit distance
  pub finest : (finer : ℕ) → finer < scale → HasNoRoom finer (begins_at p.facing limit.segment p.at) (ends_at p.facing limit.segment p.at)
  pub speed_is : limit.speed ≡ 5 * speed
  pub front_is : limit.front ≡ front

module _ (plan : Plan) (stops : Stops) (limits : Limits) (train : TrainRec) (p : Place) (placed : train.place ≡ Some p) (head : Head)
    (group : Group) (known : group_of plan head.lrbg ≡ Some group) (way : Way) (dir : ℕ) (one_way : way_told group.nominal dir ≡ Some way) (unit scale : ℕ) (in_units : unit_told scale ≡ Some unit) where
  pub counts_right : (id other number distance edge : ℕ) (reference : ℤ) (told : ToldStop) (area : List Segment) → value_of stops.active number ≡ Some area → concern_to train (number, area) ≡ concern.Before edge
      → SaysFor plan stops limits train (ChangesStop (stop_change.Tell id number told)) (message.StopAt head other scale reference dir distance) → CountsRight p edge group.at way unit distance
  counts_right id other number distance edge reference told area active before says =
      let spot = says.says.1.0 in
      let counted = says.says.1.1.0 in
      let counts = counted.counts in
      let is_for = says.is_for.is in
      let same_area : is_for.area ≡ area = same_Some is_for.area area (sym is_for.active ∙ active) in
      let same_concern : concern_to train (number, is_for.area) ≡ concern.Before edge = ap (λ (a : List Segment). concern_to train (number, a)) same_area ∙ before in
      let edge_said : IsEdgeSaid train edge id says.is_for.one = subst (λ (c : Concern). IsConcernSaid train c id says.is_for.one) same_concern is_for.concern in
      let same_place : edge_said.p ≡ p = same_Some edge_said.p p (sym edge_said.placed ∙ placed) in
      let same_said : StopsBefore other spot ∷ [] ≡ StopsBefore id edge_said.spot ∷ [] = sym says.says.1.1.1 ∙ says.is_for.alone ∙ ap (λ (one : Said). one ∷ []) edge_said.is_said in
      let same_spot : spot ≡ edge_said.spot = cc in
      let its_spot : IsSpotFor p edge edge_said.spot = subst (λ (q : Place). IsSpotFor q edge edge_said.spot) same_place edge_said.is_for in
      let right : IsSpotFor p edge spot = subst (λ (s : Spot). IsSpotFor p edge s) (sym same_spot) its_spot in
      let same_group : counts.group ≡ group = same_Some counts.group group (sym counts.known ∙ known) in
      let origin_is : spot.origin ≡ group.at = counts.from_group ∙ ap (λ (g : Group). g.at) same_group in
      let way_is : spot.way ≡ way = same_Some spot.way way (sym counts.one_way ∙ ap (λ (g : Group). way_told g.nominal dir) same_group ∙ one_way) in
      let unit_is : spot.unit ≡ unit = same_Some spot.unit unit (sym counts.in_units ∙ in_units) in
      let unit_for : 10 ^ right.scale ≡ unit = sym right.in_units ∙ unit_is in
      let its_way : IsAhead way spot.origin (distance * spot.unit) spot.place =
      subst (λ (w : Way). IsAhead w spot.origin (distance * spot.unit) spot.place) way_is counted.ahead in
      let its_origin : IsAhead way group.at (distance * spot.unit) spot.place =
      subst (λ (o : ℕ). IsAhead way o (distance * spot.unit) spot.place) origin_is its_way in
      let far = distance_to p.facing p.at edge in
      record {
        place = spot.place;
        counted = subst (λ (u : ℕ). IsAhead way group.at (distance * u) spot.place) unit_is its_origin;
        scale = right.scale;
        units = right.units;
        told = right.told;
        unit_is = sym unit_for;
        ahead = subst (λ (u : ℕ). IsAhead p.facing p.at (right.units * u) spot.place) unit_for right.ahead;
        not_beyond = subst (λ (u : ℕ). right.units * u ≤ far) unit_for right.told.not_beyond;
        near = subst (λ (u : ℕ). far < right.units * u + u) unit_for right.told.near;
        faces = sym way_is ∙ right.faces;
      }

  pub part_said : (id other number start length speed : ℕ) (front : Bool) (limit : Limit) → value_of limits.active number ≡ Some limit
      → (one : Said) → PacketSays plan head.lrbg (packet.Restrict dir scale other start length front speed) one → IsLimitSaid limits train id number one → IsPartSaid limit p way unit start length speed front
  part_said id other number start length speed front limit active one says is_for =
      let stretch = says.0 in
      let of = says.1.0 in
      let counts = of.counts in
      let same_limit : is_for.limit ≡ limit = same_Some is_for.limit limit (sym is_for.active ∙ active) in
      let same_place : is_for.p ≡ p = same_Some is_for.p p (sym is_for.placed ∙ placed) in
      let same_said : Restricts other stretch front (5 * speed) ≡ Restricts id is_for.stretch is_for.limit.front is_for.limit.speed = sym says.1.1 ∙ is_for.is_said in
      let its_stretch : stretch ≡ is_for.stretch = cc in
      let its_speed : 5 * speed ≡ is_for.limit.speed = cc in
      let its_front : front ≡ is_for.limit.front = cc in
      let of_place : IsStretchFor is_for.limit p is_for.stretch = subst (λ (q : Place). IsStretchFor is_for.limit q is_for.stretch) same_place is_for.is_for in
      let of_limit : IsStretchFor limit p is_for.stretch = subst (λ (l : Limit). IsStretchFor l p is_for.stretch) same_limit of_place in
      let right : IsStretchFor limit p stretch = subst (λ (s : Stretch). IsStretchFor limit p s) (sym its_stretch) of_limit in
      let same_group : counts.group ≡ group = same_Some counts.group group (sym counts.known ∙ known) in
      let way_is : stretch.way ≡ way = same_Some stretch.way way (sym counts.one_way ∙ ap (λ (g : Group). way_told g.nominal dir) same_group ∙ one_way) in
      let unit_is : stretch.unit ≡ unit = same_Some stretch.unit unit (sym counts.in_units ∙ in_units) in
      let unit_for : 10 ^ right.scale ≡ unit = sym right.in_units ∙ unit_is in
      let begins : right.start * 10 ^ right.scale ≡ start * unit = sym right.begins ∙ of.begins ∙ ap (λ (u : ℕ). start * u) unit_is in
      let ends : (right.start + right.length) * 10 ^ right.scale ≡ (start + length) * unit = sym right.ends ∙ of.ends ∙ ap (λ (u : ℕ). (start + length) * u) unit_is in
      record {
        way_is = sym right.faces ∙ way_is;
        scale = right.scale;
        not_spare = right.told.not_spare;
        unit_is = sym unit_for;
        covers = λ distance of_limit.
            let told = right.told.covers distance of_limit in
            (subst (λ (n : ℕ). n ≤ distance) begins told.begun, subst (λ (n : ℕ). distance ≤ n) ends told.not_ended);
        no_longer = λ distance begun not_ended.
            subst (λ (u : ℕ). IsNearOne limit p u distance) unit_for
            (right.told.no_longer distance (record { begun = subst (λ (n : ℕ). n ≤ distance) (sym begins) begun; not_ended = subst (λ (n : ℕ). distance ≤ n) (sym ends) not_ended }));
        finest = right.told.finest;
        speed_is = sym (its_speed ∙ ap (λ (l : Limit). l.speed) same_limit);
        front_is = sym (its_front ∙ ap (λ (l : Limit). l.front) same_limit);
      }

-- a scale that is spare says nothing, nor does a direction that is no way to count
module _ (plan : Plan) (stops : Stops) (limits : Limits) (train : TrainRec) (head : Head) (id other number distance scale dir : ℕ) (reference : ℤ) (told : ToldStop)
    (says : SaysFor plan stops limits train (ChangesStop (stop_change.Tell id number told)) (message.StopAt head other scale reference dir distance)) where
  pub not_spare : unit_told scale ≡ None → ⊥
  not_spare none = let counts = says.says.1.1.0.counts in let bad : None ≡ Some says.says.1.0.unit = sym none ∙ counts.in_units in cc

  pub has_way : ((nominal : Way) → way_told nominal dir ≡ None) → ⊥
  has_way none = let counts = says.says.1.1.0.counts in let bad : None ≡ Some says.says.1.0.way = sym (none counts.group.nominal) ∙ counts.one_way in cc

-- a message with one packet that says one thing alone: the packet says it
pub packet_alone : (plan : Plan) (lrbg : ℕ) (part : Packet) (said : List Said) (one : Said) → said ≡ one ∷ [] → PacketsSay plan lrbg (part ∷ []) said → PacketSays plan lrbg part one
packet_alone plan lrbg part said one alone says = (subst (PacketsSay plan lrbg (part ∷ [])) alone says).0

-- the first packet of a message for changes to the restrictions says what the first change has to
pub record FirstSays (plan : Plan) (limits : Limits) (train : TrainRec) (lrbg : ℕ) (part : Packet) (change : LimitChange) : Type 0 where
  pub one : Said
  pub says : PacketSays plan lrbg part one
  pub is_for : IsChangeSaid limits train change one

pub first_says : (plan : Plan) (limits : Limits) (train : TrainRec) (lrbg : ℕ) (part : Packet) (packets : List Packet) (change : LimitChange) (changes : List LimitChange) (said : List Said)
    → PacketsSay plan lrbg (part ∷ packets) said → AreChangesSaid limits train (change ∷ changes) said → FirstSays plan limits train lrbg part change
first_says plan limits train lrbg part packets change changes [] says is_for = absurd says
first_says plan limits train lrbg part packets change changes (one ∷ said) says is_for = record { one = one; says = says.0; is_for = is_for.0 }

-- a message has as many packets as there are changes
pub as_many : (plan : Plan) (limits : Limits) (train : TrainRec) (lrbg : ℕ) (packets : List Packet) (changes : List LimitChange) (said : List Said)
    → PacketsSay plan lrbg packets said → AreChangesSaid limits train changes said → length packets ≡ length changes
as_many plan limits train lrbg [] [] said says is_for = refl
as_many plan limits train lrbg [] (change ∷ changes) [] says is_for = absurd is_for
as_many plan limits train lrbg [] (change ∷ changes) (one ∷ said) says is_for = absurd says
as_many plan limits train lrbg (part ∷ packets) changes [] says is_for = absurd says
as_many plan limits train lrbg (part ∷ packets) [] (one ∷ said) says is_for = absurd is_for
as_many plan limits train lrbg (part ∷ packets) (change ∷ changes) (one ∷ said) says is_for =
    let rest = as_many plan limits train lrbg packets changes said says.1 is_for.1 in omega (arith, rest)

-- what a packet tells under an identifier, or revokes, is that of the action
pub packet_lifts : (plan : Plan) (lrbg dir id other : ℕ) (one : Said) → PacketSays plan lrbg (packet.Lift dir other) one → one ≡ RevokesLimit id → other ≡ id
packet_lifts plan lrbg dir id other one says is = let same : RevokesLimit other ≡ RevokesLimit id = sym says.1 ∙ is in cc

pub packet_restricts : (plan : Plan) (limits : Limits) (train : TrainRec) (lrbg id other number dir scale start length speed : ℕ) (front : Bool) (one : Said)
    → PacketSays plan lrbg (packet.Restrict dir scale other start length front speed) one → IsLimitSaid limits train id number one → other ≡ id
packet_restricts plan limits train lrbg id other number dir scale start length speed front one says is =
    let same : Restricts other says.0 front (5 * speed) ≡ Restricts id is.stretch is.limit.front is.limit.speed = sym says.1.1 ∙ is.is_said in
    cc

-- and so is what a message does
module _ (plan : Plan) (stops : Stops) (limits : Limits) (train : TrainRec) (head : Head) (id other : ℕ) where
  pub revokes_right : SaysFor plan stops limits train (ChangesStop (stop_change.Revoke id None)) (message.Revoke head other) → other ≡ id
  revokes_right says = let same : RevokesStop other ∷ [] ≡ RevokesStop id ∷ [] = sym says.says ∙ says.is_for in cc

  pub lifts_right : (dir : ℕ) → SaysFor plan stops limits train (ChangesLimits (limit_change.Revoke id ∷ [])) (message.General head (packet.Lift dir other ∷ [])) → other ≡ id
  lifts_right dir says =
      let first = first_says plan limits train head.lrbg (packet.Lift dir other) [] (limit_change.Revoke id) [] says.said says.says says.is_for in
      packet_lifts plan head.lrbg dir id other first.one first.says first.is_for

  pub lifts_both_ways : (dir : ℕ) → SaysFor plan stops limits train (ChangesLimits (limit_change.Revoke id ∷ [])) (message.General head (packet.Lift dir other ∷ [])) → dir ≡ both_ways
  lifts_both_ways dir says = (first_says plan limits train head.lrbg (packet.Lift dir other) [] (limit_change.Revoke id) [] says.said says.says says.is_for).says.0

  pub no_limit_revoked : (dir : ℕ) → SaysFor plan stops limits train (ChangesStop (stop_change.Revoke id None)) (message.General head (packet.Lift dir other ∷ [])) → ⊥
  no_limit_revoked dir says =
      let one = packet_alone plan head.lrbg (packet.Lift dir other) says.said (RevokesStop id) says.is_for says.says in
      let same : RevokesStop id ≡ RevokesLimit other = one.1 in
      absurd (cc same)

  pub no_stop_revoked : SaysFor plan stops limits train (ChangesLimits (limit_change.Revoke id ∷ [])) (message.Revoke head other) → ⊥
  no_stop_revoked says =
      let stop : AreChangesSaid limits train (limit_change.Revoke id ∷ []) (RevokesStop other ∷ []) = subst (AreChangesSaid limits train (limit_change.Revoke id ∷ [])) says.says says.is_for in
      let same : RevokesStop other ≡ RevokesLimit id = stop.0 in
      absurd (cc same)

  pub under_limit_id : (number dir scale start length speed : ℕ) (front : Bool) (told : Part)
      → SaysFor plan stops limits train (ChangesLimits (limit_change.Tell id number told ∷ [])) (message.General head (packet.Restrict dir scale other start length front speed ∷ [])) → other ≡ id
  under_limit_id number dir scale start length speed front told says =
      let first = first_says plan limits train head.lrbg (packet.Restrict dir scale other start length front speed) [] (limit_change.Tell id number told) [] says.said says.says says.is_for in
      packet_restricts plan limits train head.lrbg id other number dir scale start length speed front first.one first.says first.is_for

  module _ (number : ℕ) (told : ToldStop) (area : List Segment) (active : value_of stops.active number ≡ Some area) where
    -- the concern is that of the stop which is active
    of_active : (c : Concern) → concern_to train (number, area) ≡ c → (said : Said) → IsStopSaid stops train id number said → IsConcernSaid train c id said
    of_active c is said is_for =
        let same_area : is_for.area ≡ area = same_Some is_for.area area (sym is_for.active ∙ active) in
        subst (λ (one : Concern). IsConcernSaid train one id said) (ap (λ (a : List Segment). concern_to train (number, a)) same_area ∙ is) is_for.concern

    -- a stop at once is told where the concern is that
    at_once_of : (says : SaysFor plan stops limits train (ChangesStop (stop_change.Tell id number told)) (message.Stop head other)) → IsStopSaid stops train id number (StopsAtOnce other)
    at_once_of says =
        let is_for = says.is_for in
        let same : is_for.one ∷ [] ≡ StopsAtOnce other ∷ [] = sym is_for.alone ∙ says.says in
        let one : is_for.one ≡ StopsAtOnce other = cc in
        subst (λ (said : Said). IsStopSaid stops train id number said) one is_for.is

    pub under_stop_id : concern_to train (number, area) ≡ concern.Now → SaysFor plan stops limits train (ChangesStop (stop_change.Tell id number told)) (message.Stop head other) → other ≡ id
    under_stop_id now says = let same : StopsAtOnce other ≡ StopsAtOnce id = of_active concern.Now now (StopsAtOnce other) (at_once_of says) in cc

    pub not_at_once : (edge : ℕ) → concern_to train (number, area) ≡ concern.Before edge → SaysFor plan stops limits train (ChangesStop (stop_change.Tell id number told)) (message.Stop head other) → ⊥
    not_at_once edge before says =
        let said = of_active (concern.Before edge) before (StopsAtOnce other) (at_once_of says) in
        let same : StopsAtOnce other ≡ StopsBefore id said.spot = said.is_said in
        absurd (cc same)

    module _ (scale dir distance : ℕ) (reference : ℤ) (says : SaysFor plan stops limits train (ChangesStop (stop_change.Tell id number told)) (message.StopAt head other scale reference dir distance)) where
      before_of : (c : Concern) → concern_to train (number, area) ≡ c → IsConcernSaid train c id (StopsBefore other says.says.1.0)
      before_of c is =
          let is_for = says.is_for in
          let same : is_for.one ∷ [] ≡ StopsBefore other says.says.1.0 ∷ [] = sym is_for.alone ∙ says.says.1.1.1 in
          let one : is_for.one ≡ StopsBefore other says.says.1.0 = cc in
          subst (λ (said : Said). IsConcernSaid train c id said) one (of_active c is is_for.one is_for.is)

      pub under_edge_id : (edge : ℕ) → concern_to train (number, area) ≡ concern.Before edge → other ≡ id
      under_edge_id edge before =
          let said = before_of (concern.Before edge) before in
          let same : StopsBefore other says.says.1.0 ≡ StopsBefore id said.spot = said.is_said in
          cc

      pub not_before : concern_to train (number, area) ≡ concern.Now → ⊥
      not_before now =
          let same : StopsBefore other says.says.1.0 ≡ StopsAtOnce id = before_of concern.Now now in
          absurd (cc same)

-- D_REF is 0
pub no_reference : (plan : Plan) (stops : Stops) (limits : Limits) (train : TrainRec) (head : Head) (id other number scale dir distance : ℕ) (reference : ℤ) (told : ToldStop)
    → SaysFor plan stops limits train (ChangesStop (stop_change.Tell id number told)) (message.StopAt head other scale reference dir distance) → reference ≡ pos 0
no_reference plan stops limits train head id other number scale dir distance reference told says = says.says.0

-- two numbers that a test tells apart are not one
pub differ : (a b : ℕ) → eqb a b ≡ false → a ≡ b → ⊥
differ a b apart is = let yes : eqb a b ≡ true = eq-eqb a b is in cc

-- a unit of 1 m is not that of scale 0
pub not_ones : (scale : ℕ) → 10 ≡ 10 ^ scale → 0 < scale
not_ones zero is = absurd (omega arith)
not_ones (suc n) is = omega arith

-- the unit of 10 m is that of scale 2 alone
pub tens : (scale : ℕ) → scale ≤ 2 → 100 ≡ 10 ^ scale → 1 < scale
tens zero most is = absurd (omega arith)
tens (suc zero) most is = absurd (omega arith)
tens (suc (suc n)) most is = omega arith

-- ---- the worked cases

-- balise group 5, and the head of the messages that count from it
abbrev pub group_5 : Group
group_5 = record { line = 0; at = 10000; nominal = Up }

-- the worked messages can be sent
abbrev pub at_5 : ℕ → TrainRec
at_5 stamp = train_7 (Some facing_up) stamp []

pub stop_before_sendable : (dir scale distance : ℕ) → dir ≤ 2 → scale ≤ 2 → distance ≤ 32767 → IsSendable (stop_before dir scale distance)
stop_before_sendable dir scale distance d s x =
    sendable.stop_before (at_5 1000) (omega arith) (omega arith) 0 1 (record { dir = dir; scale = scale; distance = distance }) (omega arith) (record { dir = d; scale = s; distance = x })

pub stop_now_sendable : (stamp id : ℕ) → stamp < 1000 → id < 15 → IsSendable (stop_now (stamp + 1) id)
stop_now_sendable stamp id few below = sendable.stop_at_once (train_7 None stamp []) (omega (arith, few)) (omega arith) id 1 below

pub revoke_sendable : (id : ℕ) → id < 15 → IsSendable (revoke id)
revoke_sendable id below = sendable.revoke_stop (at_5 1001) (omega arith) (omega arith) id None below

pub lift_sendable : (id : ℕ) → id < 255 → IsSendable (lift both_ways id)
lift_sendable id below = sendable.general (at_5 1001) (omega arith) (omega arith) (packet.Lift both_ways id ∷ []) (omega arith) (omega arith) (sendable.revocation_packed id below, tt)

pub restrict_sendable : (dir scale start length speed : ℕ) → dir ≤ 2 → scale ≤ 2 → start ≤ 32767 → length ≤ 32767 → speed ≤ 120 → IsSendable (restrict_to dir scale start length speed)
restrict_sendable dir scale start length speed d s x y v =
    sendable.general (at_5 1000) (omega arith) (omega arith) (packet.Restrict dir scale 0 start length false speed ∷ []) (omega arith) (omega arith)
    (restrict_packed dir scale 0 start length speed false d s (omega arith) x y v, tt)

module _ (p : Place) (segment : Segment) (dir scale distance : ℕ) (told : ToldStop) where
  -- the message of stop 1 on a segment says what it has to
  abbrev pub IsRight : Type 0
  IsRight = SaysFor track_a (stop_1 segment) none_numbered (train_7 (Some p) 1000 []) (ChangesStop (stop_change.Tell 0 1 told)) (stop_before dir scale distance)

  -- a right one
  pub right_stop : (edge : ℕ) (spot : Spot) → p.lrbg ≡ 5 → IsSendable (stop_before dir scale distance) → concern_of (segment ∷ []) false (Some p) ≡ concern.Before edge
      → IsSpotTold track_a 5 dir scale distance spot → IsSpotFor p edge spot → IsRight
  right_stop edge spot at_5 can_be_sent before counted right = record {
    said = StopsBefore 0 spot ∷ [];
    says = (refl, (spot, (counted, refl)));
    is_for = record {
      one = StopsBefore 0 spot;
      is = record {
        area = segment ∷ [];
        active = refl;
        concern = subst (λ (c : Concern). IsConcernSaid (train_7 (Some p) 1000 []) c 0 (StopsBefore 0 spot)) (sym before)
            (record { p = p; placed = refl; spot = spot; is_for = right; is_said = refl });
      };
      alone = refl;
    };
    next_stamp = refl;
    known_time = omega arith;
    by_its_kind = refl;
    by_its_group = sym at_5;
    sendable = can_be_sent;
  }

  -- and what follows of any
  pub stop_seen : (edge : ℕ) (way : Way) (unit : ℕ) → way_told Up dir ≡ Some way → unit_told scale ≡ Some unit → concern_of (segment ∷ []) false (Some p) ≡ concern.Before edge → IsRight
      → CountsRight p edge 10000 way unit distance
  stop_seen edge way unit one_way in_units before says =
      counts_right track_a (stop_1 segment) none_numbered (train_7 (Some p) 1000 []) p refl (head_at 1001 false) group_5 refl way dir one_way unit scale in_units
      0 0 1 distance edge (pos 0) told (segment ∷ []) refl before says

-- the same of restriction 1 to 80 km/h
pub limit_seen : (p : Place) (segment : Segment) (dir scale start length speed : ℕ) (told : Part) (way : Way) (unit : ℕ) → way_told Up dir ≡ Some way → unit_told scale ≡ Some unit
    → SaysFor track_a none_numbered (restriction_1 segment) (train_7 (Some p) 1000 []) (ChangesLimits (limit_change.Tell 0 1 told ∷ [])) (restrict_to dir scale start length speed)
    → IsPartSaid (limit_80 segment) p way unit start length speed false
limit_seen p segment dir scale start length speed told way unit one_way in_units says =
    let first = first_says track_a (restriction_1 segment) (train_7 (Some p) 1000 []) 5 (packet.Restrict dir scale 0 start length false speed) [] (limit_change.Tell 0 1 told) [] says.said says.says says.is_for in
    part_said track_a none_numbered (restriction_1 segment) (train_7 (Some p) 1000 []) p refl (head_at 1001 true) group_5 refl way dir one_way unit scale in_units
    0 0 1 start length speed false (limit_80 segment) refl first.one first.says first.is_for

-- a spot ahead of balise group 5
abbrev pub from_5 : Way → ℕ → ℕ → Spot
from_5 way place unit = record { line = 0; origin = 10000; way = way; place = place; unit = unit }

-- a message 15 counts from there
pub counted_from_5 : (dir scale distance : ℕ) (way : Way) (place unit : ℕ) → way_told Up dir ≡ Some way → unit_told scale ≡ Some unit → IsAhead way 10000 (distance * unit) place
    → IsSpotTold track_a 5 dir scale distance (from_5 way place unit)
counted_from_5 dir scale distance way place unit one_way in_units ahead = record {
  counts = record { group = group_5; known = refl; on_line = refl; from_group = refl; one_way = one_way; in_units = in_units };
  ahead = ahead;
}

-- message 15 by 10000 units of 10 cm says to stop before 20000
pub before_20000 : Says track_a (stop_before 1 0 10000) (StopsBefore 0 (spot_at 20000) ∷ [])
before_20000 = (refl, (spot_at 20000, (counted_from_5 1 0 10000 Up 20000 1 refl refl refl, refl)))

-- a stretch ahead of balise group 5 in units of 10 cm, for a restriction to 80 km/h of a stretch of line 0
abbrev pub stretch_from_5 : ℕ → ℕ → Stretch
stretch_from_5 begin end = record { line = 0; origin = 10000; way = Up; begin = begin; end = end; unit = 1 }

pub stretch_right : (from to start length : ℕ) → IsToldPart (limit_80 (on_line_0 from to)) facing_up 0 start length → IsStretchFor (limit_80 (on_line_0 from to)) facing_up (stretch_from_5 start (start + length))
stretch_right from to start length told = record {
  scale = 0;
  start = start;
  length = length;
  told = told;
  on_line = refl;
  from_group = refl;
  faces = refl;
  in_units = refl;
  begins = omega arith;
  ends = omega arith;
}

-- such a restriction that concerns the train is told as the rules tell it
facing_up_is_sound : IsSound facing_up
facing_up_is_sound = record { group = omega arith; at = omega arith; ordered = omega arith; within = omega arith }

pub told_as_part : (from to : ℕ) → from < to → to ≤ 3000000 → concerns (limit_80 (on_line_0 from to)) facing_up 100000 ≡ true
    → IsToldPart (limit_80 (on_line_0 from to)) facing_up (told_part (limit_80 (on_line_0 from to)) facing_up).0 (told_part (limit_80 (on_line_0 from to)) facing_up).1 (told_part (limit_80 (on_line_0 from to)) facing_up).2
told_as_part from to ordered within it_does =
    each_limit_is_told_rightly (limit_80 (on_line_0 from to)) facing_up 100000 (record { ordered = ordered; within = within; speed = omega arith; in_fives = refl }) facing_up_is_sound it_does

-- a right message 24 with packet 65 for such a restriction
pub right_limit : (from to start length speed : ℕ) → IsToldPart (limit_80 (on_line_0 from to)) facing_up 0 start length → 80 ≡ 5 * speed → IsSendable (restrict_to 1 0 start length speed)
    → (told : Part) → SaysFor track_a none_numbered (restriction_1 (on_line_0 from to)) (train_7 (Some facing_up) 1000 []) (ChangesLimits (limit_change.Tell 0 1 told ∷ [])) (restrict_to 1 0 start length speed)
right_limit from to start length speed is_told speed_is can_be_sent told =
    let stretch = stretch_from_5 start (start + length) in
    record {
      said = Restricts 0 stretch false 80 ∷ [];
      says = (
        (
          stretch,
          (
            record {
              counts = record { group = group_5; known = refl; on_line = refl; from_group = refl; one_way = refl; in_units = refl };
              begins = omega arith;
              ends = omega arith;
            },
            ap (λ (v : ℕ). Restricts 0 stretch false v) speed_is,
          ),
        ),
        tt,
      );
      is_for = (
        record { limit = limit_80 (on_line_0 from to); active = refl; p = facing_up; placed = refl; stretch = stretch; is_for = stretch_right from to start length is_told; is_said = refl },
        tt,
      );
      next_stamp = refl;
      known_time = omega arith;
      by_its_kind = refl;
      by_its_group = refl;
      sendable = can_be_sent;
    }

-- what follows of any message for the restriction of 11050 to 12050 by Q_FRONT
pub front_seen : (front : Bool) (told : Part) → SaysFor track_a none_numbered (restriction_1 (on_line_0 11050 12050)) (train_7 (Some facing_up) 1000 []) (ChangesLimits (limit_change.Tell 0 1 told ∷ [])) (restrict_as 0 front) → false ≡ front
front_seen front told says =
    let first = first_says track_a (restriction_1 (on_line_0 11050 12050)) (train_7 (Some facing_up) 1000 []) 5 (packet.Restrict 1 0 0 1050 1000 front 16) [] (limit_change.Tell 0 1 told) [] says.said says.says says.is_for in
    let seen = part_said track_a none_numbered (restriction_1 (on_line_0 11050 12050)) (train_7 (Some facing_up) 1000 []) facing_up refl (head_at 1001 true) group_5 refl Up 1 refl 1 0 refl
    0 0 1 1050 1000 16 front (limit_80 (on_line_0 11050 12050)) refl first.one first.says first.is_for in
    seen.front_is

-- 50000 as it lies ahead of balise group 6, going down
abbrev pub from_6 : Spot
from_6 = record { line = 0; origin = 200000; way = Down; place = 50000; unit = 10 }
