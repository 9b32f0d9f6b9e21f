-- What each action of settling says.
use Rattle.std.proofs.Common.{◌≡◌, ℕ, ◌+◌, ◌-◌, ◌*◌, ◌^◌, ◌<◌, ◌≤◌, Bool, true, false, cond, if◌then◌else◌, List, [], ◌∷◌, ◌++◌, length, map, take, drop, Option, Some, None, refl, sym, ap, ◌∙◌, subst, arith}
use Rattle.std.specs.List.{All, AllByRecursion, cons_option, filter, scan, zip}
use Rattle.std.specs.Option.{option_map, option_map_or}
use Rattle.std.proofs.lemmas.List.{length-map, length-take}
use Rattle.std.proofs.lemmas.List.Elements.{All-nil, All-cons, All-head, All-tail, All-append, All-take, All-drop, All-map, All-weaker, recursion_from_All}
use Rattle.std.proofs.lemmas.Option.{same_Some, cond_some}
use Rattle.ertms_codec.specs.declared.packets.Part.{Part as Packet}
use Rattle.ertms_codec.specs.declared.packets.Part.TheVariants as packet
use Rattle.ertms_codec.specs.declared.to_train.ToTrain.{ToTrain}
use Rattle.ertms_codec.specs.ToTrain.{head_of}
use Rattle.rbc_track.specs.Plan.{Plan, IsPlan, group_of}
use Rattle.rbc_track.specs.declared.group.Group.{Group}
use Rattle.rbc_track.specs.declared.group.Way.TheVariants.{Up, Down}
use Rattle.rbc_place.specs.Placing.{Place, onward}
use Rattle.rbc_place.specs.Reach.{IsAhead}
use Rattle.rbc_maps.specs.Maps.{value_of, keys}
use Rattle.rbc_ids.specs.Table.{Slots, is_told, free_identifiers}
use Rattle.rbc_zones.specs.declared.segment.Segment.{Segment}
use Rattle.rbc_zones.specs.declared.stop_meaning.Concern.{Concern}
use Rattle.rbc_zones.specs.declared.stop_meaning.Concern.TheVariants as concern
use Rattle.rbc_zones.specs.Segments.{IsSegment}
use Rattle.rbc_zones.specs.Concerns.{concern_at, concern_of, told_distance, distance_to}
use Rattle.rbc_zones.specs.Limits.{Limit, IsLimit, is_good_limit, concerns, told_part}
use Rattle.rbc_zones.proofs.StopLaw.{edge_in_range, distance_within}
use Rattle.rbc_zones.proofs.ToldLimits.{each_limit_is_told_rightly}
use Rattle.rbc_zones.proofs.ToldStops.{told_rightly}
use Rattle.rbc_settle.specs.declared.train.TrainRec.{TrainRec}
use Rattle.rbc_settle.specs.Actions.{Action, ChangesStop, ChangesLimits, groups}
use Rattle.rbc_settle.specs.declared.change.StopChange.{StopChange}
use Rattle.rbc_settle.specs.declared.change.StopChange.TheVariants as stop_change
use Rattle.rbc_settle.specs.declared.change.LimitChange.{LimitChange}
use Rattle.rbc_settle.specs.declared.change.LimitChange.TheVariants as limit_change
use Rattle.rbc_settle.specs.declared.change.ToldStop.{ToldStop}
use Rattle.rbc_settle.specs.declared.change.ToldStop.TheVariants.{AtOnce, Before}
use Rattle.rbc_settle.specs.Told.{Part}
use Rattle.rbc_settle.specs.Numbers.{has_number}
use Rattle.rbc_settle.specs.Settling.{Stops, Limits, last_stamp, unknown_group, direction_of, told_edge, told_at, told_stop, told_limit, limit_told_to, number_forced, tell_stop, tell_limit, to_revoke, is_used_by, is_limit_gone, escalated, is_stop_revoked, stops_revoked, stops_told, limits_revoked, limits_told, packet_of, carried_out, message_of, messages_of, actions, actions_with_stamp}
use Rattle.rbc_settle.specs.Settling.{group_of as group_by, revoke_stop as action_of_stop}
use Rattle.rbc_settle.specs.UpToDate.{HasTables}
use Rattle.rbc_settle.specs.WellFormed.{IsPlaceOn, HasPlaceOn}
use Rattle.rbc_settle.proofs.Groups.{groups_cons, by_groups}
use Rattle.rbc_settle.proofs.Wanted.{wanted_of}
use Rattle.rbc_settle.proofs.Escalating.{between, forced_then, wanted_next, forced_as_fold}
use Rattle.rbc_settle.proofs.Concerned.{each_value, told_as, limit_as}
use Rattle.rbc_rule.specs.WellFormed.{IsGoodStop, AreGoodStops, AreGoodLimits}
use Rattle.rbc_rule.specs.Saying.{Said, StopsAtOnce, StopsBefore, Restricts, RevokesStop, RevokesLimit, Spot, Stretch, CountsFrom, PacketSays, PacketsSay, Says}
use Rattle.rbc_rule.specs.SaidFor.{IsEdgeSaid, IsConcernSaid, IsLimitSaid, IsChangeSaid, AreChangesSaid, IsSendable, asks_for_answer, as_told, SaysFor, AllSay}
use Rattle.rbc_rule_laws.proofs.Packets.{CanBePacked}
use Rattle.rbc_rule_laws.proofs.Sendable.{revoked_below, free_stop_ids, free_limit_ids, group_within, direction_within, restriction, restriction_packed, revocation_packed, revoke_stop, stop_at_once, stop_before, general}
use Rattle.rbc_rule_laws.proofs.SaysPlaces.{faced, unit_is, lies_ahead, whole_fives, sound, good_area, good_limit}

-- ---- the list of what is told

module _ {X T A : Type 0} (slots : Slots) (what : ℕ × X → Option T) (tell : (ℕ × T) × ℕ → A) (IsId : ℕ → Type 0) (P : A → Type 0) where
  -- what holds of each telling of an entry, under such an identifier, holds of all that are told
  abbrev pub HoldsOfTelling : ℕ × X → Type 0
  HoldsOfTelling entry = (told : T) → what entry ≡ Some told → (id : ℕ) → IsId id → P (tell ((entry.0, told), id))

  one_more : (entry : ℕ × X) (wanted : List (ℕ × T)) (told : T) → what entry ≡ Some told → HoldsOfTelling entry
      → ((ids : List ℕ) → All IsId ids → All P (map tell (zip wanted ids))) → (ids : List ℕ) → All IsId ids → All P (map tell (zip ((entry.0, told) ∷ wanted) ids))
  one_more entry wanted told is holds rest [] are = All-nil P
  one_more entry wanted told is holds rest (id ∷ ids) are =
      All-cons P (tell ((entry.0, told), id)) (map tell (zip wanted ids)) (holds told is id (All-head IsId id ids are)) (rest ids (All-tail IsId id ids are))

  pub each_telling : (active : List (ℕ × X)) → AllByRecursion HoldsOfTelling active → (ids : List ℕ) → All IsId ids → All P (map tell (zip (wanted_of slots what active) ids))
  each_telling [] all ids are = All-nil P
  each_telling (entry ∷ active) all ids are =
      let rest = wanted_of slots what active in
      elim (is_told slots entry.0) as (λ b. All P (map tell (zip (cons_option (cond b None (option_map (λ told. (entry.0, told)) (what entry))) rest) ids))) [
        | true ↦ each_telling active all.1 ids are
        | false ↦ (elim (what entry) as (λ o. what entry ≡ o → All P (map tell (zip (cons_option (option_map (λ told. (entry.0, told)) o) rest) ids))) [
          | None ↦ λ is. each_telling active all.1 ids are
          | Some told ↦ λ is. one_more entry rest told is all.0 (each_telling active all.1) ids are
        ]) refl
      ]

-- ---- one message

-- the balise group of a place, as the track has it
abbrev pub group_at : Place → Group
group_at p = record { line = p.line; at = p.at; nominal = if p.same then Up else Down }

-- a message says one thing alone, of which a statement holds, and can be sent
pub record SaysOne (plan : Plan) (sent : ToTrain) (holds : Said → Type 0) : Type 0 where
  pub said : Said
  pub says : Says plan sent (said ∷ [])
  pub is : holds said
  pub sendable : IsSendable sent

-- a packet says something, of which a statement holds, and can be put into a message
pub record PacketSaysOne (plan : Plan) (lrbg : ℕ) (part : Packet) (holds : Said → Type 0) : Type 0 where
  pub said : Said
  pub says : PacketSays plan lrbg part said
  pub is : holds said
  pub packed : CanBePacked part

-- a train that has a stamp left, and stands where another does
pub record StandsAs (train later : TrainRec) : Type 0 where
  pub same : later.place ≡ train.place
  pub left : later.stamp < last_stamp

module _ (plan : Plan) (track : IsPlan plan) (train : TrainRec) (stands_on : HasPlaceOn plan train.place) where
  -- the balise group that a later message names has room in its variable
  group_later : (later : TrainRec) → later.place ≡ train.place → group_by later ≤ 16777215
  group_later later same = subst (λ (o : Option Place). option_map_or (λ q. q.lrbg) o unknown_group ≤ 16777215) (sym same) (group_within plan track train.place stands_on)

  -- it is that of the place
  found_later : (p : Place) → train.place ≡ Some p → IsPlaceOn plan p → (later : TrainRec) → later.place ≡ train.place → group_of plan (group_by later) ≡ Some (group_at p)
  found_later p placed on later same = ap (λ (o : Option Place). group_of plan (option_map_or (λ q. q.lrbg) o 16777215)) (same ∙ placed) ∙ on.group

  -- so its distances count from there, the way the train faces
  counts : (p : Place) → train.place ≡ Some p → IsPlaceOn plan p → (later : TrainRec) → later.place ≡ train.place → (scale : ℕ) → scale ≤ 2
      → CountsFrom plan (group_by later) (direction_of p) scale p.line p.at p.facing (10 ^ scale)
  counts p placed on later same scale most = record {
    group = group_at p;
    known = found_later p placed on later same;
    on_line = refl;
    from_group = refl;
    one_way = faced p.line p.lrbg p.at p.same p.facing p.lo p.hi;
    in_units = unit_is scale most;
  }

  -- a stop before an edge
  edge_said : (p : Place) → train.place ≡ Some p → IsPlaceOn plan p → (area : List Segment) (forced : Bool) (edge : ℕ) → All IsSegment area → concern_at area forced p ≡ concern.Before edge
      → (later : TrainRec) → StandsAs train later → (id number : ℕ) → id < 15
      → SaysOne plan (message_of later (ChangesStop (stop_change.Tell id number (Before (told_edge (direction_of p) (told_distance (distance_to p.facing p.at edge))))))) (IsEdgeSaid train edge id)
  edge_said p placed on area forced edge segments before later stands id number below =
      let distance = distance_to p.facing p.at edge in
      let told = told_distance distance in
      let by = told.1 * 10 ^ told.0 in
      let rightly = told_rightly distance (distance_within p.facing p.at edge (sound plan track p on).at (edge_in_range p area forced edge segments before)) in
      let spot : Spot = record { line = p.line; origin = p.at; way = p.facing; place = onward p.facing p.at by; unit = 10 ^ told.0 } in
      let ahead : IsAhead p.facing p.at by spot.place = lies_ahead p.facing p.at edge by rightly.not_beyond in
      record {
        said = StopsBefore id spot;
        says = (refl, (spot, (record { counts = counts p placed on later stands.same told.0 rightly.not_spare; ahead = ahead }, refl)));
        is = record {
          p = p;
          placed = placed;
          spot = spot;
          is_for = record { scale = told.0; units = told.1; told = rightly; on_line = refl; from_group = refl; faces = refl; in_units = refl; ahead = ahead };
          is_said = refl;
        };
        sendable =
            let most = rightly.in_field in
            stop_before later stands.left (group_later later stands.same) id number (told_edge (direction_of p) told) below
            (record { dir = direction_within p; scale = rightly.not_spare; distance = omega (arith, most) });
      }

  module _ (area : List Segment) (forced : Bool) (segments : All IsSegment area) (id number : ℕ) (below : id < 15) (later : TrainRec) (stands : StandsAs train later) where
    -- the message of a stop, by what the stop is to the train
    abbrev pub SaidBy : Concern → ToldStop → Type 0
    SaidBy c told = SaysOne plan (message_of later (ChangesStop (stop_change.Tell id number told))) (IsConcernSaid train c id)

    at_once : SaidBy concern.Now AtOnce
    at_once = record { said = StopsAtOnce id; says = refl; is = refl; sendable = stop_at_once later stands.left (group_later later stands.same) id number below }

    concern_said_at : (p : Place) → train.place ≡ Some p → IsPlaceOn plan p → (c : Concern) → concern_at area forced p ≡ c → (told : ToldStop) → told_at p c ≡ Some told → SaidBy c told
    concern_said_at p placed on concern.None is told tells = absurd (let bad : None ≡ Some told = tells in cc)
    concern_said_at p placed on concern.Now is told tells = subst (SaidBy concern.Now) (same_Some AtOnce told tells) at_once
    concern_said_at p placed on (concern.Before edge) is told tells =
        let before = Before (told_edge (direction_of p) (told_distance (distance_to p.facing p.at edge))) in
        subst (SaidBy (concern.Before edge)) (same_Some before told tells) (edge_said p placed on area forced edge segments is later stands id number below)

    concern_said : (place : Option Place) → train.place ≡ place → HasPlaceOn plan place → (told : ToldStop) → told_stop place (concern_of area forced place) ≡ Some told → SaidBy (concern_of area forced place) told
    concern_said None placed on told tells = subst (SaidBy concern.Now) (same_Some AtOnce told tells) at_once
    concern_said (Some p) placed on told tells = concern_said_at p placed on (concern_at area forced p) refl told tells

  -- the packet of a restriction
  limit_said : (limits : Limits) (limit : Limit) (number : ℕ) → value_of limits.active number ≡ Some limit → IsLimit limit → (place : Option Place) → train.place ≡ place → HasPlaceOn plan place
      → (told : Part) → limit_told_to plan.horizon place limit ≡ Some told → (id : ℕ) → id < 255 → (later : TrainRec) → later.place ≡ train.place
      → PacketSaysOne plan (group_by later) (restriction id told) (IsLimitSaid limits train id number)
  limit_said limits limit number active kept None placed on told tells id below later same = absurd (let bad : None ≡ Some told = tells in cc)
  limit_said limits limit number active kept (Some p) placed on told tells id below later same =
      let parts = cond_some (concerns limit p plan.horizon) (told_limit limit p) told tells in
      let part = told_part limit p in
      let rightly = each_limit_is_told_rightly limit p plan.horizon kept (sound plan track p on) parts.0 in
      let unit = 10 ^ part.0 in
      let stretch : Stretch = record { line = p.line; origin = p.at; way = p.facing; begin = part.1 * unit; end = (part.1 + part.2) * unit; unit = unit } in
      subst (λ (one : Part). PacketSaysOne plan (group_by later) (restriction id one) (IsLimitSaid limits train id number)) parts.1 (record {
        said = Restricts id stretch limit.front limit.speed;
        says = (
          stretch,
          (
            record { counts = counts p placed on later same part.0 rightly.not_spare; begins = refl; ends = refl },
            ap (λ (speed : ℕ). Restricts id stretch limit.front speed) (whole_fives limit.speed kept.in_fives),
          ),
        );
        is = record {
          limit = limit;
          active = active;
          p = p;
          placed = placed;
          stretch = stretch;
          is_for = record { scale = part.0; start = part.1; length = part.2; told = rightly; on_line = refl; from_group = refl; faces = refl; in_units = refl; begins = refl; ends = refl };
          is_said = refl;
        };
        packed =
            let start = rightly.start_in_field in
            let length = rightly.length_in_field in
            let speed = kept.speed in
            restriction_packed id (told_limit limit p) below (record {
              dir = direction_within p;
              scale = rightly.not_spare;
              start = omega (arith, start);
              length = omega (arith, length);
              speed = omega (arith, speed);
            });
      })

-- the packet of a revocation
lift_said : (plan : Plan) (lrbg id : ℕ) → id < 255 → PacketSaysOne plan lrbg (packet.Lift 2 id) (λ said. said ≡ RevokesLimit id)
lift_said plan lrbg id below = record { said = RevokesLimit id; says = (refl, refl); is = refl; packed = revocation_packed id below }

-- ---- all messages to a train

module _ (plan : Plan) (track : IsPlan plan) (stops : Stops) (limits : Limits) (good_stops : AreGoodStops plan stops) (good_limits : AreGoodLimits plan limits) (train : TrainRec)
    (on : HasPlaceOn plan train.place) (tables : HasTables train) where
  -- the train as its actions see it
  abbrev pub seen : TrainRec
  seen = as_told stops train

  -- the same, once the last message to it had a stamp
  abbrev pub seen_at : ℕ → TrainRec
  seen_at stamp = record seen { stamp = stamp }

  -- an action says what it has to, whatever was done to the train before, as long as it stands where it stood and has a stamp left
  abbrev pub IsSaid : Action → Type 0
  IsSaid action = (later : TrainRec) → StandsAs train later → SaysFor plan stops limits (seen_at later.stamp) action (message_of later action)

  -- the balise group that is named is the train's
  group_is : (later : TrainRec) → later.place ≡ train.place → group_by later ≡ group_by train
  group_is later same = ap (λ (o : Option Place). option_map_or (λ q. q.lrbg) o unknown_group) same

  names_group : (later : TrainRec) (action : Action) → later.place ≡ train.place → (head_of (message_of later action)).lrbg ≡ group_by train
  names_group later (ChangesStop (stop_change.Revoke id number)) same = group_is later same
  names_group later (ChangesStop (stop_change.Tell id number AtOnce)) same = group_is later same
  names_group later (ChangesStop (stop_change.Tell id number (Before edge))) same = group_is later same
  names_group later (ChangesLimits changes) same = group_is later same

  -- its stamp is the next one, and M_ACK that of its kind
  has_next_stamp : (later : TrainRec) (action : Action) → (head_of (message_of later action)).stamp ≡ later.stamp + 1
  has_next_stamp later (ChangesStop (stop_change.Revoke id number)) = refl
  has_next_stamp later (ChangesStop (stop_change.Tell id number AtOnce)) = refl
  has_next_stamp later (ChangesStop (stop_change.Tell id number (Before edge))) = refl
  has_next_stamp later (ChangesLimits changes) = refl

  has_known_time : (later : TrainRec) (action : Action) → later.stamp < last_stamp → (head_of (message_of later action)).stamp ≤ last_stamp
  has_known_time later action left = let next = has_next_stamp later action in omega (arith, next, left)

  has_its_kind : (later : TrainRec) (action : Action) → (head_of (message_of later action)).ack ≡ asks_for_answer (message_of later action)
  has_its_kind later (ChangesStop (stop_change.Revoke id number)) = refl
  has_its_kind later (ChangesStop (stop_change.Tell id number AtOnce)) = refl
  has_its_kind later (ChangesStop (stop_change.Tell id number (Before edge))) = refl
  has_its_kind later (ChangesLimits changes) = refl

  revoked_stop : (id : ℕ) (number : Option ℕ) → id < 15 → IsSaid (ChangesStop (stop_change.Revoke id number))
  revoked_stop id number below later stands = record {
    said = RevokesStop id ∷ [];
    says = refl;
    is_for = refl;
    next_stamp = has_next_stamp later (ChangesStop (stop_change.Revoke id number));
    known_time = has_known_time later (ChangesStop (stop_change.Revoke id number)) stands.left;
    by_its_kind = has_its_kind later (ChangesStop (stop_change.Revoke id number));
    by_its_group = names_group later (ChangesStop (stop_change.Revoke id number)) stands.same;
    sendable = revoke_stop later stands.left (group_later plan track train on later stands.same) id number below;
  }

  -- so does the action that makes a change to a stop
  abbrev pub IsStopChangeSaid : StopChange → Type 0
  IsStopChangeSaid change = IsSaid (ChangesStop change)

  revoked_all : (forced_now : List ℕ) (slots : Slots) → All (λ id. id < 15) (keys slots) → All IsStopChangeSaid (map (action_of_stop forced_now) slots)
  revoked_all forced_now [] below = All-nil IsStopChangeSaid
  revoked_all forced_now ((id, slot) ∷ slots) below =
      All-cons IsStopChangeSaid (stop_change.Revoke id (number_forced forced_now slot)) (map (action_of_stop forced_now) slots) (revoked_stop id (number_forced forced_now slot) (All-head (λ other. other < 15) id (keys slots) below))
      (revoked_all forced_now slots (All-tail (λ other. other < 15) id (keys slots) below))

  revoked_stops : All IsStopChangeSaid (stops_revoked (escalated stops train) stops train)
  revoked_stops =
      let revoked = is_stop_revoked stops (escalated stops train) in
      revoked_all (escalated stops train) (filter (λ held. is_used_by revoked held.1) train.stops) (revoked_below 15 revoked train.stops tables.stops.below)

  -- a stop is told to the train as the actions see it
  told_as_seen : (stop : ℕ × List Segment) → told_as train.place (forced_then stops train tables.stops good_stops.numbered) stop ≡ told_stop seen.place (concern_of stop.1 (has_number seen.forced stop.0) seen.place)
  told_as_seen stop = ap (λ (b : Bool). told_stop train.place (concern_of stop.1 b train.place)) (forced_as_fold stops train tables.stops good_stops.numbered stop.0)

  told_stops : All IsStopChangeSaid (stops_told (escalated stops train) stops train)
  told_stops =
      let what = told_as train.place (forced_then stops train tables.stops good_stops.numbered) in
      let slots = between stops train tables.stops good_stops.numbered in
      subst (λ (wanted : List (ℕ × ToldStop)). All IsStopChangeSaid (map tell_stop (zip wanted (free_identifiers 15 train.stops)))) (wanted_next stops train tables.stops good_stops.numbered)
      (each_telling slots what tell_stop (λ id. id < 15) IsStopChangeSaid stops.active (each stops.active (each_value 1 stops.active good_stops.numbered.ascending) good_stops.good)
      (free_identifiers 15 train.stops) (free_stop_ids train.stops))
    where
      each : (some : List (ℕ × List Segment)) → AllByRecursion (λ stop. value_of stops.active stop.0 ≡ Some stop.1) some → All (IsGoodStop plan) some
          → AllByRecursion (HoldsOfTelling (between stops train tables.stops good_stops.numbered) (told_as train.place (forced_then stops train tables.stops good_stops.numbered)) tell_stop (λ id. id < 15) IsStopChangeSaid) some
      each [] values good = tt
      each (stop ∷ some) values good = (
        λ told tells id below later stands.
            let one = concern_said plan track (seen_at later.stamp) on stop.1 (has_number seen.forced stop.0) (good_area plan track stop.1 (All-head (IsGoodStop plan) stop some good).good) id stop.0 below later
            (record { same = stands.same; left = stands.left }) seen.place refl on told (sym (told_as_seen stop) ∙ tells) in
            record {
              said = one.said ∷ [];
              says = one.says;
              is_for = record { one = one.said; is = record { area = stop.1; active = values.0; concern = one.is }; alone = refl };
              next_stamp = has_next_stamp later (ChangesStop (stop_change.Tell id stop.0 told));
              known_time = has_known_time later (ChangesStop (stop_change.Tell id stop.0 told)) stands.left;
              by_its_kind = has_its_kind later (ChangesStop (stop_change.Tell id stop.0 told));
              by_its_group = names_group later (ChangesStop (stop_change.Tell id stop.0 told)) stands.same;
              sendable = one.sendable;
            },
        each some values.1 (All-tail (IsGoodStop plan) stop some good),
      )

  -- the packet of a change to the restrictions says what it has to, in any later message
  abbrev pub IsLimitChangeSaid : LimitChange → Type 0
  IsLimitChangeSaid change = (later : TrainRec) → later.place ≡ train.place → PacketSaysOne plan (group_by later) (packet_of change) (IsChangeSaid limits (seen_at later.stamp) change)

  revoked_limits : All IsLimitChangeSaid (limits_revoked limits train)
  revoked_limits =
      let gone = is_limit_gone limits train.place in
      let ids = to_revoke gone train.limits in
      All-map IsLimitChangeSaid limit_change.Revoke ids
      (All-weaker (λ id. id < 255) (λ id. IsLimitChangeSaid (limit_change.Revoke id)) (λ id below later same. lift_said plan (group_by later) id below) ids (revoked_below 255 gone train.limits tables.limits.below))

  abbrev pub IsGood : ℕ × Limit → Type 0
  IsGood limit = is_good_limit plan limit.1.segment limit.1.speed ≡ true

  told_limits : All IsLimitChangeSaid (limits_told plan.horizon limits train)
  told_limits =
      each_telling train.limits (limit_as plan.horizon train.place) tell_limit (λ id. id < 255) IsLimitChangeSaid limits.active (each limits.active (each_value 1 limits.active good_limits.numbered.ascending) good_limits.good)
      (free_identifiers 255 train.limits) (free_limit_ids train.limits)
    where
      each : (some : List (ℕ × Limit)) → AllByRecursion (λ limit. value_of limits.active limit.0 ≡ Some limit.1) some → All IsGood some
          → AllByRecursion (HoldsOfTelling train.limits (limit_as plan.horizon train.place) tell_limit (λ id. id < 255) IsLimitChangeSaid) some
      each [] values good = tt
      each (limit ∷ some) values good = (
        λ told tells id below later same.
            limit_said plan track (seen_at later.stamp) on limits limit.1 limit.0 values.0 (good_limit plan track limit.1 (All-head IsGood limit some good)) seen.place refl on told tells id below later same,
        each some values.1 (All-tail IsGood limit some good),
      )

  -- so one message says what changes have to, one thing for each
  record AllSaid (later : TrainRec) (changes : List LimitChange) : Type 0 where
    said : List Said
    says : PacketsSay plan (group_by later) (map packet_of changes) said
    is : AreChangesSaid limits (seen_at later.stamp) changes said
    packed : AllByRecursion CanBePacked (map packet_of changes)

  in_message : (later : TrainRec) → later.place ≡ train.place → (changes : List LimitChange) → AllByRecursion IsLimitChangeSaid changes → AllSaid later changes
  in_message later same [] each = record { said = []; says = tt; is = tt; packed = tt }
  in_message later same (change ∷ changes) each =
      let one = each.0 later same in
      let more = in_message later same changes each.1 in
      record { said = one.said ∷ more.said; says = (one.says, more.says); is = (one.is, more.is); packed = (one.packed, more.packed) }

  group_said : (changes : List LimitChange) → 1 ≤ length changes → length changes ≤ 100 → AllByRecursion IsLimitChangeSaid changes → IsSaid (ChangesLimits changes)
  group_said changes some most each later stands =
      let all = in_message later stands.same changes each in
      let count : length (map packet_of changes) ≡ length changes = length-map changes packet_of in
      record {
        said = all.said;
        says = all.says;
        is_for = all.is;
        next_stamp = has_next_stamp later (ChangesLimits changes);
        known_time = has_known_time later (ChangesLimits changes) stands.left;
        by_its_kind = has_its_kind later (ChangesLimits changes);
        by_its_group = names_group later (ChangesLimits changes) stands.same;
        sendable = general later stands.left (group_later plan track train on later stands.same) (map packet_of changes) (omega (arith, some, count)) (omega (arith, most, count)) all.packed;
      }

  groups_said : (changes : List LimitChange) → All IsLimitChangeSaid changes → All IsSaid (map ChangesLimits (groups changes))
  groups_said changes = by_groups (λ (cs : List LimitChange). All IsLimitChangeSaid cs → All IsSaid (map ChangesLimits (groups cs))) (λ all. All-nil IsSaid) step changes
    where
      step : (change : LimitChange) (changes : List LimitChange) → (All IsLimitChangeSaid (drop 100 (change ∷ changes)) → All IsSaid (map ChangesLimits (groups (drop 100 (change ∷ changes)))))
          → All IsLimitChangeSaid (change ∷ changes) → All IsSaid (map ChangesLimits (groups (change ∷ changes)))
      step change changes rest all =
          let first = take 100 (change ∷ changes) in
          let count = length-take 100 (change ∷ changes) in
          subst (λ (gs : List (List LimitChange)). All IsSaid (map ChangesLimits gs)) (sym (groups_cons change changes))
          (All-cons IsSaid (ChangesLimits first) (map ChangesLimits (groups (drop 100 (change ∷ changes))))
          (group_said first (omega (arith, count)) (omega (arith, count)) (recursion_from_All IsLimitChangeSaid first (All-take IsLimitChangeSaid 100 (change ∷ changes) all)))
          (rest (All-drop IsLimitChangeSaid 100 (change ∷ changes) all)))

  all_said : All IsSaid (actions plan stops limits train)
  all_said =
      let first = stops_revoked (escalated stops train) stops train in
      let second = stops_told (escalated stops train) stops train in
      let third = limits_revoked limits train in
      let fourth = limits_told plan.horizon limits train in
      All-append IsSaid (map ChangesStop (first ++ second)) (map ChangesLimits (groups (third ++ fourth)))
      (All-map IsSaid ChangesStop (first ++ second) (All-append IsStopChangeSaid first second revoked_stops told_stops))
      (groups_said (third ++ fourth) (All-append IsLimitChangeSaid third fourth revoked_limits told_limits))

  -- an action moves no train, and takes one stamp
  moves : (later : TrainRec) (action : Action) → later.place ≡ train.place → (carried_out later action).place ≡ train.place
  moves later (ChangesStop (stop_change.Revoke id number)) same = same
  moves later (ChangesStop (stop_change.Tell id number told)) same = same
  moves later (ChangesLimits changes) same = same

  takes_stamp : (later : TrainRec) (action : Action) → (carried_out later action).stamp ≡ later.stamp + 1
  takes_stamp later (ChangesStop (stop_change.Revoke id number)) = refl
  takes_stamp later (ChangesStop (stop_change.Tell id number told)) = refl
  takes_stamp later (ChangesLimits changes) = refl

  -- so each message of actions one after another says what it has to
  each_says : (acts : List Action) → All IsSaid acts → (later : TrainRec) → later.place ≡ train.place → later.stamp + length acts ≤ last_stamp
      → AllSay plan stops limits (seen_at later.stamp) acts (scan carried_out message_of later acts)
  each_says [] all later same left = tt
  each_says (action ∷ acts) all later same left =
      let next = takes_stamp later action in
      let next_train = carried_out later action in (
        All-head IsSaid action acts all later (record { same = same; left = omega (arith, left) }),
        subst (λ (stamp : ℕ). AllSay plan stops limits (seen_at stamp) acts (scan carried_out message_of next_train acts)) next
            (each_says acts (All-tail IsSaid action acts all) next_train (moves later action same) (omega (arith, left, next))),
      )

  pub all_say : train.stamp ≤ last_stamp → AllSay plan stops limits seen (actions_with_stamp plan stops limits train) (messages_of plan stops limits train)
  all_say stamp =
      let count = last_stamp - train.stamp in
      let most = length-take count (actions plan stops limits train) in
      each_says (actions_with_stamp plan stops limits train) (All-take IsSaid count (actions plan stops limits train) all_said) train refl (omega (arith, stamp, most))
