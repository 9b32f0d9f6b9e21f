-- What the records after a step say of the train of each message, where the messages are those of the step.
use Rattle.std.proofs.Common.{◌≡◌, ◌⊎◌, ℕ, true, false, cond, eqb, List, [], ◌∷◌, map, Option, Some, None, option_map, refl, sym, ap, ◌∙◌, subst, inl, inr}
use Rattle.std.specs.List.{filter, AllByRecursion}
use Rattle.std.specs.Option.{option_map_or}
use Rattle.std.proofs.lemmas.Bool.{eq-eqb}
use Rattle.ertms_codec.specs.declared.packets.Part.{Part as Packet}
use Rattle.ertms_codec.specs.declared.packets.Part.TheVariants as packet
use Rattle.ertms_codec.specs.declared.to_train.ToTrain.{ToTrain}
use Rattle.ertms_codec.specs.declared.to_train.ToTrain.TheVariants as message
use Rattle.rbc_track.specs.Plan.{Plan}
use Rattle.rbc_place.specs.Placing.{Place}
use Rattle.rbc_maps.specs.Maps.{value_of, value_or}
use Rattle.rbc_zones.specs.declared.segment.Segment.{Segment}
use Rattle.rbc_zones.specs.Limits.{Limit}
use Rattle.rbc_settle.specs.declared.train.TrainRec.{TrainRec}
use Rattle.rbc_settle.specs.declared.sent.Sent.{Sent}
use Rattle.rbc_settle.specs.Settling.{Stops, Limits, is_limit_gone, escalated, is_stop_revoked, actions_with_stamp, settled, messages_of}
use Rattle.rbc_settle.specs.UpToDate.{HasTables}
use Rattle.rbc_records.specs.declared.record.Key.{Key}
use Rattle.rbc_records.specs.declared.record.Key.TheVariants as key
use Rattle.rbc_records.specs.declared.record.Rec.{Rec}
use Rattle.rbc_records.specs.Notes.{record_in}
use Rattle.rbc_rule.specs.declared.input.Input.{Input}
use Rattle.rbc_rule.specs.World.{World}
use Rattle.rbc_rule.specs.Step.{settle_all, sent_to_all}
use Rattle.rbc_rule.specs.Right.{messages_to}
use Rattle.rbc_rule.proofs.SettledPlaces.{place_after}
use Rattle.rbc_live.specs.Held.{AreRecordsOf}
use Rattle.rbc_live.specs.Known.{train_of, stops_of, limits_of, train_in, active_stops, active_limits}
use Rattle.rbc_account.specs.Found.{PacketHasSubject, HasSubject, IsRevokedBy, IsLiftedBy, IsFound}
use Rattle.rbc_account.proofs.Elements.{each-weaker}
use Rattle.rbc_account.proofs.Meant.{IsGoneUnder}
use Rattle.rbc_account.proofs.Subject.{each_has_subject}
use Rattle.rbc_live.proofs.NothingWaits.{stops_there, limits_there, train_there}

-- ---- maps and lists of messages

module _ {V W : Type 0} (f : V → W) where
  -- the value at a key of a map whose values are each changed
  pub value_of-each : (pairs : List (ℕ × V)) (k : ℕ) → value_of (map {B = ℕ × W} (λ (pair : ℕ × V). (pair.0, f pair.1)) pairs) k ≡ option_map f (value_of pairs k)
  value_of-each [] k = refl
  value_of-each (pair ∷ pairs) k =
      elim (eqb pair.0 k) as (λ b. cond b (Some (f pair.1)) (value_of (map {B = ℕ × W} (λ (pair : ℕ × V). (pair.0, f pair.1)) pairs) k) ≡ option_map f (cond b (Some pair.1) (value_of pairs k))) [
        | true ↦ refl
        | false ↦ value_of-each pairs k
      ]

  pub value_or-each : (none : W) (pairs : List (ℕ × V)) (k : ℕ) → value_or none (map {B = ℕ × W} (λ (pair : ℕ × V). (pair.0, f pair.1)) pairs) k ≡ option_map_or f (value_of pairs k) none
  value_or-each none [] k = refl
  value_or-each none (pair ∷ pairs) k =
      elim (eqb pair.0 k) as (λ b. cond b (f pair.1) (value_or none (map {B = ℕ × W} (λ (pair : ℕ × V). (pair.0, f pair.1)) pairs) k) ≡ option_map_or f (cond b (Some pair.1) (value_of pairs k)) none) [
        | true ↦ refl
        | false ↦ value_or-each none pairs k
      ]

module _ (P : ℕ → ToTrain → Type 0) where
  first_of_engine : (sent : Sent) (messages : List Sent) → AllByRecursion (P sent.engine) (messages_to sent.engine (sent ∷ messages)) → P sent.engine sent.message
  first_of_engine sent messages h =
      let all : AllByRecursion (P sent.engine) (map (λ (one : Sent). one.message) (cond true (sent ∷ filter (λ (one : Sent). eqb one.engine sent.engine) messages) (filter (λ (one : Sent). eqb one.engine sent.engine) messages))) =
      subst (λ b. AllByRecursion (P sent.engine) (map (λ (one : Sent). one.message) (cond b (sent ∷ filter (λ (one : Sent). eqb one.engine sent.engine) messages) (filter (λ (one : Sent). eqb one.engine sent.engine) messages))))
      (eq-eqb sent.engine sent.engine refl) h in
      all.0

  others_of_engine : (sent : Sent) (messages : List Sent) (engine : ℕ) → AllByRecursion (P engine) (messages_to engine (sent ∷ messages)) → AllByRecursion (P engine) (messages_to engine messages)
  others_of_engine sent messages engine =
      elim (eqb sent.engine engine) as (λ b. AllByRecursion (P engine) (map (λ (one : Sent). one.message) (cond b (sent ∷ filter (λ (one : Sent). eqb one.engine engine) messages) (filter (λ (one : Sent). eqb one.engine engine) messages)))
      → AllByRecursion (P engine) (messages_to engine messages)) [
        | true ↦ λ h. h.1
        | false ↦ λ h. h
      ]

  -- what holds of the messages to each engine holds of all
  pub each_by_engine : (messages : List Sent) → ((engine : ℕ) → AllByRecursion (P engine) (messages_to engine messages)) → AllByRecursion (λ sent. P sent.engine sent.message) messages
  each_by_engine [] h = tt
  each_by_engine (sent ∷ messages) h = (first_of_engine sent messages (h sent.engine), each_by_engine messages (λ engine. others_of_engine sent messages engine (h engine)))

-- ---- what is revoked

module _ (stops : List (ℕ × List Segment)) (limits : List (ℕ × Limit)) (train : TrainRec) (R S L M : ℕ → Type 0) (revoked : (id : ℕ) → R id → S id) (lifted : (id : ℕ) → L id → M id) where
  packet_weaker : (part : Packet) → PacketHasSubject limits train L part → PacketHasSubject limits train M part
  packet_weaker (packet.Restrict dir scale id start length front speed) has = has
  packet_weaker (packet.Lift dir id) has = lifted id has

  subject_weaker : (m : ToTrain) → HasSubject stops limits train R L m → HasSubject stops limits train S M m
  subject_weaker (message.StopAt head id scale reference dir distance) has = has
  subject_weaker (message.Stop head id) has = has
  subject_weaker (message.Revoke head id) has = revoked id has
  subject_weaker (message.General head packets) has = each-weaker (PacketHasSubject limits train L) (PacketHasSubject limits train M) packet_weaker packets has

-- ---- the messages of a step

-- What is to be shown of a train that is settled after an input: it is sent nothing, or what is revoked is so by the input.
abbrev pub AreRevokedBy : Plan → Input → Option TrainRec → Stops → Limits → TrainRec → Type 0
AreRevokedBy plan input before stops limits train =
    (messages_of plan stops limits train ≡ [])
    ⊎ (((id : ℕ) → IsGoneUnder (is_stop_revoked stops (escalated stops train)) train.stops id → IsRevokedBy input before id)
    × ((id : ℕ) → IsGoneUnder (is_limit_gone limits train.place) train.limits id → IsLiftedBy input before limits.active train.place id))

module _ (plan : Plan) (changed : World) (records : List (Key × Rec)) (are : AreRecordsOf plan (record_in records) (settle_all plan changed)) where
  -- the records say what is active, and each train as it is settled
  stops_after : active_stops records ≡ changed.stops.active
  stops_after = ap (λ r. (stops_of r).active) (are.same key.Stops) ∙ stops_there changed.stops are.well_formed.stops.numbered

  limits_after : active_limits records ≡ changed.limits.active
  limits_after = ap (λ r. (limits_of r).active) (are.same key.Limits) ∙ limits_there changed.limits are.well_formed.limits.numbered

  train_after : (engine : ℕ) → train_in records engine ≡ option_map (settled plan changed.stops changed.limits) (value_of changed.trains engine)
  train_after engine =
      ap train_of (are.same (key.Train engine)) ∙ train_there (value_of (settle_all plan changed).trains engine)
      ∙ value_of-each (settled plan changed.stops changed.limits) changed.trains engine

  module _ (input : Input) (before : Option TrainRec) (tables : (engine : ℕ) (train : TrainRec) → value_of changed.trains engine ≡ Some train → HasTables train)
      (revoked : (engine : ℕ) (train : TrainRec) → value_of changed.trains engine ≡ Some train → AreRevokedBy plan input before changed.stops changed.limits train) where
    -- the messages to one train
    one_found : (engine : ℕ) (train : TrainRec) → value_of changed.trains engine ≡ Some train → AllByRecursion (IsFound records input before engine) (messages_of plan changed.stops changed.limits train)
    one_found engine train there = elim (revoked engine train there) [
      | inl none ↦ subst (AllByRecursion (IsFound records input before engine)) (sym none) tt
      | inr both ↦
          let after = settled plan changed.stops changed.limits train in
          let placed : after.place ≡ train.place = place_after (actions_with_stamp plan changed.stops changed.limits train) train in
          let lifted = λ (id : ℕ).
          subst (λ (place : Option Place). IsGoneUnder (is_limit_gone changed.limits place) train.limits id → IsLiftedBy input before changed.limits.active place id) (sym placed) (both.1 id) in
          let R : ℕ → Type 0 = IsGoneUnder (is_stop_revoked changed.stops (escalated changed.stops train)) train.stops in
          let L : ℕ → Type 0 = IsGoneUnder (is_limit_gone changed.limits after.place) train.limits in
          each-weaker (HasSubject changed.stops.active changed.limits.active after R L) (IsFound records input before engine)
          (λ m has. (
            after,
            train_after engine ∙ ap (option_map (settled plan changed.stops changed.limits)) there,
            subst (λ (s : List (ℕ × List Segment)). HasSubject s (active_limits records) after (IsRevokedBy input before) (IsLiftedBy input before (active_limits records) after.place) m) (sym stops_after)
                (subst (λ (l : List (ℕ × Limit)). HasSubject changed.stops.active l after (IsRevokedBy input before) (IsLiftedBy input before l after.place) m) (sym limits_after)
                (subject_weaker changed.stops.active changed.limits.active after R (IsRevokedBy input before) L (IsLiftedBy input before changed.limits.active after.place) both.0 lifted m has)),
          )) (messages_of plan changed.stops changed.limits train)
          (each_has_subject plan changed.stops changed.limits train (tables engine train there) are.well_formed.stops.numbered are.well_formed.limits.numbered)
    ]

    to_engine_found : (engine : ℕ) → AllByRecursion (IsFound records input before engine) (value_or [] (sent_to_all plan changed) engine)
    to_engine_found engine =
        subst (AllByRecursion (IsFound records input before engine)) (sym (value_or-each (messages_of plan changed.stops changed.limits) [] changed.trains engine))
        (of_found (value_of changed.trains engine) refl)
      where
        of_found : (found : Option TrainRec) → value_of changed.trains engine ≡ found → AllByRecursion (IsFound records input before engine) (option_map_or (messages_of plan changed.stops changed.limits) found [])
        of_found None is = tt
        of_found (Some train) is = one_found engine train is

    -- so all messages, in whatever order between engines
    pub all_found : (messages : List Sent) → ((engine : ℕ) → messages_to engine messages ≡ value_or [] (sent_to_all plan changed) engine)
        → AllByRecursion (λ sent. IsFound records input before sent.engine sent.message) messages
    all_found messages same =
        each_by_engine (IsFound records input before) messages (λ engine. subst (AllByRecursion (IsFound records input before engine)) (sym (same engine)) (to_engine_found engine))
