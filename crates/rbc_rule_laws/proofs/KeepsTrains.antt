-- Each change that an input makes to a train leaves it well-formed.
use Rattle.std.proofs.Common.{◌≡◌, ℕ, ◌+◌, ◌<◌, ◌≤◌, max, Bool, true, false, not, cond, eqb, ltb, leb, List, [], ◌∷◌, ◌++◌, Option, Some, None, Result, Ok, Err, refl, arith}
use Rattle.std.specs.List.{All, list_any}
use Rattle.std.specs.Option.{IfSome, option_map_or}
use Rattle.std.proofs.lemmas.Bool.{and_parts, and_from, leb-true, ltb-false}
use Rattle.std.proofs.lemmas.List.Elements.{All-nil, All-weaker, All-filter}
use Rattle.ertms_codec.specs.declared.from_train.Position.{Position}
use Rattle.ertms_codec.specs.declared.from_train.FromTrain.{FromTrain}
use Rattle.ertms_codec.specs.declared.from_train.FromTrain.TheVariants.{Report, Ack, StopAck}
use Rattle.rbc_track.specs.Plan.{Plan, IsPlan}
use Rattle.rbc_maps.specs.Maps.{rises_from, value_of, with_value, without}
use Rattle.rbc_maps.proofs.MapFacts.{rises_from-lower}
use Rattle.rbc_ids.specs.declared.slot.Slot.{Slot}
use Rattle.rbc_ids.specs.declared.slot.Slot.TheVariants.{Used, Revoking}
use Rattle.rbc_ids.specs.declared.slot.Kind.{Kind}
use Rattle.rbc_ids.specs.Table.{Slots, IsTable, is_answered_by, acked_slots, after_stamp_ack, is_acceptance, is_rejection, acked_by_id, after_id_ack, rejected, marked, after_report}
use Rattle.rbc_settle.specs.declared.train.TrainRec.{TrainRec}
use Rattle.rbc_settle.specs.Numbers.{and_number, without_number}
use Rattle.rbc_settle.specs.Trains.{new_train}
use Rattle.rbc_settle.specs.Settling.{Stops, Limits, and_forced}
use Rattle.rbc_settle.specs.WellFormed.{told_numbers, stamps, stamps_in, IsGiven, is_stop_kind, is_limit_kind, has_kind, has_count, IsWellFormedTrain}
use Rattle.rbc_settle.proofs.Forcing.{rises-and, All-and}
use Rattle.rbc_rule.specs.Effect.{forget, unknown_stamp, is_too_high, raised, placed, limits_acked, acknowledged, stop_acked, answered, told_by, stamp_of as stamp_told, heard}
use Rattle.rbc_rule.proofs.KeepsLists.{part-same, part-all, part-apart, apart-part, part-before, part-behind}
use Rattle.rbc_rule_laws.proofs.KeepsSlots.{SlotsStay, stay-without, stay-marked, stay-reported, stay-acked, good_slots, told-given}
use Rattle.rbc_rule_laws.proofs.KeepsPlaces.{place_on}
use Rattle.rbc_settle.specs.Trains.{max_engine, max_train_length}
use Rattle.rbc_rule.specs.Bounds.{max_stamp}
use Rattle.rbc_rule.specs.Codes.{code_of}
use Rattle.rbc_rule.specs.declared.refuse.Refusal.TheVariants.{StampTooHigh, NothingToAcknowledge}

-- ---- ascending numbers

rises-less : (n least : ℕ) (xs : List ℕ) → rises_from least xs ≡ true → rises_from least (without_number n xs) ≡ true
rises-less n least [] rises = refl
rises-less n least (x ∷ xs) rises =
    let parts = and_parts (leb least x) (rises_from (x + 1) xs) rises in
    let above : least ≤ x = leb-true least x parts.0 in
    let rest = rises-less n (x + 1) xs parts.1 in
    elim (eqb x n) as (λ b. rises_from least (cond (not b) (x ∷ without_number n xs) (without_number n xs)) ≡ true) [
      | true ↦ rises_from-lower least (x + 1) (without_number n xs) (omega (arith, above)) rest
      | false ↦ and_from (leb least x) (rises_from (x + 1) (without_number n xs)) parts.0 rest
    ]

-- ---- the parts of a train

-- a train is well-formed for any stops and restrictions of which no fewer were given
pub well_later : (plan : Plan) (stops later_stops : Stops) (limits later_limits : Limits) (train : TrainRec) → stops.last ≤ later_stops.last → limits.last ≤ later_limits.last
    → IsWellFormedTrain plan stops limits train → IsWellFormedTrain plan later_stops later_limits train
well_later plan stops later_stops limits later_limits train later_s later_l well = record {
  engine = well.engine;
  length = well.length;
  place = well.place;
  forced_ascend = well.forced_ascend;
  forced = All-weaker (IsGiven stops.last) (IsGiven later_stops.last) (λ n given. (given.0, (let within = given.1 in omega (arith, within, later_s)))) train.forced well.forced;
  tables = well.tables;
  stop_slots = record {
    kinds = well.stop_slots.kinds;
    counts = well.stop_slots.counts;
    given = All-weaker (IsGiven stops.last) (IsGiven later_stops.last) (λ n given. (given.0, (let within = given.1 in omega (arith, within, later_s)))) (told_numbers train.stops) well.stop_slots.given;
    once = well.stop_slots.once;
  };
  limit_slots = record {
    kinds = well.limit_slots.kinds;
    counts = well.limit_slots.counts;
    given = All-weaker (IsGiven limits.last) (IsGiven later_limits.last) (λ n given. (given.0, (let within = given.1 in omega (arith, within, later_l)))) (told_numbers train.limits) well.limit_slots.given;
    once = well.limit_slots.once;
  };
  stamp = well.stamp;
  stamps_within = well.stamps_within;
  stamps_apart = well.stamps_apart;
}

module _ (plan : Plan) (stops : Stops) (limits : Limits) where
  -- a train that is enrolled
  pub well_new : (engine train_length : ℕ) → engine ≤ max_engine → (1 ≤ train_length) × (train_length ≤ max_train_length) → IsWellFormedTrain plan stops limits (new_train engine train_length 0)
  well_new engine train_length small lengths = record {
    engine = small;
    length = lengths;
    place = tt;
    forced_ascend = refl;
    forced = All-nil (IsGiven stops.last);
    tables = record {
      stops = record { small = omega arith; ascending = refl; below = All-nil (λ id. id < 15); once = tt };
      limits = record { small = omega arith; ascending = refl; below = All-nil (λ id. id < 255); once = tt };
    };
    stop_slots = record { kinds = All-nil (λ held. has_kind is_stop_kind held.1 ≡ true); counts = All-nil (λ held. has_count held.1 ≡ true); given = All-nil (IsGiven stops.last); once = tt };
    limit_slots = record { kinds = All-nil (λ held. has_kind is_limit_kind held.1 ≡ true); counts = All-nil (λ held. has_count held.1 ≡ true); given = All-nil (IsGiven limits.last); once = tt };
    stamp = omega arith;
    stamps_within = All-nil (λ s. s ≤ 0);
    stamps_apart = tt;
  }

  module _ (train : TrainRec) (well : IsWellFormedTrain plan stops limits train) where
    pub well_forgotten : (number : ℕ) → IsWellFormedTrain plan stops limits (forget number train)
    well_forgotten number = record {
      engine = well.engine;
      length = well.length;
      place = well.place;
      forced_ascend = rises-less number 0 train.forced well.forced_ascend;
      forced = All-filter (λ other. not (eqb other number)) (IsGiven stops.last) train.forced well.forced;
      tables = record { stops = well.tables.stops; limits = well.tables.limits };
      stop_slots = well.stop_slots;
      limit_slots = well.limit_slots;
      stamp = well.stamp;
      stamps_within = well.stamps_within;
      stamps_apart = well.stamps_apart;
    }

    pub well_forced : (number : ℕ) → IsGiven stops.last number → IsWellFormedTrain plan stops limits (record train { forced = and_number number train.forced })
    well_forced number given = record {
      engine = well.engine;
      length = well.length;
      place = well.place;
      forced_ascend = rises-and number train.forced well.forced_ascend;
      forced = All-and (IsGiven stops.last) number train.forced given well.forced;
      tables = record { stops = well.tables.stops; limits = well.tables.limits };
      stop_slots = well.stop_slots;
      limit_slots = well.limit_slots;
      stamp = well.stamp;
      stamps_within = well.stamps_within;
      stamps_apart = well.stamps_apart;
    }

    pub well_stops : (slots : Slots) → SlotsStay 15 is_stop_kind train.stops slots → IsWellFormedTrain plan stops limits (record train { stops = slots })
    well_stops slots stay =
        let part = part-before (stamps_in slots) (stamps_in train.stops) (stamps_in train.limits) stay.stamps in
        record {
          engine = well.engine;
          length = well.length;
          place = well.place;
          forced_ascend = well.forced_ascend;
          forced = well.forced;
          tables = record { stops = stay.table; limits = well.tables.limits };
          stop_slots = good_slots 15 is_stop_kind stops.last train.stops slots stay well.stop_slots;
          limit_slots = well.limit_slots;
          stamp = well.stamp;
          stamps_within = part-all (λ s. s ≤ train.stamp) (stamps_in slots ++ stamps_in train.limits) (stamps train) part well.stamps_within;
          stamps_apart = part-apart (stamps_in slots) (stamps_in train.stops) (stamps_in train.limits) stay.stamps well.stamps_apart;
        }

    pub well_limits : (slots : Slots) → SlotsStay 255 is_limit_kind train.limits slots → IsWellFormedTrain plan stops limits (record train { limits = slots })
    well_limits slots stay =
        let part = part-behind (stamps_in train.stops) (stamps_in slots) (stamps_in train.limits) stay.stamps in
        record {
          engine = well.engine;
          length = well.length;
          place = well.place;
          forced_ascend = well.forced_ascend;
          forced = well.forced;
          tables = record { stops = well.tables.stops; limits = stay.table };
          stop_slots = well.stop_slots;
          limit_slots = good_slots 255 is_limit_kind limits.last train.limits slots stay well.limit_slots;
          stamp = well.stamp;
          stamps_within = part-all (λ s. s ≤ train.stamp) (stamps_in train.stops ++ stamps_in slots) (stamps train) part well.stamps_within;
          stamps_apart = apart-part (stamps_in train.stops) (stamps_in slots) (stamps_in train.limits) stay.stamps well.stamps_apart;
        }

    pub well_placed : (position : Position) → IsPlan plan → IsWellFormedTrain plan stops limits (placed plan position train)
    well_placed position track = record {
      engine = well.engine;
      length = well.length;
      place = place_on plan position train.length track;
      forced_ascend = well.forced_ascend;
      forced = well.forced;
      tables = record { stops = well.tables.stops; limits = well.tables.limits };
      stop_slots = well.stop_slots;
      limit_slots = well.limit_slots;
      stamp = well.stamp;
      stamps_within = well.stamps_within;
      stamps_apart = well.stamps_apart;
    }

    well_stamp : (stamp : ℕ) → stamp ≤ max_stamp → IsWellFormedTrain plan stops limits (record train { stamp = max train.stamp stamp })
    well_stamp stamp low = record {
      engine = well.engine;
      length = well.length;
      place = well.place;
      forced_ascend = well.forced_ascend;
      forced = well.forced;
      tables = record { stops = well.tables.stops; limits = well.tables.limits };
      stop_slots = well.stop_slots;
      limit_slots = well.limit_slots;
      stamp = (let before = well.stamp in omega (arith, before, low));
      stamps_within = All-weaker (λ s. s ≤ train.stamp) (λ s. s ≤ max train.stamp stamp) (λ s le. omega (arith, le)) (stamps train) well.stamps_within;
      stamps_apart = well.stamps_apart;
    }

    pub well_raised : (stamp : ℕ) → is_too_high stamp ≡ false → IsWellFormedTrain plan stops limits (raised stamp train)
    well_raised stamp low =
        (elim (eqb stamp unknown_stamp) as (λ b. cond b (ltb 1 0) (ltb max_stamp stamp) ≡ false → IsWellFormedTrain plan stops limits (cond b train (record train { stamp = max train.stamp stamp }))) [
          | true ↦ λ e. well
          | false ↦ λ e. well_stamp stamp (ltb-false max_stamp stamp e)
        ]) low

-- ---- a message from a train

-- a train of the same engine that is well-formed, if it is not refused
abbrev pub WellIfOk : Plan → Stops → Limits → ℕ → Result TrainRec ℕ → Type 0
WellIfOk plan stops limits engine (Ok train) = (train.engine ≡ engine) × IsWellFormedTrain plan stops limits train
WellIfOk plan stops limits engine (Err code) = Unit

module _ (count : ℕ) (is_kind : Kind → Bool) (slots : Slots) (table : IsTable count slots) (kinds : All (λ held. has_kind is_kind held.1 ≡ true) slots) (counts : All (λ held. has_count held.1 ≡ true) slots) where
  stay-same : SlotsStay count is_kind slots slots
  stay-same = record { table = table; kinds = kinds; counts = counts; numbers = part-same (told_numbers slots); stamps = part-same (stamps_in slots) }

  -- a stamp is acknowledged
  stay-stamp_acked : (stamp : ℕ) → IfSome (after_stamp_ack slots stamp) (SlotsStay count is_kind slots)
  stay-stamp_acked stamp =
      elim (list_any (λ held. is_answered_by stamp held.1) slots) as (λ b. IfSome (cond b (Some (acked_slots stamp slots)) None) (SlotsStay count is_kind slots)) [
        | true ↦ stay-acked count is_kind slots table kinds counts stamp
        | false ↦ tt
      ]

module _ (plan : Plan) (stops : Stops) (limits : Limits) (engine : ℕ) where
  -- a train whose table is changed, where there is a table, or else what is well-formed itself
  well_or_else : (change : Slots → TrainRec) (after : Option Slots) (otherwise : Result TrainRec ℕ) → IfSome after (λ slots. WellIfOk plan stops limits engine (Ok (change slots))) → WellIfOk plan stops limits engine otherwise → WellIfOk plan stops limits engine (option_map_or (λ slots. Ok (change slots)) after otherwise)
  well_or_else change None otherwise here there = there
  well_or_else change (Some slots) otherwise here there = here

  if-some : {P Q : Slots → Type 0} (after : Option Slots) → ((slots : Slots) → P slots → Q slots) → IfSome after P → IfSome after Q
  if-some None f here = tt
  if-some (Some slots) f here = f slots here

  module _ (train : TrainRec) (same : train.engine ≡ engine) (well : IsWellFormedTrain plan stops limits train) where
    well_limits_acked : (acked : ℕ) → WellIfOk plan stops limits engine (limits_acked acked train)
    well_limits_acked acked =
        well_or_else (λ slots. record train { limits = slots }) (after_stamp_ack train.limits acked) (Err (code_of NothingToAcknowledge))
        (if-some (after_stamp_ack train.limits acked) (λ slots stay. (same, well_limits plan stops limits train well slots stay))
        (stay-stamp_acked 255 is_limit_kind train.limits well.tables.limits well.limit_slots.kinds well.limit_slots.counts acked)) tt

    well_acknowledged : (acked : ℕ) → WellIfOk plan stops limits engine (acknowledged acked train)
    well_acknowledged acked =
        well_or_else (λ slots. record train { stops = slots }) (after_stamp_ack train.stops acked) (limits_acked acked train)
        (if-some (after_stamp_ack train.stops acked) (λ slots stay. (same, well_stops plan stops limits train well slots stay))
        (stay-stamp_acked 15 is_stop_kind train.stops well.tables.stops well.stop_slots.kinds well.stop_slots.counts acked)) (well_limits_acked acked)

    -- a stop is answered
    well_stop_acked : (id answer : ℕ) (o : Option Slot) → value_of train.stops id ≡ o → IfSome (acked_by_id train.stops id answer o) (λ slots. WellIfOk plan stops limits engine (Ok (record train { stops = slots; forced = and_forced (rejected answer o) train.forced })))
    well_stop_acked id answer None e = tt
    well_stop_acked id answer (Some (Revoking stamp)) e = tt
    well_stop_acked id answer (Some (Used used)) e =
        let accepted = well_stops plan stops limits train well (with_value id (marked used) train.stops)
        (stay-marked 15 is_stop_kind train.stops well.tables.stops well.stop_slots.kinds well.stop_slots.counts id used e) in
        let freed = well_stops plan stops limits train well (without id train.stops) (stay-without 15 is_stop_kind train.stops well.tables.stops well.stop_slots.kinds well.stop_slots.counts id) in
        let given = told-given (IsGiven stops.last) train.stops id used well.stop_slots.given e in
        let both = λ (slots : Slots) (still : IsWellFormedTrain plan stops limits (record train { stops = slots })). well_forced plan stops limits (record train { stops = slots }) still used.number given in
        elim (is_rejection used.kind answer) as (λ r. IfSome (cond (is_acceptance used.kind answer) (Some (with_value id (marked used) train.stops)) (cond r (Some (without id train.stops)) None))
        (λ slots. WellIfOk plan stops limits engine (Ok (record train { stops = slots; forced = and_forced (cond r (Some used.number) None) train.forced })))) [
          | true ↦ elim (is_acceptance used.kind answer) as (λ b. IfSome (cond b (Some (with_value id (marked used) train.stops)) (Some (without id train.stops)))
              (λ slots. WellIfOk plan stops limits engine (Ok (record train { stops = slots; forced = and_number used.number train.forced })))) [
                | true ↦ (same, both (with_value id (marked used) train.stops) accepted)
                | false ↦ (same, both (without id train.stops) freed)
              ]
          | false ↦ elim (is_acceptance used.kind answer) as (λ b. IfSome (cond b (Some (with_value id (marked used) train.stops)) None)
              (λ slots. WellIfOk plan stops limits engine (Ok (record train { stops = slots })))) [
                | true ↦ (same, accepted)
                | false ↦ tt
              ]
        ]

    well_answered : (id answer : ℕ) → WellIfOk plan stops limits engine (answered id answer train)
    well_answered id answer =
        well_or_else (stop_acked id answer train) (after_id_ack train.stops id answer) (Err (code_of NothingToAcknowledge)) (well_stop_acked id answer (value_of train.stops id) refl) tt

  engine_raised : (stamp : ℕ) (train : TrainRec) → train.engine ≡ engine → (raised stamp train).engine ≡ engine
  engine_raised stamp train same = elim (eqb stamp unknown_stamp) as (λ b. (cond b train (record train { stamp = max train.stamp stamp })).engine ≡ engine) [
    | true ↦ same
    | false ↦ same
  ]

  well_told : (message : FromTrain) (train : TrainRec) → IsPlan plan → train.engine ≡ engine → IsWellFormedTrain plan stops limits train → is_too_high (stamp_told message) ≡ false → WellIfOk plan stops limits engine (told_by plan message train)
  well_told (Report stamp by position) train track same well low =
      let there = placed plan position (raised stamp train) in
      let still = well_placed plan stops limits (raised stamp train) (well_raised plan stops limits train well stamp low) position track in (
        engine_raised stamp train same,
        well_stops plan stops limits there still (after_report there.stops) (stay-reported 15 is_stop_kind there.stops still.tables.stops still.stop_slots.kinds still.stop_slots.counts),
      )
  well_told (Ack stamp by acked) train track same well low =
      well_acknowledged (raised stamp train) (engine_raised stamp train same) (well_raised plan stops limits train well stamp low) acked
  well_told (StopAck stamp by id answer position) train track same well low =
      well_answered (placed plan position (raised stamp train)) (engine_raised stamp train same) (well_placed plan stops limits (raised stamp train) (well_raised plan stops limits train well stamp low) position track) id answer

  -- a train that is heard stays well-formed
  pub well_heard : (message : FromTrain) (train : TrainRec) → IsPlan plan → train.engine ≡ engine → IsWellFormedTrain plan stops limits train → WellIfOk plan stops limits engine (heard plan message train)
  well_heard message train track same well =
      (elim (is_too_high (stamp_told message)) as (λ b. is_too_high (stamp_told message) ≡ b → WellIfOk plan stops limits engine (cond b (Err (code_of StampTooHigh)) (told_by plan message train))) [
        | true ↦ λ is. tt
        | false ↦ λ is. well_told message train track same well is
      ]) refl
