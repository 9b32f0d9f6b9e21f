-- A settled train that acknowledges a message stays settled, unless that frees an identifier where none was free.
use Rattle.std.proofs.Common.{◌≡◌, ℕ, zero, suc, ◌-◌, ◌≤◌, ◌⊎◌, max, Bool, true, false, cond, ◌&&◌, ◌||◌, eqb, ltb, List, [], ◌∷◌, ◌++◌, length, take, Option, Some, None, Result, Ok, Err, refl, sym, ap, subst, ◌∙◌, arith, inl, inr}
use Rattle.std.specs.List.{cons_option, list_any, fold, scan, AllByRecursion}
use Rattle.std.specs.Option.{option_map, option_map_or}
use Rattle.std.proofs.lemmas.Bool.{and_cases, or_parts, eq-eqb, ltb-false}
use Rattle.ertms_codec.specs.declared.from_train.FromTrain.{FromTrain}
use Rattle.ertms_codec.specs.declared.from_train.FromTrain.TheVariants.{Report, Ack, StopAck}
use Rattle.rbc_track.specs.Plan.{Plan}
use Rattle.rbc_maps.specs.Maps.{has, value_of}
use Rattle.rbc_maps.specs.Numbered.{AreNumbered}
use Rattle.rbc_ids.specs.declared.slot.Slot.{Slot}
use Rattle.rbc_ids.specs.declared.slot.Slot.TheVariants.{Used, Revoking}
use Rattle.rbc_ids.specs.Table.{Slots, IsTable, is_told, is_conditional, is_answered_by, marked, acked_slots, free_identifiers}
use Rattle.rbc_ids.proofs.Tables.{stays_acked}
use Rattle.rbc_settle.specs.declared.train.TrainRec.{TrainRec}
use Rattle.rbc_settle.specs.Actions.{Action}
use Rattle.rbc_settle.specs.Settling.{Stops, Limits, last_stamp, carried_out, message_of, is_used_by, is_stop_gone, is_limit_gone, due_number, actions, actions_with_stamp, settled, messages_of, to_engine}
use Rattle.rbc_settle.specs.UpToDate.{HasTables}
use Rattle.rbc_settle.proofs.AfterTelling.{all_held}
use Rattle.rbc_settle.proofs.Done.{IsDone}
use Rattle.rbc_settle.proofs.Concerned.{told_as, limit_as}
use Rattle.rbc_settle.proofs.NoneDue.{each_not_due, none_due_from}
use Rattle.rbc_settle.proofs.Achieves.{AreDone, no_actions}
use Rattle.rbc_records.specs.declared.record.Key.{Key}
use Rattle.rbc_records.specs.declared.record.Key.TheVariants as key
use Rattle.rbc_records.specs.declared.record.Rec.{Rec}
use Rattle.rbc_records.specs.declared.record.Rec.TheVariants as rec
use Rattle.rbc_rule.specs.declared.outcome.Reply.TheVariants.{Done}
use Rattle.rbc_rule.specs.declared.refuse.Refusal.TheVariants.{StampTooHigh, NothingToAcknowledge}
use Rattle.rbc_rule.specs.World.{World}
use Rattle.rbc_rule.specs.Codes.{code_of}
use Rattle.rbc_rule.specs.Effect.{unknown_stamp, is_too_high, raised, limits_acked, acknowledged, heard}
use Rattle.rbc_rule.specs.Gathered.{heard_outcome}
use Rattle.rbc_rule.specs.Touching.{has_made_room, may_be_told}
use Rattle.rbc_rule.specs.WellFormed.{IsGoodTrain, IsWellFormed}
use Rattle.rbc_rule.proofs.KeepsLists.{All-value_of}
use Rattle.rbc_rule.proofs.Untouched.{not_empty, none_free, done_before}

-- ---- a table after an acknowledgement

module _ (stamp : ℕ) where
  -- it tells the same numbers
  told_acked : (n : ℕ) (slots : Slots) → is_told (acked_slots stamp slots) n ≡ is_told slots n
  told_acked n [] = refl
  told_acked n ((id, Used used) ∷ slots) =
      elim (is_answered_by stamp (Used used)) as (λ b. is_told ((id, cond b (marked used) (Used used)) ∷ acked_slots stamp slots) n ≡ is_told ((id, Used used) ∷ slots) n) [
        | true ↦ ap (λ (told : Bool). eqb used.number n || told) (told_acked n slots)
        | false ↦ ap (λ (told : Bool). eqb used.number n || told) (told_acked n slots)
      ]
  told_acked n ((id, Revoking own) ∷ slots) =
      elim (eqb own stamp) as (λ b. is_told (cons_option (option_map (λ (slot : Slot). (id, slot)) (cond b None (Some (Revoking own)))) (acked_slots stamp slots)) n ≡ is_told slots n) [
        | true ↦ told_acked n slots
        | false ↦ told_acked n slots
      ]

  -- it is used by the same numbers
  used_acked : (gone : ℕ → Bool) (slots : Slots) → list_any (λ held. is_used_by gone held.1) (acked_slots stamp slots) ≡ list_any (λ held. is_used_by gone held.1) slots
  used_acked gone [] = refl
  used_acked gone ((id, Used used) ∷ slots) =
      elim (is_answered_by stamp (Used used)) as (λ b. list_any (λ held. is_used_by gone held.1) ((id, cond b (marked used) (Used used)) ∷ acked_slots stamp slots) ≡ list_any (λ held. is_used_by gone held.1) ((id, Used used) ∷ slots)) [
        | true ↦ ap (λ (other : Bool). gone used.number || other) (used_acked gone slots)
        | false ↦ ap (λ (other : Bool). gone used.number || other) (used_acked gone slots)
      ]
  used_acked gone ((id, Revoking own) ∷ slots) =
      elim (eqb own stamp) as (λ b. list_any (λ held. is_used_by gone held.1) (cons_option (option_map (λ (slot : Slot). (id, slot)) (cond b None (Some (Revoking own)))) (acked_slots stamp slots)) ≡ list_any (λ held. is_used_by gone held.1) slots) [
        | true ↦ used_acked gone slots
        | false ↦ used_acked gone slots
      ]

  -- no slot is due that was not
  not_due_acked : (stops : Stops) (slots : Slots) → AllByRecursion (λ held. due_number stops held.1 ≡ None) slots → AllByRecursion (λ held. due_number stops held.1 ≡ None) (acked_slots stamp slots)
  not_due_acked stops [] all = tt
  not_due_acked stops ((id, Used used) ∷ slots) all =
      elim (is_answered_by stamp (Used used)) as (λ b. AllByRecursion (λ held. due_number stops held.1 ≡ None) ((id, cond b (marked used) (Used used)) ∷ acked_slots stamp slots)) [
        | true ↦ (
          elim (is_conditional used.kind) as (λ b. cond ((b && false && eqb used.count 3) && has stops.active used.number) (Some used.number) None ≡ None) [ true ↦ refl | false ↦ refl ],
          not_due_acked stops slots all.1,
        )
        | false ↦ (all.0, not_due_acked stops slots all.1)
      ]
  not_due_acked stops ((id, Revoking own) ∷ slots) all =
      elim (eqb own stamp) as (λ b. AllByRecursion (λ held. due_number stops held.1 ≡ None) (cons_option (option_map (λ (slot : Slot). (id, slot)) (cond b None (Some (Revoking own)))) (acked_slots stamp slots))) [
        | true ↦ not_due_acked stops slots all.1
        | false ↦ (refl, not_due_acked stops slots all.1)
      ]

-- a full table stays full, unless it has made room
still_full : (count : ℕ) (old new : Slots) → IsTable count old → IsTable count new → has_made_room count (length old) (length new) ≡ false → free_identifiers count old ≡ [] → free_identifiers count new ≡ []
still_full count old new table after no_room none =
    let full : length old ≡ count = all_held count old table none in
    elim (and_cases (eqb (length old) count) (ltb (length new) (length old)) no_room) [
      | inl apart ↦ absurd (let bad : true ≡ false = sym (eq-eqb (length old) count full) ∙ apart in cc)
      | inr not_less ↦ none_free count new after (let most = ltb-false (length new) (length old) not_less in omega (arith, full, most))
    ]

module _ {X T : Type 0} (stamp count : ℕ) (gone : ℕ → Bool) (active : List (ℕ × X)) (what : ℕ × X → Option T) (slots : Slots) where
  still_told : (some : List (ℕ × X)) → AllByRecursion (λ entry. (what entry ≡ None) ⊎ (is_told slots entry.0 ≡ true)) some
      → AllByRecursion (λ entry. (what entry ≡ None) ⊎ (is_told (acked_slots stamp slots) entry.0 ≡ true)) some
  still_told [] all = tt
  still_told (entry ∷ some) all = (elim all.0 [ inl nothing ↦ inl nothing | inr told ↦ inr (told_acked stamp entry.0 slots ∙ told) ], still_told some all.1)

  -- nothing is left to do for it, if nothing was
  done_acked : has_made_room count (length slots) (length (acked_slots stamp slots)) ≡ false → IsDone count gone active what slots → IsDone count gone active what (acked_slots stamp slots)
  done_acked no_room done =
      let table = stays_acked count slots done.table stamp in
      record {
        table = table;
        none_gone = used_acked stamp gone slots ∙ done.none_gone;
        none_left = elim done.none_left [
          | inl none ↦ inl (still_full count slots (acked_slots stamp slots) done.table table no_room none)
          | inr all ↦ inr (still_told active all)
        ];
      }

-- ---- a train after an acknowledgement

module _ (plan : Plan) (stops : Stops) (limits : Limits) (train : TrainRec) (done : AreDone plan.horizon stops limits train) where
  done_raised : (stamp : ℕ) → AreDone plan.horizon stops limits (raised stamp train)
  done_raised stamp =
      elim (eqb stamp unknown_stamp) as (λ b. AreDone plan.horizon stops limits (cond b train (record train { stamp = max train.stamp stamp }))) [
        | true ↦ done
        | false ↦ record { stops = done.stops; limits = done.limits; due = done.due }
      ]

  done_stops_acked : (acked : ℕ) → has_made_room 15 (length train.stops) (length (acked_slots acked train.stops)) ≡ false → AreDone plan.horizon stops limits (record train { stops = acked_slots acked train.stops })
  done_stops_acked acked no_room = record {
    stops = done_acked acked 15 (is_stop_gone stops) stops.active (told_as train.place train.forced) train.stops no_room done.stops;
    limits = done.limits;
    due = elim done.due [
      | inl none ↦ inl (still_full 15 train.stops (acked_slots acked train.stops) done.stops.table (stays_acked 15 train.stops done.stops.table acked) no_room none)
      | inr none ↦ inr (none_due_from stops (acked_slots acked train.stops) (not_due_acked acked stops train.stops (each_not_due stops train.stops none)))
    ];
  }

  done_limits_acked : (acked : ℕ) → has_made_room 255 (length train.limits) (length (acked_slots acked train.limits)) ≡ false → AreDone plan.horizon stops limits (record train { limits = acked_slots acked train.limits })
  done_limits_acked acked no_room = record {
    stops = done.stops;
    limits = done_acked acked 255 (is_limit_gone limits train.place) limits.active (limit_as plan.horizon train.place) train.limits no_room done.limits;
    due = done.due;
  }

  -- a train that acknowledged a message
  AckedIfOk : Result TrainRec ℕ → Type 0
  AckedIfOk (Ok after) = (has_made_room 15 (length train.stops) (length after.stops) || has_made_room 255 (length train.limits) (length after.limits)) ≡ false → AreDone plan.horizon stops limits after
  AckedIfOk (Err code) = Unit

  done_limits_if : (acked : ℕ) → AckedIfOk (limits_acked acked train)
  unfolding AckedIfOk
  done_limits_if acked =
      elim (list_any (λ held. is_answered_by acked held.1) train.limits) as (λ b. AckedIfOk (option_map_or (λ slots. Ok (record train { limits = slots })) (cond b (Some (acked_slots acked train.limits)) None) (Err (code_of NothingToAcknowledge)))) [
        | true ↦ λ no_room. done_limits_acked acked (or_parts (has_made_room 15 (length train.stops) (length train.stops)) (has_made_room 255 (length train.limits) (length (acked_slots acked train.limits))) no_room).1
        | false ↦ tt
      ]

  done_if : (acked : ℕ) → AckedIfOk (acknowledged acked train)
  unfolding AckedIfOk
  done_if acked =
      elim (list_any (λ held. is_answered_by acked held.1) train.stops) as (λ b. AckedIfOk (option_map_or (λ slots. Ok (record train { stops = slots })) (cond b (Some (acked_slots acked train.stops)) None) (limits_acked acked train))) [
        | true ↦ λ no_room. done_stops_acked acked (or_parts (has_made_room 15 (length train.stops) (length (acked_slots acked train.stops))) (has_made_room 255 (length train.limits) (length train.limits)) no_room).0
        | false ↦ done_limits_if acked
      ]

  done_after_ack : (acked : ℕ) (after : TrainRec) → acknowledged acked train ≡ Ok after
      → (has_made_room 15 (length train.stops) (length after.stops) || has_made_room 255 (length train.limits) (length after.limits)) ≡ false → AreDone plan.horizon stops limits after
  unfolding AckedIfOk
  done_after_ack acked after is = subst AckedIfOk is (done_if acked)

-- what has fewer stamps left
fewer_taken : (more fewer : ℕ) (old new : List Action) → fewer ≤ more → take more old ≡ [] → (old ≡ [] → new ≡ []) → take fewer new ≡ []
fewer_taken more zero old new less none then = refl
fewer_taken zero (suc fewer) old new less none then = absurd (omega (arith, less))
fewer_taken (suc more) (suc fewer) [] new less none then = ap (take (suc fewer)) (then refl)
fewer_taken (suc more) (suc fewer) (action ∷ old) new less none then = absurd (not_empty action (take more old) none)

module _ (stamp : ℕ) (train : TrainRec) where
  -- a raised stamp is no less, and changes no table
  raised_stamp : train.stamp ≤ (raised stamp train).stamp
  raised_stamp = elim (eqb stamp unknown_stamp) as (λ b. train.stamp ≤ (cond b train (record train { stamp = max train.stamp stamp })).stamp) [ true ↦ omega arith | false ↦ omega arith ]

  raised_stops : (raised stamp train).stops ≡ train.stops
  raised_stops = elim (eqb stamp unknown_stamp) as (λ b. (cond b train (record train { stamp = max train.stamp stamp })).stops ≡ train.stops) [ true ↦ refl | false ↦ refl ]

  raised_limits : (raised stamp train).limits ≡ train.limits
  raised_limits = elim (eqb stamp unknown_stamp) as (λ b. (cond b train (record train { stamp = max train.stamp stamp })).limits ≡ train.limits) [ true ↦ refl | false ↦ refl ]

-- an acknowledgement changes no stamp
SameStampIfOk : ℕ → Result TrainRec ℕ → Type 0
SameStampIfOk stamp (Ok after) = after.stamp ≡ stamp
SameStampIfOk stamp (Err code) = Unit

same_stamp : (acked : ℕ) (train after : TrainRec) → acknowledged acked train ≡ Ok after → after.stamp ≡ train.stamp
unfolding SameStampIfOk
same_stamp acked train after is =
    subst (SameStampIfOk train.stamp) is
    (elim (list_any (λ held. is_answered_by acked held.1) train.stops) as (λ b. SameStampIfOk train.stamp (option_map_or (λ slots. Ok (record train { stops = slots })) (cond b (Some (acked_slots acked train.stops)) None) (limits_acked acked train))) [
      | true ↦ refl
      | false ↦ elim (list_any (λ held. is_answered_by acked held.1) train.limits) as (λ b. SameStampIfOk train.stamp (option_map_or (λ slots. Ok (record train { limits = slots })) (cond b (Some (acked_slots acked train.limits)) None) (Err (code_of NothingToAcknowledge)))) [
        | true ↦ refl
        | false ↦ tt
      ]
    ])

-- a message that is not refused for its stamp
not_too_high : (b : Bool) (rest : Result TrainRec ℕ) (after : TrainRec) → Ok after ≡ cond b (Err (code_of StampTooHigh)) rest → rest ≡ Ok after
not_too_high true rest after is = absurd (let bad : Ok after ≡ Err (code_of StampTooHigh) = is in cc)
not_too_high false rest after is = sym is

module _ (plan : Plan) (stops : Stops) (limits : Limits) (before : TrainRec) (tables : HasTables before) (numbered : AreNumbered stops) (none : actions_with_stamp plan stops limits before ≡ []) where
  none_acked : (stamp acked : ℕ) (after : TrainRec) → acknowledged acked (raised stamp before) ≡ Ok after
      → (has_made_room 15 (length before.stops) (length after.stops) || has_made_room 255 (length before.limits) (length after.limits)) ≡ false
      → actions_with_stamp plan stops limits after ≡ []
  none_acked stamp acked after is no_room =
      let same = same_stamp acked (raised stamp before) after is in
      let above = raised_stamp stamp before in
      let fewer : last_stamp - after.stamp ≤ last_stamp - before.stamp = omega (arith, same, above) in
      fewer_taken (last_stamp - before.stamp) (last_stamp - after.stamp) (actions plan stops limits before) (actions plan stops limits after) fewer none
      (λ nothing. no_actions plan stops limits after
      (done_after_ack plan stops limits (raised stamp before) (done_raised plan stops limits before (done_before plan stops limits before tables numbered nothing) stamp) acked after is
      ((λ i. has_made_room 15 (length (raised_stops stamp before i)) (length after.stops) || has_made_room 255 (length (raised_limits stamp before i)) (length after.limits)) ∙ no_room)))

  -- nothing is to be done to a train after a message by which nothing may have to be told
  pub none_after : (message : FromTrain) (after : TrainRec) → Ok after ≡ heard plan message before → may_be_told message before after ≡ false → actions_with_stamp plan stops limits after ≡ []
  none_after (Report stamp engine position) after is quiet = absurd (let bad : true ≡ false = quiet in cc)
  none_after (StopAck stamp engine id answer position) after is quiet = absurd (let bad : true ≡ false = quiet in cc)
  none_after (Ack stamp engine acked) after is quiet = none_acked stamp acked after (not_too_high (is_too_high stamp) (acknowledged acked (raised stamp before)) after is) quiet

-- so its outcome is its record alone
module _ (plan : Plan) (w : World) (message : FromTrain) (engine : ℕ) (before after : TrainRec) (well : IsWellFormed plan w) (found : Some before ≡ value_of w.trains engine)
    (is : Ok after ≡ heard plan message before) (quiet : may_be_told message before after ≡ false) where
  pub noted : (moved : List (Key × Option Rec)) (own : ℕ)
      → record { result = Done 0; writes = moved ++ (key.Train own, Some (rec.Train after)) ∷ []; messages = [] } ≡ heard_outcome plan w.stops w.limits own after moved
  noted moved own =
      let good : IsGoodTrain plan w.stops w.limits (engine, before) = All-value_of (IsGoodTrain plan w.stops w.limits) engine before w.trains well.trains (sym found) in
      let none = none_after plan w.stops w.limits before good.well_formed.tables well.stops.numbered good.settled message after is quiet in
      let sent : [] ≡ messages_of plan w.stops w.limits after = sym (ap (λ (acts : List Action). scan carried_out message_of after acts) none) in
      let same : after ≡ settled plan w.stops w.limits after = sym (ap (λ (acts : List Action). fold carried_out after acts) none) in
      λ i. record {
        result = Done (length (sent i));
        writes = moved ++ (key.Train own, Some (rec.Train (same i))) ∷ [];
        messages = to_engine after.engine (sent i);
      }
