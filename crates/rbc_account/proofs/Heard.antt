-- What a train is told after its message was told to it before, under the same identifier.
use Rattle.std.proofs.Common.{◌≡◌, ℕ, ◌+◌, max, Bool, true, false, cond, eqb, leb, [], ◌∷◌, Option, Some, None, option_map, option_and_then, Result, Ok, Err, refl, sym, ap, ◌∙◌, subst, arith, inl, inr}
use Rattle.std.specs.List.{cons_option, list_any}
use Rattle.std.specs.Option.{option_map_or}
use Rattle.std.proofs.lemmas.Bool.{cases_Bool, and_parts, eqb-true}
use Rattle.ertms_codec.specs.declared.from_train.FromTrain.{FromTrain}
use Rattle.ertms_codec.specs.declared.from_train.FromTrain.TheVariants.{Report, Ack, StopAck}
use Rattle.rbc_track.specs.Plan.{Plan}
use Rattle.rbc_maps.specs.Maps.{value_of, with_value, without, keys, rises_from}
use Rattle.rbc_maps.proofs.MapPlaces.{absent_below}
use Rattle.rbc_maps.proofs.MapValues.{value_of-absent}
use Rattle.rbc_ids.specs.declared.slot.Slot.{Slot}
use Rattle.rbc_ids.specs.declared.slot.Slot.TheVariants.{Used, Revoking}
use Rattle.rbc_ids.specs.declared.slot.UsedSlot.{UsedSlot}
use Rattle.rbc_ids.specs.Table.{Slots, marked, reported_slot, after_report, is_answered_by, acked_slots, is_acceptance, is_rejection, acked_by_id}
use Rattle.rbc_settle.specs.declared.train.TrainRec.{TrainRec}
use Rattle.rbc_settle.specs.WellFormed.{number_in}
use Rattle.rbc_settle.specs.UpToDate.{HasTables}
use Rattle.rbc_rule.specs.Codes.{code_of}
use Rattle.rbc_rule.specs.declared.refuse.Refusal.TheVariants.{StampTooHigh, NothingToAcknowledge}
use Rattle.rbc_rule.specs.Effect.{unknown_stamp, is_too_high, raised, placed, limits_acked, acknowledged, stop_acked, answered, told_by, stamp_of, heard}
use Rattle.rbc_rule.proofs.WorldMaps.{value_of-with_value, value_of-without}
use Rattle.rbc_live.specs.Known.{number_under}
use Rattle.rbc_rule_laws.proofs.KeepsSlots.{reported_number}

-- what is told under an identifier was told under it
abbrev pub WasUnder : Slots → Slots → Type 0
WasUnder old new = (id n : ℕ) → number_under new id ≡ Some n → number_under old id ≡ Some n

pub not_some : {A : Type 0} (x : A) → None ≡ Some x → ⊥
not_some x e = cc

-- the number of a slot, if there is one
abbrev number_of : Option Slot → Option ℕ
number_of found = option_and_then (λ slot. number_in slot) found

-- ---- after a report

as_reported : (slots : Slots) (id : ℕ) → number_under (after_report slots) id ≡ number_under slots id
as_reported [] id = refl
as_reported (held ∷ slots) id =
    elim (eqb held.0 id) as (λ b. number_of (cond b (Some (reported_slot held.1)) (value_of (after_report slots) id)) ≡ number_of (cond b (Some held.1) (value_of slots id))) [
      | true ↦ reported_number held.1
      | false ↦ as_reported slots id
    ]

was_reported : (slots : Slots) → WasUnder slots (after_report slots)
was_reported slots id n under = sym (as_reported slots id) ∙ under

-- ---- after the acknowledgement of a message

-- what is told behind a slot is told beside it
past : (id n : ℕ) (held : ℕ × Slot) (slots : Slots) → rises_from (held.0 + 1) (keys slots) ≡ true → number_under slots id ≡ Some n → number_under (held ∷ slots) id ≡ Some n
past id n held slots rises under = elim (cases_Bool (eqb held.0 id)) [
  | inl same ↦
      let is : held.0 ≡ id = eqb-true held.0 id same in
      let absent : value_of slots id ≡ None = value_of-absent id slots (absent_below id (held.0 + 1) slots (omega (arith, is)) rises) in
      absurd (not_some n (sym (ap number_of absent) ∙ under))
  | inr other ↦ ap (λ (b : Bool). number_of (cond b (Some held.1) (value_of slots id))) other ∙ under
]

-- what is told where a slot is left as one with the same number was told where it was
beside : (id n key : ℕ) (old new : Slot) (before after : Slots) → number_in new ≡ number_in old → (number_under after id ≡ Some n → number_under before id ≡ Some n)
    → number_under ((key, new) ∷ after) id ≡ Some n → number_under ((key, old) ∷ before) id ≡ Some n
beside id n key old new before after same rest =
    elim (eqb key id) as (λ b. number_of (cond b (Some new) (value_of after id)) ≡ Some n → number_of (cond b (Some old) (value_of before id)) ≡ Some n) [
      | true ↦ λ e. sym same ∙ e
      | false ↦ rest
    ]

number_marked : (b : Bool) (used : UsedSlot) → number_in (cond b (marked used) (Used used)) ≡ Some used.number
number_marked true used = refl
number_marked false used = refl

was_acked : (stamp least : ℕ) (slots : Slots) → rises_from least (keys slots) ≡ true → WasUnder slots (acked_slots stamp slots)
was_acked stamp least [] rises id n under = under
was_acked stamp least ((key, Used used) ∷ slots) rises id n under =
    let parts = and_parts (leb least key) (rises_from (key + 1) (keys slots)) rises in
    let new : Slot = cond (is_answered_by stamp (Used used)) (marked used) (Used used) in
    beside id n key (Used used) new slots (acked_slots stamp slots) (number_marked (is_answered_by stamp (Used used)) used) (was_acked stamp (key + 1) slots parts.1 id n) under
was_acked stamp least ((key, Revoking own) ∷ slots) rises id n under =
    let parts = and_parts (leb least key) (rises_from (key + 1) (keys slots)) rises in
    let rest = was_acked stamp (key + 1) slots parts.1 id n in
    (elim (eqb own stamp) as (λ b. number_under (cons_option (option_map {U = ℕ × Slot} (λ slot. (key, slot)) (cond {A = Option Slot} b None (Some (Revoking own)))) (acked_slots stamp slots)) id ≡ Some n
    → number_under ((key, Revoking own) ∷ slots) id ≡ Some n) [
      | true ↦ λ e. past id n (key, Revoking own) slots parts.1 (rest e)
      | false ↦ λ e. beside id n key (Revoking own) (Revoking own) slots (acked_slots stamp slots) refl rest e
    ]) under

-- ---- after the answer to a stop

was_marked : (slots : Slots) (id : ℕ) (used : UsedSlot) → value_of slots id ≡ Some (Used used) → WasUnder slots (with_value id (marked used) slots)
was_marked slots id used there k n under =
    let value = value_of-with_value id (marked used) slots k in
    elim (cases_Bool (eqb id k)) [
      | inl same ↦
          let number : Some used.number ≡ Some n = sym (ap number_of (value ∙ ap (λ (b : Bool). cond b (Some (marked used)) (value_of slots k)) same)) ∙ under in
          subst (λ (key : ℕ). number_under slots key ≡ Some n) (eqb-true id k same) (ap number_of there ∙ number)
      | inr other ↦ sym (ap number_of (value ∙ ap (λ (b : Bool). cond b (Some (marked used)) (value_of slots k)) other)) ∙ under
    ]

was_without : (slots : Slots) (id : ℕ) → WasUnder slots (without id slots)
was_without slots id k n under =
    let value = value_of-without id slots k in
    elim (cases_Bool (eqb id k)) [
      | inl same ↦ absurd (not_some n (sym (ap number_of (value ∙ ap (λ (b : Bool). cond b None (value_of slots k)) same)) ∙ under))
      | inr other ↦ sym (ap number_of (value ∙ ap (λ (b : Bool). cond b None (value_of slots k)) other)) ∙ under
    ]

-- ---- after a message

-- the same for a train, in both tables, where its message is not refused
abbrev pub WasToldIfOk : TrainRec → Result TrainRec ℕ → Type 0
WasToldIfOk old (Ok new) = WasUnder old.stops new.stops × WasUnder old.limits new.limits
WasToldIfOk old (Err code) = Unit

unchanged : (slots : Slots) → WasUnder slots slots
unchanged slots id n under = under

module _ (old now : TrainRec) (stops : now.stops ≡ old.stops) (limits : now.limits ≡ old.limits) where
  by_tables : (new : TrainRec) → WasUnder now.stops new.stops → WasUnder now.limits new.limits → WasUnder old.stops new.stops × WasUnder old.limits new.limits
  by_tables new first second = (
    subst (λ (slots : Slots). WasUnder slots new.stops) stops first,
    subst (λ (slots : Slots). WasUnder slots new.limits) limits second,
  )

  by_report : WasToldIfOk old (Ok (record now { stops = after_report now.stops }))
  by_report = by_tables (record now { stops = after_report now.stops }) (was_reported now.stops) (unchanged now.limits)

  by_ack : (acked : ℕ) → rises_from 0 (keys now.stops) ≡ true → rises_from 0 (keys now.limits) ≡ true → WasToldIfOk old (acknowledged acked now)
  by_ack acked first second =
      elim (list_any (λ held. is_answered_by acked held.1) now.stops) as (λ b. WasToldIfOk old (option_map_or (λ slots. Ok (record now { stops = slots })) (cond b (Some (acked_slots acked now.stops)) None) (limits_acked acked now))) [
        | true ↦ by_tables (record now { stops = acked_slots acked now.stops }) (was_acked acked 0 now.stops first) (unchanged now.limits)
        | false ↦ elim (list_any (λ held. is_answered_by acked held.1) now.limits) as (λ b. WasToldIfOk old (option_map_or (λ slots. Ok (record now { limits = slots })) (cond b (Some (acked_slots acked now.limits)) None) (Err (code_of NothingToAcknowledge)))) [
          | true ↦ by_tables (record now { limits = acked_slots acked now.limits }) (unchanged now.stops) (was_acked acked 0 now.limits second)
          | false ↦ tt
        ]
      ]

  by_answer : (id answer : ℕ) → WasToldIfOk old (answered id answer now)
  by_answer id answer = of_slot (value_of now.stops id) refl
    where
      of_slot : (found : Option Slot) → value_of now.stops id ≡ found
          → WasToldIfOk old (option_map_or (λ slots. Ok (stop_acked id answer now slots)) (acked_by_id now.stops id answer found) (Err (code_of NothingToAcknowledge)))
      of_slot None is = tt
      of_slot (Some (Revoking stamp)) is = tt
      of_slot (Some (Used used)) is =
          elim (is_acceptance used.kind answer) as (λ b. WasToldIfOk old (option_map_or (λ slots. Ok (stop_acked id answer now slots))
          (cond b (Some (with_value id (marked used) now.stops)) (cond (is_rejection used.kind answer) (Some (without id now.stops)) None)) (Err (code_of NothingToAcknowledge)))) [
            | true ↦ by_tables (stop_acked id answer now (with_value id (marked used) now.stops)) (was_marked now.stops id used is) (unchanged now.limits)
            | false ↦ elim (is_rejection used.kind answer) as (λ b. WasToldIfOk old (option_map_or (λ slots. Ok (stop_acked id answer now slots)) (cond b (Some (without id now.stops)) None) (Err (code_of NothingToAcknowledge)))) [
              | true ↦ by_tables (stop_acked id answer now (without id now.stops)) (was_without now.stops id) (unchanged now.limits)
              | false ↦ tt
            ]
          ]

raised_stops : (stamp : ℕ) (train : TrainRec) → (raised stamp train).stops ≡ train.stops
raised_stops stamp train = elim (eqb stamp unknown_stamp) as (λ b. (cond b train (record train { stamp = max train.stamp stamp })).stops ≡ train.stops) [ true ↦ refl | false ↦ refl ]

raised_limits : (stamp : ℕ) (train : TrainRec) → (raised stamp train).limits ≡ train.limits
raised_limits stamp train = elim (eqb stamp unknown_stamp) as (λ b. (cond b train (record train { stamp = max train.stamp stamp })).limits ≡ train.limits) [ true ↦ refl | false ↦ refl ]

was_told : (plan : Plan) (one : FromTrain) (train : TrainRec) → HasTables train → WasToldIfOk train (told_by plan one train)
was_told plan (Report stamp engine position) train tables = by_report train (placed plan position (raised stamp train)) (raised_stops stamp train) (raised_limits stamp train)
was_told plan (Ack stamp engine acked) train tables =
    by_ack train (raised stamp train) (raised_stops stamp train) (raised_limits stamp train) acked
    (subst (λ (slots : Slots). rises_from 0 (keys slots) ≡ true) (sym (raised_stops stamp train)) tables.stops.ascending)
    (subst (λ (slots : Slots). rises_from 0 (keys slots) ≡ true) (sym (raised_limits stamp train)) tables.limits.ascending)
was_told plan (StopAck stamp engine id answer position) train tables =
    by_answer train (placed plan position (raised stamp train)) (raised_stops stamp train) (raised_limits stamp train) id answer

pub heard_told : (plan : Plan) (one : FromTrain) (train : TrainRec) → HasTables train → WasToldIfOk train (heard plan one train)
heard_told plan one train tables = elim (is_too_high (stamp_of one)) as (λ b. WasToldIfOk train (cond b (Err (code_of StampTooHigh)) (told_by plan one train))) [
  | true ↦ tt
  | false ↦ was_told plan one train tables
]
