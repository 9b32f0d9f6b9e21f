-- What waits at a train that is up to date waits for want of an identifier.
use Rattle.std.proofs.Common.{◌≡◌, ◌⊎◌, ℕ, ◌≤◌, Bool, true, false, ◌==◌, ◌&&◌, ◌||◌, cond, if◌then◌else◌, List, [], ◌∷◌, ◌++◌, length, Option, Some, None, is_some, option_map, refl, sym, ap, ◌∙◌, subst, inl, inr}
use Rattle.std.specs.List.{filter, fold, list_any, All, AllByRecursion}
use Rattle.std.proofs.lemmas.Bool.{eq-eqb, eqb-true, and_parts, or_right}
use Rattle.std.proofs.lemmas.List.Elements.{All-from_recursion, recursion_from_All, All-nil, All-cons, All-append, All-map, All-weaker}
use Rattle.rbc_track.specs.Plan.{Plan}
use Rattle.rbc_maps.specs.Maps.{has}
use Rattle.rbc_ids.specs.declared.slot.Slot.{Slot}
use Rattle.rbc_ids.specs.declared.slot.Slot.TheVariants.{Used, Revoking}
use Rattle.rbc_ids.specs.Table.{Slots, is_told, is_ripe, tells}
use Rattle.rbc_zones.specs.declared.segment.Segment.{Segment}
use Rattle.rbc_zones.specs.declared.stop_meaning.Concern.{Concern}
use Rattle.rbc_zones.specs.declared.stop_meaning.Concern.TheVariants as concern
use Rattle.rbc_zones.specs.Limits.{Limit}
use Rattle.rbc_settle.specs.declared.train.TrainRec.{TrainRec}
use Rattle.rbc_settle.specs.declared.change.ToldStop.{ToldStop}
use Rattle.rbc_settle.specs.Actions.{Action}
use Rattle.rbc_settle.specs.Settling.{Stops, Limits, last_stamp, carried_out, settled, actions_with_stamp, told_stop, concern_to, stop_to_tell, limit_to_tell, due_number}
use Rattle.rbc_settle.proofs.ToTell.{stop_told_already, limit_told_already}
use Rattle.rbc_settle.specs.UpToDate.{IsToldIfItCan, IsLimitToldIfItCan, IsUpToDateOrAtTheEnd}
use Rattle.rbc_settle.proofs.Achieves.{up_to_date}
use Rattle.rbc_settle.proofs.NothingLeft.{told_as_nothing}
use Rattle.rbc_settle.proofs.OneLine.{untold_limit}
use Rattle.rbc_rule.specs.WellFormed.{IsGoodTrain}
use Rattle.rbc_live.specs.declared.waiting.Waiting.{Waiting}
use Rattle.rbc_live.specs.declared.waiting.Waits.TheVariants.{Stop, Restriction, Again}
use Rattle.rbc_live.specs.declared.waiting.Cause.TheVariants.{NoIdentifier, NoStamp}
use Rattle.rbc_live.specs.Waits.{stop_waits, limit_waits, is_due, stop_cause, limit_cause, waiting_stop, waiting_limit, waiting_again, stops_waiting, limits_waiting, stops_due, all_waiting}
use Rattle.rbc_live.specs.Causes.{IsCauseOf, EachCauseIsTrue}

-- ---- lists

-- what passes a test has what each has that passes it
passing : {X : Type 0} (p : X → Bool) (P : X → Type 0) (xs : List X) → AllByRecursion (λ x. p x ≡ true → P x) xs → AllByRecursion P (filter p xs)
passing p P [] all = tt
passing p P (x ∷ xs) all =
    (elim (p x) as (λ b. p x ≡ b → AllByRecursion P (cond b (x ∷ filter p xs) (filter p xs))) [
      | true ↦ λ e. (all.0 e, passing p P xs all.1)
      | false ↦ λ e. passing p P xs all.1
    ]) refl

any_of : {X : Type 0} (P : X → Type 0) → ((x : X) → P x) → (xs : List X) → AllByRecursion P xs
any_of P each [] = tt
any_of P each (x ∷ xs) = (each x, any_of P each xs)

-- a list has each number of its pairs
each_there : {V : Type 0} (pairs : List (ℕ × V)) → All (λ pair. has pairs pair.0 ≡ true) pairs
each_there [] = All-nil _
each_there (pair ∷ pairs) =
    All-cons (λ other. has (pair ∷ pairs) other.0 ≡ true) pair pairs
    (ap (λ b. b || has pairs pair.0) (eq-eqb pair.0 pair.0 refl))
    (All-weaker (λ other. has pairs other.0 ≡ true) (λ other. has (pair ∷ pairs) other.0 ≡ true) (λ other there. or_right (pair.0 == other.0) (has pairs other.0) there) pairs (each_there pairs))

-- ---- a cause is true

not_full : (held count stamp : ℕ) → (held == count) ≡ false → (held ≡ count) ⊎ (last_stamp ≤ stamp) → last_stamp ≤ stamp
not_full held count stamp e h = elim h [
  | inl full ↦ absurd (let bad : false ≡ true = sym e ∙ eq-eqb held count full in cc)
  | inr ended ↦ ended
]

stop_cause_is : (train : TrainRec) (number : ℕ) → (length train.stops ≡ 15) ⊎ (last_stamp ≤ train.stamp) → IsCauseOf train (Stop number) (stop_cause train)
stop_cause_is train number h =
    (elim (length train.stops == 15) as (λ b. (length train.stops == 15) ≡ b → IsCauseOf train (Stop number) (cond b NoIdentifier NoStamp)) [
      | true ↦ λ e. eqb-true (length train.stops) 15 e
      | false ↦ λ e. not_full (length train.stops) 15 train.stamp e h
    ]) refl

again_cause_is : (train : TrainRec) (number : ℕ) → (length train.stops ≡ 15) ⊎ (last_stamp ≤ train.stamp) → IsCauseOf train (Again number) (stop_cause train)
again_cause_is train number h =
    (elim (length train.stops == 15) as (λ b. (length train.stops == 15) ≡ b → IsCauseOf train (Again number) (cond b NoIdentifier NoStamp)) [
      | true ↦ λ e. eqb-true (length train.stops) 15 e
      | false ↦ λ e. not_full (length train.stops) 15 train.stamp e h
    ]) refl

limit_cause_is : (train : TrainRec) (number : ℕ) → (length train.limits ≡ 255) ⊎ (last_stamp ≤ train.stamp) → IsCauseOf train (Restriction number) (limit_cause train)
limit_cause_is train number h =
    (elim (length train.limits == 255) as (λ b. (length train.limits == 255) ≡ b → IsCauseOf train (Restriction number) (cond b NoIdentifier NoStamp)) [
      | true ↦ λ e. eqb-true (length train.limits) 255 e
      | false ↦ λ e. not_full (length train.limits) 255 train.stamp e h
    ]) refl

-- ---- what waits though it could be told

both_none : {A : Type 0} (b : Bool) → cond {A = Option A} b None None ≡ None
both_none true = refl
both_none false = refl

nothing_to_tell : (train : TrainRec) (stop : ℕ × List Segment) → concern_to train stop ≡ concern.None → stop_to_tell train stop ≡ None
nothing_to_tell train stop none =
    ap (λ (c : Concern). if is_told train.stops stop.0 then None else option_map (λ (told : ToldStop). (stop.0, told)) (told_stop train.place c)) none
    ∙ ap (λ (told : Option ToldStop). if is_told train.stops stop.0 then None else option_map (λ (told : ToldStop). (stop.0, told)) told) (told_as_nothing train.place)
    ∙ both_none (is_told train.stops stop.0)

pub none_waits : {A : Type 0} (found : Option A) → found ≡ None → is_some found ≡ true → ⊥
none_waits None e waits = absurd (cc waits)
none_waits (Some x) e waits = absurd (cc e)

stop_full : (train : TrainRec) (stop : ℕ × List Segment) → IsToldIfItCan train stop → stop_waits train stop ≡ true → length train.stops ≡ 15
stop_full train stop told waits = elim told [
  | inl none ↦ absurd (none_waits (stop_to_tell train stop) (nothing_to_tell train stop none) waits)
  | inr rest ↦ elim rest [
    | inl is ↦ absurd (none_waits (stop_to_tell train stop) (stop_told_already train stop is) waits)
    | inr full ↦ full
  ]
]

limit_full : (horizon : ℕ) (train : TrainRec) (limit : ℕ × Limit) → IsLimitToldIfItCan horizon train limit → limit_waits horizon train limit ≡ true → length train.limits ≡ 255
limit_full horizon train limit told waits = elim told [
  | inl none ↦ absurd (none_waits (limit_to_tell horizon train limit) (untold_limit horizon train limit none) waits)
  | inr rest ↦ elim rest [
    | inl is ↦ absurd (none_waits (limit_to_tell horizon train limit) (limit_told_already horizon train limit is) waits)
    | inr full ↦ full
  ]
]

-- ---- what is due though it could be escalated

due_there : (stops : Stops) (n : ℕ) (slot : Slot) → has stops.active n ≡ true → (is_ripe slot && tells n slot) ≡ true → due_number stops slot ≡ None → ⊥
due_there stops n (Used used) there both none =
    let parts = and_parts (is_ripe (Used used)) (tells n (Used used)) both in
    let same : used.number ≡ n = eqb-true used.number n parts.1 in
    let some : due_number stops (Used used) ≡ Some used.number =
    ap (λ b. if b && has stops.active used.number then Some used.number else None) parts.0
    ∙ ap (λ b. if b then Some used.number else None) (ap (has stops.active) same ∙ there) in
    let bad : Some used.number ≡ None = sym some ∙ none in
    cc
due_there stops n (Revoking stamp) there both none = cc

none_due : (stops : Stops) (n : ℕ) (slots : Slots) → AllByRecursion (λ held. due_number stops held.1 ≡ None) slots → has stops.active n ≡ true
    → list_any (λ held. is_ripe held.1 && tells n held.1) slots ≡ true → ⊥
none_due stops n [] none there any = cc
none_due stops n (held ∷ slots) none there any =
    (elim (is_ripe held.1 && tells n held.1) as (λ b. (is_ripe held.1 && tells n held.1) ≡ b → (b || list_any (λ held. is_ripe held.1 && tells n held.1) slots) ≡ true → ⊥) [
      | true ↦ λ both any. due_there stops n held.1 there both none.0
      | false ↦ λ both any. none_due stops n slots none.1 there any
    ]) refl any

-- ---- one train

module _ (plan : Plan) (stops : Stops) (limits : Limits) (train : TrainRec) where
  abbrev IsTrue_ : Waiting → Type 0
  IsTrue_ waiting = IsCauseOf train waiting.what waiting.cause

  abbrev StopIs : ℕ × List Segment → Type 0
  StopIs stop = IsCauseOf train (Stop stop.0) (stop_cause train)

  abbrev LimitIs : ℕ × Limit → Type 0
  LimitIs limit = IsCauseOf train (Restriction limit.0) (limit_cause train)

  abbrev AgainIs : ℕ × List Segment → Type 0
  AgainIs stop = IsCauseOf train (Again stop.0) (stop_cause train)

  together : AllByRecursion (λ stop. stop_waits train stop ≡ true → StopIs stop) stops.active
      → AllByRecursion (λ limit. limit_waits plan.horizon train limit ≡ true → LimitIs limit) limits.active
      → AllByRecursion (λ stop. is_due train stop.0 ≡ true → AgainIs stop) stops.active
      → All IsTrue_ (all_waiting plan.horizon stops.active limits.active train)
  together each_stop each_limit each_again =
      All-append IsTrue_ (stops_waiting stops.active train ++ limits_waiting plan.horizon limits.active train) (stops_due stops.active train)
      (All-append IsTrue_ (stops_waiting stops.active train) (limits_waiting plan.horizon limits.active train)
      (All-map IsTrue_ (λ stop. waiting_stop train stop.0) (filter (stop_waits train) stops.active)
      (All-from_recursion StopIs (filter (stop_waits train) stops.active) (passing (stop_waits train) StopIs stops.active each_stop)))
      (All-map IsTrue_ (λ limit. waiting_limit train limit.0) (filter (limit_waits plan.horizon train) limits.active)
      (All-from_recursion LimitIs (filter (limit_waits plan.horizon train) limits.active) (passing (limit_waits plan.horizon train) LimitIs limits.active each_limit))))
      (All-map IsTrue_ (λ stop. waiting_again train stop.0) (filter (λ stop. is_due train stop.0) stops.active)
      (All-from_recursion AgainIs (filter (λ stop. is_due train stop.0) stops.active) (passing (λ stop. is_due train stop.0) AgainIs stops.active each_again)))

  causes : IsUpToDateOrAtTheEnd plan stops limits train → All IsTrue_ (all_waiting plan.horizon stops.active limits.active train)
  causes h = elim h [
    | inl ended ↦ together
        (any_of (λ stop. stop_waits train stop ≡ true → StopIs stop) (λ stop waits. stop_cause_is train stop.0 (inr ended)) stops.active)
        (any_of (λ limit. limit_waits plan.horizon train limit ≡ true → LimitIs limit) (λ limit waits. limit_cause_is train limit.0 (inr ended)) limits.active)
        (any_of (λ stop. is_due train stop.0 ≡ true → AgainIs stop) (λ stop due. again_cause_is train stop.0 (inr ended)) stops.active)
    | inr up ↦ together
        (recursion_from_All (λ stop. stop_waits train stop ≡ true → StopIs stop) stops.active
        (All-weaker (IsToldIfItCan train) (λ stop. stop_waits train stop ≡ true → StopIs stop) (λ stop told waits. stop_cause_is train stop.0 (inl (stop_full train stop told waits))) stops.active up.told))
        (recursion_from_All (λ limit. limit_waits plan.horizon train limit ≡ true → LimitIs limit) limits.active
        (All-weaker (IsLimitToldIfItCan plan.horizon train) (λ limit. limit_waits plan.horizon train limit ≡ true → LimitIs limit) (λ limit told waits. limit_cause_is train limit.0 (inl (limit_full plan.horizon train limit told waits))) limits.active up.limits_told))
        (elim up.none_due [
          | inl none ↦
              recursion_from_All (λ stop. is_due train stop.0 ≡ true → AgainIs stop) stops.active
              (All-weaker (λ stop. has stops.active stop.0 ≡ true) (λ stop. is_due train stop.0 ≡ true → AgainIs stop)
              (λ stop there due. absurd (none_due stops stop.0 train.stops (recursion_from_All (λ held. due_number stops held.1 ≡ None) train.stops none) there due))
              stops.active (each_there stops.active))
          | inr full ↦ any_of (λ stop. is_due train stop.0 ≡ true → AgainIs stop) (λ stop due. again_cause_is train stop.0 (inl full)) stops.active
        ])
  ]

-- a train for which nothing is left to do is as it is after it is settled
settled_is : (plan : Plan) (stops : Stops) (limits : Limits) (train : TrainRec) → actions_with_stamp plan stops limits train ≡ [] → settled plan stops limits train ≡ train
settled_is plan stops limits train none = ap (λ (acts : List Action). fold carried_out train acts) none

pub each_cause_is_true : EachCauseIsTrue
each_cause_is_true plan w h =
    All-weaker (IsGoodTrain plan w.stops w.limits)
    (λ train. All (λ waiting. IsCauseOf train.1 waiting.what waiting.cause) (all_waiting plan.horizon w.stops.active w.limits.active train.1))
    (λ train good. causes plan w.stops w.limits train.1
    (subst (λ (after : TrainRec). IsUpToDateOrAtTheEnd plan w.stops w.limits after) (settled_is plan w.stops w.limits train.1 good.settled)
    (up_to_date plan w.stops w.limits train.1 good.well_formed.tables h.stops.numbered h.limits.numbered)))
    w.trains h.trains
