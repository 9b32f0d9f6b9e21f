-- Each alarm has its reason, and nothing that concerns a train is missed.
use Rattle.std.proofs.Common.{◌≡◌, ◌⊎◌, ℕ, Bool, true, false, ◌==◌, ◌&&◌, ◌||◌, cond, if◌then◌else◌, List, [], ◌∷◌, ◌++◌, map, Option, Some, None, is_some, option_map, refl, ap, ◌∙◌, inl, inr}
use Rattle.std.specs.List.{filter, list_any, All, AllByRecursion}
use Rattle.std.proofs.lemmas.Bool.{eq-eqb, or_right, or_left}
use Rattle.std.proofs.lemmas.List.Elements.{All-from_recursion, All-nil, All-cons, All-append, All-map, All-weaker}
use Rattle.rbc_place.specs.Placing.{Place}
use Rattle.rbc_zones.specs.declared.segment.Segment.{Segment}
use Rattle.rbc_zones.specs.declared.stop_meaning.Concern.{Concern}
use Rattle.rbc_zones.specs.declared.stop_meaning.Concern.TheVariants as concern
use Rattle.rbc_zones.specs.Limits.{Limit}
use Rattle.rbc_ids.specs.Table.{is_told}
use Rattle.rbc_settle.specs.declared.train.TrainRec.{TrainRec}
use Rattle.rbc_settle.specs.declared.change.ToldStop.{ToldStop}
use Rattle.rbc_settle.specs.Told.{Part}
use Rattle.rbc_settle.specs.Settling.{concern_to, limit_told_to, told_stop}
use Rattle.rbc_live.specs.declared.alarm.Alarm.{Alarm}
use Rattle.rbc_live.specs.declared.alarm.Alarm.TheVariants.{NoPlace, Untold}
use Rattle.rbc_live.specs.declared.waiting.Waiting.{Waiting}
use Rattle.rbc_live.specs.declared.waiting.Waits.{Waits}
use Rattle.rbc_live.specs.declared.waiting.Waits.TheVariants.{Stop, Restriction, Again}
use Rattle.rbc_live.specs.declared.waiting.Cause.{Cause}
use Rattle.rbc_live.specs.declared.waiting.Cause.TheVariants.{NoIdentifier, NoStamp}
use Rattle.rbc_live.specs.Waits.{all_waiting, limit_waits, limits_waiting, stop_waits, stops_due, stops_waiting, waiting_limit, waiting_stop}
use Rattle.rbc_live.specs.Causes.{IsCauseOf}
use Rattle.rbc_live.specs.Alarms.{alarms_at, place_alarm, rank, same_alarm}
use Rattle.rbc_live.specs.AlarmLaws.{EachAlarmHasReason, HasReason, IsLimitToldOrAlarmed, IsStopToldOrAlarmed, NothingIsEverMissed, is_among}
use Rattle.rbc_live.proofs.Causing.{each_cause_is_true}

-- ---- reasons

of_cause : (train : TrainRec) (what : Waits) (cause : Cause) → IsCauseOf train what cause → HasReason train (Untold what)
of_cause train (Stop number) NoIdentifier is = inl is
of_cause train (Restriction number) NoIdentifier is = inl is
of_cause train (Again number) NoIdentifier is = inl is
of_cause train (Stop number) NoStamp is = inr is
of_cause train (Restriction number) NoStamp is = inr is
of_cause train (Again number) NoStamp is = inr is

of_place : (train : TrainRec) (place : Option Place) → train.place ≡ place → All (HasReason train) (place_alarm place)
of_place train None is = All-cons (HasReason train) NoPlace [] is (All-nil _)
of_place train (Some p) is = All-nil _

pub each_alarm_has_reason : EachAlarmHasReason
each_alarm_has_reason plan w good =
    All-weaker (λ (train : ℕ × TrainRec). All (λ waiting. IsCauseOf train.1 waiting.what waiting.cause) (all_waiting plan.horizon w.stops.active w.limits.active train.1))
    (λ (train : ℕ × TrainRec). All (HasReason train.1) (alarms_at plan.horizon w.stops.active w.limits.active train.1))
    (λ train causes.
    All-append (HasReason train.1) (place_alarm train.1.place) (map (λ (waiting : Waiting). Untold waiting.what) (all_waiting plan.horizon w.stops.active w.limits.active train.1))
    (of_place train.1 train.1.place refl)
    (All-map (HasReason train.1) (λ (waiting : Waiting). Untold waiting.what) (all_waiting plan.horizon w.stops.active w.limits.active train.1)
    (All-weaker (λ (waiting : Waiting). IsCauseOf train.1 waiting.what waiting.cause) (λ (waiting : Waiting). HasReason train.1 (Untold waiting.what))
    (λ waiting is. of_cause train.1 waiting.what waiting.cause is) (all_waiting plan.horizon w.stops.active w.limits.active train.1) causes)))
    w.trains (each_cause_is_true plan w good)

-- ---- nothing is missed

same_as_itself : (alarm : Alarm) → same_alarm alarm alarm ≡ true
same_as_itself alarm = ap (λ b. b && ((rank alarm).1 == (rank alarm).1)) (eq-eqb (rank alarm).0 (rank alarm).0 refl) ∙ eq-eqb (rank alarm).1 (rank alarm).1 refl

any_behind : {X : Type 0} (test : X → Bool) (xs ys : List X) → list_any test ys ≡ true → list_any test (xs ++ ys) ≡ true
any_behind test [] ys is = is
any_behind test (x ∷ xs) ys is = or_right (test x) (list_any test (xs ++ ys)) (any_behind test xs ys is)

any_before : {X : Type 0} (test : X → Bool) (xs ys : List X) → list_any test xs ≡ true → list_any test (xs ++ ys) ≡ true
any_before test [] ys is = absurd (let bad : false ≡ true = is in cc)
any_before test (x ∷ xs) ys is =
    (elim (test x) as (λ b. (b || list_any test xs) ≡ true → (b || list_any test (xs ++ ys)) ≡ true) [
      | true ↦ λ e. refl
      | false ↦ λ e. any_before test xs ys e
    ]) is

any_of_map : {X Y : Type 0} (test : Y → Bool) (f : X → Y) (xs : List X) → list_any (λ x. test (f x)) xs ≡ true → list_any test (map f xs) ≡ true
any_of_map test f [] is = is
any_of_map test f (x ∷ xs) is =
    (elim (test (f x)) as (λ b. (b || list_any (λ y. test (f y)) xs) ≡ true → (b || list_any test (map f xs)) ≡ true) [
      | true ↦ λ e. refl
      | false ↦ λ e. any_of_map test f xs e
    ]) is

-- each that passes a test is found among those that pass, by the alarm that it leads to
each_found : {X : Type 0} (passes : X → Bool) (to_alarm : X → Alarm) (xs : List X) → AllByRecursion (λ x. passes x ≡ true → list_any (λ y. same_alarm (to_alarm y) (to_alarm x)) (filter passes xs) ≡ true) xs
each_found passes to_alarm [] = tt
each_found {X} passes to_alarm (x ∷ xs) =
    (elim (passes x) as (λ b. passes x ≡ b
    → (b ≡ true → list_any (λ y. same_alarm (to_alarm y) (to_alarm x)) (cond b (x ∷ filter passes xs) (filter passes xs)) ≡ true)
    × AllByRecursion (λ z. passes z ≡ true → list_any (λ y. same_alarm (to_alarm y) (to_alarm z)) (cond b (x ∷ filter passes xs) (filter passes xs)) ≡ true) xs) [
      | true ↦ λ e. (
        λ is. or_left (same_alarm (to_alarm x) (to_alarm x)) (list_any (λ y. same_alarm (to_alarm y) (to_alarm x)) (filter passes xs)) (same_as_itself (to_alarm x)),
        weaker xs (each_found passes to_alarm xs),
      )
      | false ↦ λ e. ((λ is. absurd (let bad : false ≡ true = is in cc)), each_found passes to_alarm xs)
    ]) refl where
      weaker : (zs : List X) → AllByRecursion (λ z. passes z ≡ true → list_any (λ y. same_alarm (to_alarm y) (to_alarm z)) (filter passes xs) ≡ true) zs
          → AllByRecursion (λ z. passes z ≡ true → list_any (λ y. same_alarm (to_alarm y) (to_alarm z)) (x ∷ filter passes xs) ≡ true) zs
      weaker [] all = tt
      weaker (z ∷ zs) all = ((λ is. or_right (same_alarm (to_alarm x) (to_alarm z)) (list_any (λ y. same_alarm (to_alarm y) (to_alarm z)) (filter passes xs)) (all.0 is)), weaker zs all.1)

-- what concerns a train without being told waits
stop_is : (train : TrainRec) (stop : ℕ × List Segment) → (concern_to train stop ≡ concern.None) ⊎ ((is_told train.stops stop.0 ≡ true) ⊎ (stop_waits train stop ≡ true))
stop_is train stop = by (concern_to train stop) refl (is_told train.stops stop.0) refl
  where
    waits : (place : Option Place) (c : Concern) → (c ≡ concern.None) ⊎ (is_some {T = ℕ × ToldStop} (option_map (λ (told : ToldStop). (stop.0, told)) (told_stop place c)) ≡ true)
    waits None concern.None = inl refl
    waits None concern.Now = inr refl
    waits None (concern.Before edge) = inr refl
    waits (Some p) concern.None = inl refl
    waits (Some p) concern.Now = inr refl
    waits (Some p) (concern.Before edge) = inr refl

    by : (c : Concern) → concern_to train stop ≡ c → (told : Bool) → is_told train.stops stop.0 ≡ told
        → (c ≡ concern.None) ⊎ ((told ≡ true) ⊎ (is_some {T = ℕ × ToldStop} (if told then None else option_map (λ (how : ToldStop). (stop.0, how)) (told_stop train.place c)) ≡ true))
    by c concerns true told = inr (inl refl)
    by c concerns false told = elim (waits train.place c) [ inl none ↦ inl none | inr is ↦ inr (inr is) ]

limit_is : (horizon : ℕ) (train : TrainRec) (limit : ℕ × Limit) → (limit_told_to horizon train.place limit.1 ≡ None) ⊎ ((is_told train.limits limit.0 ≡ true) ⊎ (limit_waits horizon train limit ≡ true))
limit_is horizon train limit = by (limit_told_to horizon train.place limit.1) (is_told train.limits limit.0)
  where
    by : (part : Option Part) (told : Bool) → (part ≡ None) ⊎ ((told ≡ true) ⊎ (is_some {T = ℕ × Part} (if told then None else option_map (λ (how : Part). (limit.0, how)) part) ≡ true))
    by None told = inl refl
    by (Some part) true = inr (inl refl)
    by (Some part) false = inr (inr refl)

module _ (horizon : ℕ) (stops : List (ℕ × List Segment)) (limits : List (ℕ × Limit)) (train : TrainRec) where
  abbrev waiting : List Waiting
  waiting = all_waiting horizon stops limits train

  among_alarms : (alarm : Alarm) → list_any (λ (one : Waiting). same_alarm (Untold one.what) alarm) waiting ≡ true → is_among (alarms_at horizon stops limits train) alarm ≡ true
  among_alarms alarm is =
      any_behind (λ other. same_alarm other alarm) (place_alarm train.place) (map (λ (one : Waiting). Untold one.what) waiting)
      (any_of_map (λ other. same_alarm other alarm) (λ (one : Waiting). Untold one.what) waiting is)

  stops_found : (xs : List (ℕ × List Segment)) → AllByRecursion (λ stop. stop_waits train stop ≡ true → list_any (λ (y : ℕ × List Segment). same_alarm (Untold (Stop y.0)) (Untold (Stop stop.0))) (filter (stop_waits train) stops) ≡ true) xs
      → AllByRecursion (IsStopToldOrAlarmed train (alarms_at horizon stops limits train)) xs
  stops_found [] all = tt
  stops_found (stop ∷ xs) all = (
    elim (stop_is train stop) [
      | inl none ↦ inl none
      | inr rest ↦ elim rest [
        | inl told ↦ inr (inl told)
        | inr waits ↦ inr (inr (among_alarms (Untold (Stop stop.0))
            (any_before (λ (one : Waiting). same_alarm (Untold one.what) (Untold (Stop stop.0))) (stops_waiting stops train ++ limits_waiting horizon limits train) (stops_due stops train)
            (any_before (λ (one : Waiting). same_alarm (Untold one.what) (Untold (Stop stop.0))) (stops_waiting stops train) (limits_waiting horizon limits train)
            (any_of_map (λ (one : Waiting). same_alarm (Untold one.what) (Untold (Stop stop.0))) (λ (y : ℕ × List Segment). waiting_stop train y.0) (filter (stop_waits train) stops) (all.0 waits))))))
      ]
    ],
    stops_found xs all.1,
  )

  limits_found : (xs : List (ℕ × Limit)) → AllByRecursion (λ limit. limit_waits horizon train limit ≡ true → list_any (λ (y : ℕ × Limit). same_alarm (Untold (Restriction y.0)) (Untold (Restriction limit.0))) (filter (limit_waits horizon train) limits) ≡ true) xs
      → AllByRecursion (IsLimitToldOrAlarmed horizon train (alarms_at horizon stops limits train)) xs
  limits_found [] all = tt
  limits_found (limit ∷ xs) all = (
    elim (limit_is horizon train limit) [
      | inl none ↦ inl none
      | inr rest ↦ elim rest [
        | inl told ↦ inr (inl told)
        | inr waits ↦ inr (inr (among_alarms (Untold (Restriction limit.0))
            (any_before (λ (one : Waiting). same_alarm (Untold one.what) (Untold (Restriction limit.0))) (stops_waiting stops train ++ limits_waiting horizon limits train) (stops_due stops train)
            (any_behind (λ (one : Waiting). same_alarm (Untold one.what) (Untold (Restriction limit.0))) (stops_waiting stops train) (limits_waiting horizon limits train)
            (any_of_map (λ (one : Waiting). same_alarm (Untold one.what) (Untold (Restriction limit.0))) (λ (y : ℕ × Limit). waiting_limit train y.0) (filter (limit_waits horizon train) limits) (all.0 waits))))))
      ]
    ],
    limits_found xs all.1,
  )

pub nothing_is_missed : NothingIsEverMissed
nothing_is_missed horizon stops limits train = record {
  no_stop = All-from_recursion _ stops (stops_found horizon stops limits train stops (each_found (stop_waits train) (λ stop. Untold (Stop stop.0)) stops));
  no_limit = All-from_recursion _ limits (limits_found horizon stops limits train limits (each_found (limit_waits horizon train) (λ limit. Untold (Restriction limit.0)) limits));
}
