-- What is written of alarms by single records is what the worlds give.
use Rattle.std.proofs.Common.{◌≡◌, ℕ, ◌+◌, ◌<◌, ◌≤◌, Bool, true, false, ◌==◌, ◌&&◌, ◌||◌, cond, eqb, leb, nat_le, List, [], ◌∷◌, ◌++◌, map, Option, Some, None, is_none, refl, sym, ap, ◌∙◌, arith}
use Rattle.std.specs.Prelude.{Result, Ok, Err, IfOk}
use Rattle.std.specs.declared.vec.Vec.{Vec}
use Rattle.std.specs.declared.alloc.Global.{Global}
use Rattle.std.specs.List.{flat_map, filter, fold}
use Rattle.std.specs.Option.{option_map_or}
use Rattle.std.proofs.lemmas.Bool.{and_parts, or_parts, eqb-true, leb-true}
use Rattle.std.proofs.lemmas.Bool.Decides.{nat_tests}
use Rattle.rbc_track.specs.Plan.{Plan}
use Rattle.rbc_place.specs.Placing.{Place}
use Rattle.rbc_maps.specs.Maps.{keys, rises_from, value_of}
use Rattle.rbc_maps.proofs.MapFacts.{rises_from-lower}
use Rattle.rbc_maps.proofs.MapValues.{value_of-absent}
use Rattle.rbc_settle.specs.declared.train.TrainRec.{TrainRec}
use Rattle.rbc_settle.specs.Numbers.{AreNumbers, and_number, has_number}
use Rattle.rbc_settle.proofs.Forcing.{has-and, rises-and}
use Rattle.rbc_settle.proofs.NumberLists.{rises-cons}
use Rattle.rbc_records.specs.declared.record.Key.{Key}
use Rattle.rbc_records.specs.declared.record.Key.TheVariants as key
use Rattle.rbc_records.specs.declared.record.Rec.{Rec}
use Rattle.rbc_records.specs.Notes.{record_in}
use Rattle.rbc_rule.specs.World.{World, new_world}
use Rattle.rbc_rule.specs.Records.{engines_record}
use Rattle.rbc_rule.proofs.GatherReading.{among_keys}
use Rattle.rbc_rule.proofs.Listed.{same_numbers}
use Rattle.rbc_text.specs.Held.{AreRecordsOf}
use Rattle.rbc_live.specs.declared.alarm.Alarm.{Alarm}
use Rattle.rbc_live.specs.declared.waiting.Waiting.{Waiting}
use Rattle.rbc_live.specs.declared.alarm.Alarm.TheVariants.{Untold}
use Rattle.rbc_live.specs.declared.wanted.Wanted.{Wanted}
use Rattle.rbc_live.specs.Known.{engines_in, engines_of, train_of, train_in, stops_of, limits_of, active_stops, active_limits}
use Rattle.rbc_live.specs.Waits.{lacks_something, waiting_at}
use Rattle.rbc_live.specs.Alarms.{place_alarm, alarms_at, alarms_of, all_alarms, with_engine, engine_lines, engines_of_both, alarm_lines, alarms_shown}
use Rattle.rbc_live.specs.Watching.{may_alarm, alarms_if_any, seen_of, or_none, seen_lines, none_seen, AreAlarmsOn, AreSeenLines, IsAlarmPart}
use Rattle.rbc_live.proofs.NothingWaits.{stops_there, limits_there, train_there, nothing_waits_in}

-- ---- what is seen of a train

has_place : (place : Option Place) → is_none place ≡ false → place_alarm place ≡ []
has_place None none = absurd (let bad : true ≡ false = none in cc)
has_place (Some p) none = refl

module _ (plan : Plan) (records : List (Key × Rec)) (w : World) (are : AreRecordsOf plan (record_in records) w) where
  stops_are : active_stops records ≡ w.stops.active
  stops_are = ap (λ r. (stops_of r).active) (are.same key.Stops) ∙ stops_there w.stops are.well_formed.stops.numbered

  limits_are : active_limits records ≡ w.limits.active
  limits_are = ap (λ r. (limits_of r).active) (are.same key.Limits) ∙ limits_there w.limits are.well_formed.limits.numbered

  pub train_is : (engine : ℕ) → train_in records engine ≡ value_of w.trains engine
  train_is engine = ap train_of (are.same (key.Train engine)) ∙ train_there (value_of w.trains engine)

  -- the alarms of a train, also of one that can have none
  alarms_are : (engine : ℕ) (train : TrainRec) → train_in records engine ≡ Some train → or_none (alarms_if_any plan.horizon records train) ≡ alarms_at plan.horizon (active_stops records) (active_limits records) train
  alarms_are engine train there =
      (elim (may_alarm train) as (λ b. may_alarm train ≡ b
      → or_none (cond b (Some (alarms_at plan.horizon (active_stops records) (active_limits records) train)) None) ≡ alarms_at plan.horizon (active_stops records) (active_limits records) train) [
        | true ↦ λ may. refl
        | false ↦ λ may_not.
            let parts = or_parts (is_none train.place) (lacks_something train) may_not in
            sym (ap (λ (front : List Alarm). front ++ map (λ (waiting : Waiting). Untold waiting.what) (waiting_at plan.horizon records train)) (has_place train.place parts.0)
            ∙ ap (λ (all : List Waiting). map (λ (waiting : Waiting). Untold waiting.what) all) (nothing_waits_in plan records engine train there parts.1 w are))
      ]) refl

  of_found : (engine : ℕ) (found : Option TrainRec) → train_in records engine ≡ found → or_none (seen_of plan.horizon records engine) ≡ option_map_or (alarms_at plan.horizon (active_stops records) (active_limits records)) found []
  of_found engine None there = rw there refl
  of_found engine (Some train) there = rw there (alarms_are engine train there)

  pub seen_is : (engine : ℕ) → or_none (seen_of plan.horizon records engine) ≡ alarms_of plan w engine
  seen_is engine =
      of_found engine (value_of w.trains engine) (train_is engine)
      ∙ ap (λ stops. option_map_or (alarms_at plan.horizon stops (active_limits records)) (value_of w.trains engine) []) stops_are
      ∙ ap (λ limits. option_map_or (alarms_at plan.horizon w.stops.active limits) (value_of w.trains engine) []) limits_are

-- ---- lists of numbers that give the same text

abbrev is_some_of : {A : Type 0} → List A → Bool
is_some_of [] = false
is_some_of (x ∷ xs) = true

module _ {A : Type 0} (f : ℕ → List A) where
  abbrev speaks : ℕ → Bool
  speaks n = is_some_of (f n)

  silent : (n : ℕ) → speaks n ≡ false → f n ≡ []
  silent n = by (f n)
    where
      by : (xs : List A) → is_some_of xs ≡ false → xs ≡ []
      by [] e = refl
      by (x ∷ xs) e = absurd (let bad : true ≡ false = e in cc)

  quiet : (n : ℕ) → f n ≡ [] → speaks n ≡ false
  quiet n none = ap is_some_of none

  only_speakers : (ns : List ℕ) → flat_map f ns ≡ flat_map f (filter speaks ns)
  only_speakers [] = refl
  only_speakers (n ∷ ns) =
      (elim (speaks n) as (λ b. speaks n ≡ b → f n ++ flat_map f ns ≡ flat_map f (cond b (n ∷ filter speaks ns) (filter speaks ns))) [
        | true ↦ λ e. ap (λ (rest : List A). f n ++ rest) (only_speakers ns)
        | false ↦ λ e. ap (λ (front : List A). front ++ flat_map f ns) (silent n e) ∙ only_speakers ns
      ]) refl

has-filter : (p : ℕ → Bool) (xs : List ℕ) (n : ℕ) → has_number (filter p xs) n ≡ (has_number xs n && p n)
has-filter p [] n = refl
has-filter p (x ∷ xs) n =
    (elim (p x) as (λ b. p x ≡ b → has_number (cond b (x ∷ filter p xs) (filter p xs)) n ≡ ((x == n || has_number xs n) && p n)) [
      | true ↦ λ e. ap (λ b. x == n || b) (has-filter p xs n) ∙ kept (x == n) (has_number xs n) (p n) (λ same. ap p (sym (eqb-true x n same)) ∙ e)
      | false ↦ λ e. has-filter p xs n ∙ dropped (x == n) (has_number xs n) (p n) (λ same. ap p (sym (eqb-true x n same)) ∙ e)
    ]) refl where
      kept : (a b c : Bool) → (a ≡ true → c ≡ true) → (a || (b && c)) ≡ ((a || b) && c)
      kept true b c h = sym (h refl)
      kept false b c h = refl

      dropped : (a b c : Bool) → (a ≡ true → c ≡ false) → (b && c) ≡ ((a || b) && c)
      dropped true true c h = refl
      dropped true false c h = sym (h refl)
      dropped false b c h = refl

rises-filter : (p : ℕ → Bool) (least : ℕ) (xs : List ℕ) → rises_from least xs ≡ true → rises_from least (filter p xs) ≡ true
rises-filter p least [] rises = refl
rises-filter p least (x ∷ xs) rises =
    let parts = and_parts (leb least x) (rises_from (x + 1) xs) rises in
    let above : least ≤ x = leb-true least x parts.0 in
    let rest = rises-filter p (x + 1) xs parts.1 in
    elim (p x) as (λ b. rises_from least (cond b (x ∷ filter p xs) (filter p xs)) ≡ true) [
      | true ↦ rises-cons least x (filter p xs) above rest
      | false ↦ rises_from-lower least (x + 1) (filter p xs) (omega (arith, above)) rest
    ]

-- two ascending lists, of which neither leaves out a number that has a text
pub same_text : {A : Type 0} (f : ℕ → List A) (xs ys : List ℕ) → AreNumbers xs → AreNumbers ys → ((n : ℕ) → has_number xs n ≡ false → f n ≡ []) → ((n : ℕ) → has_number ys n ≡ false → f n ≡ [])
    → flat_map f xs ≡ flat_map f ys
same_text f xs ys rises rises' none none' =
    only_speakers f xs
    ∙ ap (flat_map f) (same_numbers (filter (speaks f) xs) (filter (speaks f) ys) (rises-filter (speaks f) 0 xs rises) (rises-filter (speaks f) 0 ys rises')
    (λ n. has-filter (speaks f) xs n ∙ both n (has_number xs n) (has_number ys n) refl refl ∙ sym (has-filter (speaks f) ys n)))
    ∙ sym (only_speakers f ys) where
      both : (n : ℕ) (a b : Bool) → has_number xs n ≡ a → has_number ys n ≡ b → (a && speaks f n) ≡ (b && speaks f n)
      both n true true here there = refl
      both n false false here there = refl
      both n true false here there = quiet f n (none' n there)
      both n false true here there = sym (quiet f n (none n here))

-- ---- the engines of two worlds

abbrev all_of : List ℕ → List ℕ → List ℕ
all_of one other = fold (λ engines engine. and_number engine engines) one other

all_rise : (one other : List ℕ) → AreNumbers one → AreNumbers (all_of one other)
all_rise one [] rises = rises
all_rise one (n ∷ other) rises = all_rise (and_number n one) other (rises-and n one rises)

or_of_three : (a b c : Bool) → ((a || b) || c) ≡ (b || (a || c))
or_of_three true true c = refl
or_of_three true false c = refl
or_of_three false b c = refl

all_have : (one other : List ℕ) (n : ℕ) → has_number (all_of one other) n ≡ (has_number one n || has_number other n)
all_have one [] n = or_false (has_number one n)
  where
    or_false : (b : Bool) → b ≡ (b || false)
    or_false true = refl
    or_false false = refl
all_have one (m ∷ other) n =
    all_have (and_number m one) other n ∙ ap (λ b. b || has_number other n) (has-and m n one) ∙ or_of_three (eqb m n) (has_number one n) (has_number other n)

none_enrolled : (plan : Plan) (w : World) (engine : ℕ) → has_number (keys w.trains) engine ≡ false → alarms_of plan w engine ≡ []
none_enrolled plan w engine none =
    ap (λ found. option_map_or (alarms_at plan.horizon w.stops.active w.limits.active) found []) (value_of-absent engine w.trains (sym (among_keys w.trains engine) ∙ none))

-- ---- the text

module _ (plan : Plan) (input : ℕ) (old new : World) (rises : AreNumbers (keys old.trains)) (before after : ℕ → Option (List Alarm))
    (old_is : (engine : ℕ) → or_none (before engine) ≡ alarms_of plan old engine) (new_is : (engine : ℕ) → or_none (after engine) ≡ alarms_of plan new engine) where
  abbrev lines_of : ℕ → List ℕ
  lines_of engine = engine_lines input engine (alarms_of plan old engine) (alarms_of plan new engine)

  lines_are : (engine : ℕ) → seen_lines input before after engine ≡ lines_of engine
  lines_are engine =
      ap (λ (one : List Alarm). engine_lines input engine one (or_none (after engine))) (old_is engine)
      ∙ ap (λ (other : List Alarm). engine_lines input engine (alarms_of plan old engine) other) (new_is engine)

  none_of_others : (engine : ℕ) → has_number (engines_of_both old new) engine ≡ false → lines_of engine ≡ []
  none_of_others engine none =
      let both = or_parts (has_number (keys old.trains) engine) (has_number (keys new.trains) engine) (sym (all_have (keys old.trains) (keys new.trains) engine) ∙ none) in
      ap (λ (one : List Alarm). engine_lines input engine one (alarms_of plan new engine)) (none_enrolled plan old engine both.0)
      ∙ ap (λ (other : List Alarm). engine_lines input engine [] other) (none_enrolled plan new engine both.1)

  pub text_is : (text : List ℕ) → AreSeenLines input before after text → text ≡ alarm_lines plan input old new
  text_is text are =
      are.spelled
      ∙ (λ i. flat_map (λ engine. lines_are engine i) are.engines)
      ∙ same_text lines_of are.engines (engines_of_both old new) are.ascending (all_rise (keys old.trains) (keys new.trains) rises)
      (λ engine none. sym (lines_are engine) ∙ are.others engine none) none_of_others

-- so are the lines between the records of two worlds
pub lines_between : (plan : Plan) (input : ℕ) (old new : List (Key × Rec)) (w v : World) (text : List ℕ) → AreRecordsOf plan (record_in old) w → AreRecordsOf plan (record_in new) v
    → AreSeenLines input (seen_of plan.horizon old) (seen_of plan.horizon new) text → text ≡ alarm_lines plan input w v
lines_between plan input old new w v text are_old are_new are =
    text_is plan input w v are_old.well_formed.ascending (seen_of plan.horizon old) (seen_of plan.horizon new) (seen_is plan old w are_old) (seen_is plan new v are_new) text are

-- what is written of alarms with an answer
pub is_shown_as : (plan : Plan) (wanted : Wanted) (input : ℕ) (old new : List (Key × Rec)) (w v : World) (text : List ℕ)
    → AreRecordsOf plan (record_in old) w → AreRecordsOf plan (record_in new) v → IsAlarmPart wanted input (seen_of plan.horizon old) (seen_of plan.horizon new) text
    → text ≡ alarms_shown plan wanted input w v
is_shown_as plan wanted input old new w v text are_old are_new part =
    (elim wanted.alarms as (λ b. wanted.alarms ≡ b
    → text ≡ cond b (cond (nat_le wanted.from input) (alarm_lines plan input w v) (cond (input + 1 == wanted.from) (alarm_lines plan input new_world v) [])) []) [
      | false ↦ λ unwanted. part.unwanted unwanted
      | true ↦ λ alarms.
          (elim (nat_le wanted.from input) as (λ b. nat_le wanted.from input ≡ b → text ≡ cond b (alarm_lines plan input w v) (cond (input + 1 == wanted.from) (alarm_lines plan input new_world v) [])) [
            | true ↦ λ reached.
                lines_between plan input old new w v text are_old are_new (part.change alarms (leb-true wanted.from input reached))
            | false ↦ λ below.
                (elim (input + 1 == wanted.from) as (λ b. (input + 1 == wanted.from) ≡ b → text ≡ cond b (alarm_lines plan input new_world v) []) [
                  | true ↦ λ next.
                      text_is plan input new_world v refl none_seen (seen_of plan.horizon new) (λ engine. refl) (seen_is plan new v are_new) text
                      (part.stand alarms (eqb-true (input + 1) wanted.from next))
                  | false ↦ λ other. part.earlier alarms (earlier input wanted.from below other)
                ]) refl
          ]) refl
    ]) refl where
      earlier : (n from : ℕ) → nat_le from n ≡ false → (n + 1 == from) ≡ false → n + 1 < from
      earlier n from below other = grind (arith, nat_tests)

-- all alarms by records are those of their world
engines_there : (engines : List ℕ) → engines_of (engines_record engines) ≡ engines
engines_there [] = refl
engines_there (first ∷ engines) = refl

pub all_are : (plan : Plan) (records : List (Key × Rec)) (w : World) → AreRecordsOf plan (record_in records) w
    → flat_map (λ engine. with_engine engine (or_none (seen_of plan.horizon records engine))) (engines_in records) ≡ all_alarms plan w
all_are plan records w are =
    (λ i. flat_map (λ engine. with_engine engine (seen_is plan records w are engine i)) (engines_in records))
    ∙ ap (flat_map (λ engine. with_engine engine (alarms_of plan w engine))) (ap engines_of (are.same key.Roster) ∙ engines_there (keys w.trains))

pub alarms_on : {F : Type 0} (plan : Plan) (records : List (Key × Rec)) (horizon : ℕ) (r : Result (Vec (ℕ × Alarm) Global) F) → horizon ≡ plan.horizon
    → IfOk r (λ alarms. alarms.items ≡ flat_map (λ engine. with_engine engine (or_none (seen_of horizon records engine))) (engines_in records))
    → IfOk r (λ alarms. AreAlarmsOn plan records alarms.items)
alarms_on plan records horizon (Ok alarms) same is = λ w are.
    is ∙ ap (λ h. flat_map (λ engine. with_engine engine (or_none (seen_of h records engine))) (engines_in records)) same ∙ all_are plan records w are
alarms_on plan records horizon (Err fault) same is = tt
