-- Totals over all trains: by what is told of each train, and by the records.
use Rattle.std.proofs.Common.{◌≡◌, ℕ, suc, ◌+◌, ◌<◌, ◌≤◌, Bool, true, false, not, cond, List, [], ◌∷◌, ◌++◌, length, map, take, get_or, Option, Some, None, option_map, refl, sym, ap, ◌∙◌, length-append, arith}
use Rattle.std.specs.Prelude.{nat_lt}
use Rattle.std.specs.List.{filter, filter_map, cons_option}
use Rattle.std.proofs.lemmas.List.{take_more, take_all}
use Rattle.std.proofs.lemmas.List.Elements.{filter-append}
use Rattle.rbc_settle.specs.declared.train.TrainRec.{TrainRec}
use Rattle.rbc_records.specs.declared.record.Key.{Key}
use Rattle.rbc_records.specs.declared.record.Rec.{Rec}
use Rattle.rbc_account.specs.declared.state.TrainStanding.{TrainStanding}
use Rattle.rbc_live.specs.declared.waiting.Waiting.{Waiting}
use Rattle.rbc_live.specs.Waits.{waiting_at}
use Rattle.rbc_live.specs.Known.{train_in, engines_in, active_stops, active_limits}
use Rattle.rbc_account.specs.Owed.{messages_owed, is_owing}
use Rattle.rbc_account.specs.Standings.{AreOwed, AreStandings, waiting_told}
use Rattle.rbc_account.specs.Sums.{added}
use Rattle.rbc_account.specs.Totals.{total, untold_at, again_at, owed_total, owing_total, untold_total, again_total, is_again, again_in, untold_in, owed_told, is_owing_told, untold_told, again_told}
use Rattle.rbc_live.specs.Waits.{stop_waits, limit_waits, is_due, stops_waiting, limits_waiting, stops_due, waiting_stop, waiting_limit, waiting_again}

-- ---- sums, one element after another

added_twice : (a b c : ℕ) → added (added a b) c ≡ added a (added b c)
added_twice a b c = omega arith

turned : (a : ℕ) → added a 0 ≡ added 0 a
turned a = omega arith

total_then : {A : Type 0} (count : A → ℕ) (all : List A) (one : A) → total count (all ++ one ∷ []) ≡ added (total count all) (count one)
total_then count [] one = turned (count one)
total_then count (first ∷ all) one = ap (added (count first)) (total_then count all one) ∙ sym (added_twice (count first) (total count all) (count one))

-- one train more
pub one_more : {A : Type 0} (count : A → ℕ) (all : List A) (i : ℕ) (one : A) (sum next : ℕ) → i < length all → one ≡ get_or all i one → next ≡ added sum (count one)
    → sum ≡ total count (take i all) → next ≡ total count (take (i + 1) all)
one_more {A} count all i one sum next within is more before =
    more
    ∙ ap (λ n. added n (count one)) before
    ∙ sym (total_then count (take i all) one)
    ∙ ap (λ (x : A). total count (take i all ++ x ∷ [])) is
    ∙ ap (total count) (sym (take_more all i one within))

pub all_seen : {A : Type 0} (count : A → ℕ) (all : List A) (i sum : ℕ) → length all ≤ i → sum ≡ total count (take i all) → sum ≡ total count all
all_seen count all i sum past before = before ∙ ap (total count) (take_all i all past)

-- ---- from what is told of trains to the records

-- a sum over what is made of each
through : {A B : Type 0} (make : A → B) (count : B → ℕ) (all : List A) → total (λ one. count (make one)) all ≡ total count (map make all)
through make count [] = refl
through make count (one ∷ all) = ap (added (count (make one))) (through make count all)

-- a sum over what is made of each that is found
of_found : {A B : Type 0} (find : ℕ → Option A) (make : ℕ → A → B) (count : B → ℕ) (own : A → ℕ) → ((n : ℕ) (a : A) → count (make n a) ≡ own a)
    → (ns : List ℕ) → total count (filter_map (λ n. option_map (make n) (find n)) ns) ≡ total own (filter_map find ns)
of_found find make count own same [] = refl
of_found {A} {B} find make count own same (n ∷ ns) =
    let rest = of_found find make count own same ns in
    let made : List B = filter_map (λ n. option_map (make n) (find n)) ns in
    elim (find n) as (λ (o : Option A). total count (cons_option (option_map (make n) o) made) ≡ total own (cons_option o (filter_map find ns))) [
      | None ↦ rest
      | Some a ↦ ap (λ m. added m (total count made)) (same n a) ∙ ap (added (own a)) rest
    ]

-- the same of how many pass a test
as_many : {A B : Type 0} (b : Bool) (x : A) (xs : List A) (y : B) (ys : List B) → length xs ≡ length ys → length (cond b (x ∷ xs) xs) ≡ length (cond b (y ∷ ys) ys)
as_many true x xs y ys same = ap (λ n. suc n) same
as_many false x xs y ys same = same

many_through : {A B : Type 0} (make : A → B) (test : B → Bool) (all : List A) → length (filter (λ one. test (make one)) all) ≡ length (filter test (map make all))
many_through make test [] = refl
many_through make test (one ∷ all) =
    as_many (test (make one)) one (filter (λ one. test (make one)) all) (make one) (filter test (map make all)) (many_through make test all)

many_found : {A B : Type 0} (find : ℕ → Option A) (make : ℕ → A → B) (test : B → Bool) (own : A → Bool) → ((n : ℕ) (a : A) → test (make n a) ≡ own a)
    → (ns : List ℕ) → length (filter test (filter_map (λ n. option_map (make n) (find n)) ns)) ≡ length (filter own (filter_map find ns))
many_found find make test own same [] = refl
many_found {A} {B} find make test own same (n ∷ ns) =
    let rest = many_found find make test own same ns in
    let made : List B = filter_map (λ n. option_map (make n) (find n)) ns in
    elim (find n) as (λ (o : Option A). length (filter test (cons_option (option_map (make n) o) made)) ≡ length (filter own (cons_option o (filter_map find ns)))) [
      | None ↦ rest
      | Some a ↦
          ap (λ b. length (cond b (make n a ∷ filter test made) (filter test made))) (same n a)
          ∙ as_many (own a) (make n a) (filter test made) a (filter own (filter_map find ns)) rest
    ]

-- ---- what waits at a train

passing_then : {X : Type 0} (test : X → Bool) (xs ys : List X) → length (filter test (xs ++ ys)) ≡ length (filter test xs) + length (filter test ys)
passing_then {X} test xs ys = ap (λ (zs : List X). length zs) (filter-append test xs ys) ∙ length-append (filter test xs) (filter test ys)

all_pass : {X Y : Type 0} (test : Y → Bool) (make : X → Y) → ((x : X) → test (make x) ≡ true) → (xs : List X) → length (filter test (map make xs)) ≡ length xs
all_pass test make pass [] = refl
all_pass test make pass (x ∷ xs) =
    ap (λ b. length (cond b (make x ∷ filter test (map make xs)) (filter test (map make xs)))) (pass x) ∙ ap (λ n. suc n) (all_pass test make pass xs)

none_pass : {X Y : Type 0} (test : Y → Bool) (make : X → Y) → ((x : X) → test (make x) ≡ false) → (xs : List X) → length (filter test (map make xs)) ≡ 0
none_pass test make fail [] = refl
none_pass test make fail (x ∷ xs) =
    ap (λ b. length (cond b (make x ∷ filter test (map make xs)) (filter test (map make xs)))) (fail x) ∙ none_pass test make fail xs

-- three parts, of which some have none
first_two : (whole two a b c x y : ℕ) → whole ≡ two + c → two ≡ a + b → a ≡ x → b ≡ y → c ≡ 0 → whole ≡ x + y
first_two whole two a b c x y all ab one other none = omega arith

last_one : (whole two a b c z : ℕ) → whole ≡ two + c → two ≡ a + b → a ≡ 0 → b ≡ 0 → c ≡ z → whole ≡ z
last_one whole two a b c z all ab one other last = omega arith

module _ (horizon : ℕ) (records : List (Key × Rec)) (train : TrainRec) where
  abbrev stops_here : List Waiting
  stops_here = stops_waiting (active_stops records) train

  abbrev limits_here : List Waiting
  limits_here = limits_waiting horizon (active_limits records) train

  abbrev due_here : List Waiting
  due_here = stops_due (active_stops records) train

  untold_counted : untold_in (waiting_at horizon records train) ≡ untold_at horizon records train
  untold_counted =
      let test : Waiting → Bool = λ waiting. not (is_again waiting.what) in
      first_two (length (filter test (stops_here ++ limits_here ++ due_here))) (length (filter test (stops_here ++ limits_here))) (length (filter test stops_here))
      (length (filter test limits_here)) (length (filter test due_here)) (length (filter (stop_waits train) (active_stops records)))
      (length (filter (limit_waits horizon train) (active_limits records)))
      (passing_then test (stops_here ++ limits_here) due_here) (passing_then test stops_here limits_here)
      (all_pass test (λ stop. waiting_stop train stop.0) (λ stop. refl) (filter (stop_waits train) (active_stops records)))
      (all_pass test (λ limit. waiting_limit train limit.0) (λ limit. refl) (filter (limit_waits horizon train) (active_limits records)))
      (none_pass test (λ stop. waiting_again train stop.0) (λ stop. refl) (filter (λ stop. is_due train stop.0) (active_stops records)))

  again_counted : again_in (waiting_at horizon records train) ≡ again_at records train
  again_counted =
      let test : Waiting → Bool = λ waiting. is_again waiting.what in
      last_one (length (filter test (stops_here ++ limits_here ++ due_here))) (length (filter test (stops_here ++ limits_here))) (length (filter test stops_here))
      (length (filter test limits_here)) (length (filter test due_here)) (length (filter (λ stop. is_due train stop.0) (active_stops records)))
      (passing_then test (stops_here ++ limits_here) due_here) (passing_then test stops_here limits_here)
      (none_pass test (λ stop. waiting_stop train stop.0) (λ stop. refl) (filter (stop_waits train) (active_stops records)))
      (none_pass test (λ limit. waiting_limit train limit.0) (λ limit. refl) (filter (limit_waits horizon train) (active_limits records)))
      (all_pass test (λ stop. waiting_again train stop.0) (λ stop. refl) (filter (λ stop. is_due train stop.0) (active_stops records)))

-- ---- the totals of trains are those of the records

pub owed_of_all : (records : List (Key × Rec)) (trains : List TrainStanding) → AreOwed records trains → total owed_told trains ≡ owed_total records
owed_of_all records trains are =
    through owed_told (λ (n : ℕ). n) trains
    ∙ ap (total (λ (n : ℕ). n)) are
    ∙ of_found (train_in records) (λ engine train. messages_owed train) (λ (n : ℕ). n) messages_owed (λ engine train. refl) (engines_in records)

pub owing_of_all : (records : List (Key × Rec)) (trains : List TrainStanding) → AreOwed records trains → length (filter is_owing_told trains) ≡ owing_total records
owing_of_all records trains are =
    let test : ℕ → Bool = nat_lt 0 in
    many_through owed_told test trains
    ∙ ap (λ (all : List ℕ). length (filter test all)) are
    ∙ many_found (train_in records) (λ engine train. messages_owed train) test is_owing (λ engine train. refl) (engines_in records)

pub untold_of_all : (horizon : ℕ) (records : List (Key × Rec)) (trains : List TrainStanding) → AreStandings horizon records trains
    → total untold_told trains ≡ untold_total horizon records
untold_of_all horizon records trains are =
    let count : ℕ × List Waiting → ℕ = λ pair. untold_in pair.1 in
    through waiting_told count trains
    ∙ ap (total count) are
    ∙ of_found {B = ℕ × List Waiting} (train_in records) (λ engine train. (engine, waiting_at horizon records train)) count (untold_at horizon records)
    (λ engine train. untold_counted horizon records train) (engines_in records)

pub again_of_all : (horizon : ℕ) (records : List (Key × Rec)) (trains : List TrainStanding) → AreStandings horizon records trains
    → total again_told trains ≡ again_total records
again_of_all horizon records trains are =
    let count : ℕ × List Waiting → ℕ = λ pair. again_in pair.1 in
    through waiting_told count trains
    ∙ ap (total count) are
    ∙ of_found {B = ℕ × List Waiting} (train_in records) (λ engine train. (engine, waiting_at horizon records train)) count (again_at records)
    (λ engine train. again_counted horizon records train) (engines_in records)
