-- What a watch sees after an input.
use Rattle.std.proofs.Common.{◌≡◌, ℕ, zero, suc, ◌+◌, ◌<◌, ◌≤◌, Bool, true, false, ◌==◌, ◌&&◌, ◌||◌, cond, List, [], ◌∷◌, ◌++◌, take, get_or, length, Option, Some, None, refl, sym, ap, ◌∙◌, arith}
use Rattle.std.specs.Prelude.{slice_get, option_and_then, Result, Ok, Err, OnOk, IfOk, IfSome}
use Rattle.std.specs.declared.vec.Vec.{Vec}
use Rattle.std.specs.declared.alloc.Global.{Global}
use Rattle.std.specs.List.{flat_map, list_any}
use Rattle.std.specs.Option.{option_map_or}
use Rattle.std.proofs.lemmas.Bool.{or_parts, eq-eqb, eqb-true, eqb-false, ne_eqb}
use Rattle.std.proofs.lemmas.List.{take_more}
use Rattle.std.proofs.lemmas.Option.{slice_get_within, get_or_from_slice_get, slice_get-get_or}
use Rattle.rbc_maps.specs.Maps.{has, rises_from}
use Rattle.rbc_settle.specs.declared.train.TrainRec.{TrainRec}
use Rattle.rbc_settle.specs.Numbers.{AreNumbers, and_number, has_number}
use Rattle.rbc_settle.proofs.Forcing.{has-and}
use Rattle.rbc_settle.proofs.NumberLists.{rising}
use Rattle.rbc_rule.proofs.GatherReading.{one_more_gathered}
use Rattle.rbc_records.specs.declared.record.Key.{Key}
use Rattle.rbc_records.specs.declared.record.Key.TheVariants as key
use Rattle.rbc_records.specs.declared.record.Rec.{Rec}
use Rattle.rbc_records.specs.Notes.{is_noted, same_key}
use Rattle.rbc_records.specs.Writes.{write_over, written, replaced}
use Rattle.rbc_live.specs.declared.alarm.Alarm.{Alarm}
use Rattle.rbc_live.specs.Known.{train_of, train_in, stops_of, limits_of, active_stops, active_limits}
use Rattle.rbc_live.specs.Alarms.{rank, same_alarm, changes, change_line, engine_lines, alarms_at}
use Rattle.rbc_live.specs.Watching.{may_alarm, alarms_if_any, seen_of, seen_in, seen_with, or_none, IsWatch, is_zone, engine_of, are_zones_written, is_train_written, StayBut, seen_lines, none_seen, AreSeenLines}

-- ---- lists

any_more : {X : Type 0} (test : X → Bool) (xs : List X) (x : X) → list_any test (xs ++ x ∷ []) ≡ (list_any test xs || test x)
any_more test [] x = or_false (test x)
  where
    or_false : (b : Bool) → (b || false) ≡ b
    or_false true = refl
    or_false false = refl
any_more test (y ∷ xs) x = ap (λ b. test y || b) (any_more test xs x) ∙ or_first (test y) (list_any test xs) (test x)
  where
    or_first : (a b c : Bool) → (a || (b || c)) ≡ ((a || b) || c)
    or_first true b c = refl
    or_first false b c = refl

-- what passes among the first and one more
pub any_next : {X : Type 0} (test : X → Bool) (xs : List X) (i : ℕ) (x : X) → slice_get xs i ≡ Some x → list_any test (take (i + 1) xs) ≡ (list_any test (take i xs) || test x)
any_next {X} test xs i x there =
    ap (list_any test) (take_more xs i x (slice_get_within xs i x there) ∙ ap (λ (y : X). take i xs ++ y ∷ []) (get_or_from_slice_get xs i x x there))
    ∙ any_more test (take i xs) x

-- ---- numbers of an ascending list

at_least : (least : ℕ) (xs : List ℕ) (i d : ℕ) → rises_from least xs ≡ true → i < length xs → least ≤ get_or xs i d
at_least least [] i d rises within = absurd (omega (arith, within))
at_least least (x ∷ xs) zero d rises within = (rising least x xs rises).0
at_least least (x ∷ xs) (suc i) d rises within =
    let parts = rising least x xs rises in
    let rest = at_least (x + 1) xs i d parts.1 (omega (arith, within)) in
    let here = parts.0 in
    omega (arith, rest, here)

not_before : (least : ℕ) (xs : List ℕ) (i d : ℕ) → rises_from least xs ≡ true → i < length xs → has_number (take i xs) (get_or xs i d) ≡ false
not_before least [] i d rises within = absurd (omega (arith, within))
not_before least (x ∷ xs) zero d rises within = refl
not_before least (x ∷ xs) (suc i) d rises within =
    let parts = rising least x xs rises in
    let above = at_least (x + 1) xs i d parts.1 (omega (arith, within)) in
    let other : (x == get_or xs i d) ≡ false = ne_eqb x (get_or xs i d) (λ same. omega (arith, above, same)) in
    ap (λ b. b || has_number (take i xs) (get_or xs i d)) other ∙ not_before (x + 1) xs i d parts.1 (omega (arith, within))

-- ---- keys that are written

-- a train is written under its key
pub train_noted : (writes : List (Key × Option Rec)) (engine : ℕ) → is_train_written writes engine ≡ false → is_noted writes (key.Train engine) ≡ false
train_noted [] engine none = refl
train_noted (write ∷ writes) engine none =
    let parts = or_parts (option_map_or (λ written. written == engine) (engine_of write.0) false) (is_train_written writes engine) none in
    ap (λ b. b || is_noted writes (key.Train engine)) (by write.0 parts.0) ∙ train_noted writes engine parts.1 where
      by : (k : Key) → option_map_or (λ written. written == engine) (engine_of k) false ≡ false → same_key (key.Train engine) k ≡ false
      by key.Roster e = refl
      by (key.Train other) e = ne_eqb engine other (λ same. eqb-false other engine e (sym same))
      by key.Stops e = refl
      by key.Limits e = refl
      by (key.Line line) e = refl
      by key.Unplaced e = refl

-- the active stops and restrictions under theirs
pub zones_noted : (writes : List (Key × Option Rec)) → are_zones_written writes ≡ false → (is_noted writes key.Stops ≡ false) × (is_noted writes key.Limits ≡ false)
zones_noted [] none = (refl, refl)
zones_noted (write ∷ writes) none =
    let parts = or_parts (is_zone write.0) (are_zones_written writes) none in
    let rest = zones_noted writes parts.1 in (
      ap (λ b. b || is_noted writes key.Stops) (stops write.0 parts.0) ∙ rest.0,
      ap (λ b. b || is_noted writes key.Limits) (limits write.0 parts.0) ∙ rest.1,
    ) where
      stops : (k : Key) → is_zone k ≡ false → same_key key.Stops k ≡ false
      stops key.Roster e = refl
      stops (key.Train other) e = refl
      stops key.Stops e = e
      stops key.Limits e = refl
      stops (key.Line line) e = refl
      stops key.Unplaced e = refl

      limits : (k : Key) → is_zone k ≡ false → same_key key.Limits k ≡ false
      limits key.Roster e = refl
      limits (key.Train other) e = refl
      limits key.Stops e = refl
      limits key.Limits e = e
      limits (key.Line line) e = refl
      limits key.Unplaced e = refl

-- writes leave what stands under other keys, and so do the keys of what they replaced
pub stay_but : (writes : List (Key × Option Rec)) (records : Key → Option Rec) (k : Key) → is_noted (replaced writes records) k ≡ false → written writes records k ≡ records k
stay_but [] records k none = refl
stay_but (write ∷ writes) records k none =
    let parts = or_parts (same_key k write.0) (is_noted (replaced writes (write_over write records)) k) none in
    stay_but writes (write_over write records) k parts.1 ∙ ap (λ b. cond b write.1 (records k)) parts.0

-- ---- the engines of the trains that are written, and of those whose alarms are kept

pub one_more_written : (writes : List (Key × Option Rec)) (i : ℕ) (write : Key × Option Rec) (old new : List ℕ) (engine : ℕ) → slice_get writes i ≡ Some write → engine_of write.0 ≡ Some engine
    → new ≡ and_number engine old → ((n : ℕ) → has_number old n ≡ is_train_written (take i writes) n) → (n : ℕ) → has_number new n ≡ is_train_written (take (i + 1) writes) n
one_more_written writes i write old new engine there is more before n =
    let test : Key × Option Rec → Bool = λ one. option_map_or (λ written. written == n) (engine_of one.0) false in
    ap (λ (all : List ℕ). has_number all n) more ∙ has-and engine n old ∙ ap (λ b. engine == n || b) (before n) ∙ or_swap (engine == n) (is_train_written (take i writes) n)
    ∙ ap (λ b. is_train_written (take i writes) n || b) (sym (ap (λ found. option_map_or (λ written. written == n) found false) is))
    ∙ sym (any_next test writes i write there) where
      or_swap : (a b : Bool) → (a || b) ≡ (b || a)
      or_swap true true = refl
      or_swap true false = refl
      or_swap false true = refl
      or_swap false false = refl

pub none_more_written : (writes : List (Key × Option Rec)) (i : ℕ) (write : Key × Option Rec) (old : List ℕ) → slice_get writes i ≡ Some write → engine_of write.0 ≡ None
    → ((n : ℕ) → has_number old n ≡ is_train_written (take i writes) n) → (n : ℕ) → has_number old n ≡ is_train_written (take (i + 1) writes) n
none_more_written writes i write old there is before n =
    let test : Key × Option Rec → Bool = λ one. option_map_or (λ written. written == n) (engine_of one.0) false in
    before n ∙ or_false (is_train_written (take i writes) n)
    ∙ ap (λ b. is_train_written (take i writes) n || b) (sym (ap (λ found. option_map_or (λ written. written == n) found false) is))
    ∙ sym (any_next test writes i write there) where
      or_false : (b : Bool) → b ≡ (b || false)
      or_false true = refl
      or_false false = refl

-- where one record is written, and it is a train's: no other train is written, no stop and no restriction
module _ (writes : List (Key × Option Rec)) (write : Key × Option Rec) (one : length writes ≡ 1) (there : slice_get writes 0 ≡ Some write) where
  only_written : (writes : List (Key × Option Rec)) (engine : ℕ) → length writes ≡ 1 → slice_get writes 0 ≡ Some write → engine_of write.0 ≡ Some engine
      → ((other : ℕ) → has_number (engine ∷ []) other ≡ false → is_train_written writes other ≡ false) × (are_zones_written writes ≡ false)
  only_written [] engine one there is = absurd (omega (arith, one))
  only_written (first ∷ second ∷ more) engine one there is = absurd (omega (arith, one))
  only_written (first ∷ []) engine one there is =
      let same : first ≡ write = get_or_from_slice_get (first ∷ []) 0 write write there in
      let train : engine_of first.0 ≡ Some engine = ap (λ (w : Key × Option Rec). engine_of w.0) same ∙ is in (
        λ other none. ap (λ found. option_map_or (λ written. written == other) found false || false) train ∙ none,
        ap (λ b. b || false) (no_zone first.0 train),
      ) where
        no_zone : (k : Key) → engine_of k ≡ Some engine → is_zone k ≡ false
        no_zone key.Roster e = refl
        no_zone (key.Train other) e = refl
        no_zone key.Stops e = absurd (cc e)
        no_zone key.Limits e = absurd (cc e)
        no_zone (key.Line line) e = refl
        no_zone key.Unplaced e = refl

  pub only_train : (found : Option ℕ) → found ≡ engine_of write.0 → IfSome found (λ engine. (other : ℕ) → has_number (engine ∷ []) other ≡ false → is_train_written writes other ≡ false)
  only_train (Some engine) is = (only_written writes engine one there (sym is)).0
  only_train None is = tt

  pub no_zone_beside : (found : Option ℕ) → found ≡ engine_of write.0 → IfSome found (λ engine. are_zones_written writes ≡ false)
  no_zone_beside (Some engine) is = (only_written writes engine one there (sym is)).1
  no_zone_beside None is = tt

pub one_more_kept : {V : Type 0} (seen : List (ℕ × V)) (i : ℕ) (one : ℕ × V) (first old new : List ℕ) → slice_get seen i ≡ Some one → new ≡ and_number one.0 old
    → ((n : ℕ) → has_number old n ≡ (has_number first n || has (take i seen) n)) → (n : ℕ) → has_number new n ≡ (has_number first n || has (take (i + 1) seen) n)
one_more_kept {V} seen i one first old new there more before n =
    ap (λ (all : List ℕ). has_number all n) more ∙ has-and one.0 n old ∙ ap (λ b. one.0 == n || b) (before n) ∙ or_last (one.0 == n) (has_number first n) (has (take i seen) n)
    ∙ ap (λ b. has_number first n || b) (sym (any_next (λ (pair : ℕ × V). pair.0 == n) seen i one there)) where
      or_last : (a b c : Bool) → (a || (b || c)) ≡ (b || (c || a))
      or_last true true c = refl
      or_last true false true = refl
      or_last true false false = refl
      or_last false true c = refl
      or_last false false true = refl
      or_last false false false = refl

-- of no other engine anything is kept
pub none_kept : (seen : List (ℕ × List Alarm)) (engine : ℕ) → has seen engine ≡ false → seen_in seen engine ≡ None
none_kept [] engine none = refl
none_kept (one ∷ seen) engine none =
    let parts = or_parts (one.0 == engine) (has seen engine) none in
    let other : (engine == one.0) ≡ false = ne_eqb engine one.0 (λ same. eqb-false one.0 engine parts.0 (sym same)) in
    ap (λ b. cond b (Some one.1) (seen_in seen engine)) other ∙ none_kept seen engine parts.1

-- ---- one engine after another is seen

-- what is seen once some engines were looked at
abbrev pub seen_after : ℕ → List (Key × Rec) → (ℕ → Option (List Alarm)) → List ℕ → ℕ → Option (List Alarm)
seen_after horizon records seen done engine = cond (has_number done engine) (seen_of horizon records engine) (seen engine)

module _ (horizon : ℕ) (records : List (Key × Rec)) (seen : ℕ → Option (List Alarm)) (engines : List ℕ) (i d : ℕ) (ascending : AreNumbers engines) (within : i < length engines) where
  abbrev engine : ℕ
  engine = get_or engines i d

  not_yet : has_number (take i engines) engine ≡ false
  not_yet = not_before 0 engines i d ascending within

  -- the engine was not looked at before
  pub seen_first : seen_after horizon records seen (take i engines) engine ≡ seen engine
  seen_first = ap (λ b. cond b (seen_of horizon records engine) (seen engine)) not_yet

  pub seen_next : (now new : ℕ → Option (List Alarm)) (alarms : Option (List Alarm)) → alarms ≡ seen_of horizon records engine
      → ((other : ℕ) → now other ≡ seen_after horizon records seen (take i engines) other) → ((other : ℕ) → new other ≡ seen_with engine alarms now other)
      → (other : ℕ) → new other ≡ seen_after horizon records seen (take (i + 1) engines) other
  seen_next now new alarms is before one other =
      one other
      ∙ ap (λ (found : Option (List Alarm)). cond (engine == other) alarms found) (before other)
      ∙ ap (λ (found : Option (List Alarm)). cond (engine == other) found (seen_after horizon records seen (take i engines) other)) is
      ∙ (elim (engine == other) as (λ b. (engine == other) ≡ b
      → cond b (seen_of horizon records engine) (cond (has_number (take i engines) other) (seen_of horizon records other) (seen other))
      ≡ cond (has_number (take i engines) other || b) (seen_of horizon records other) (seen other)) [
        | true ↦ λ same.
            ap (seen_of horizon records) (eqb-true engine other same)
            ∙ sym (ap (λ b. cond b (seen_of horizon records other) (seen other)) (or_true (has_number (take i engines) other)))
        | false ↦ λ differ. sym (ap (λ b. cond b (seen_of horizon records other) (seen other)) (or_false (has_number (take i engines) other)))
      ]) refl
      ∙ sym (ap (λ b. cond b (seen_of horizon records other) (seen other)) (any_next (λ n. n == other) engines i engine (slice_get-get_or engines i d within))) where
        or_true : (b : Bool) → (b || true) ≡ true
        or_true true = refl
        or_true false = refl

        or_false : (b : Bool) → (b || false) ≡ b
        or_false true = refl
        or_false false = refl

  -- its lines stand behind the others
  pub one_more_lines : (input : ℕ) (after : ℕ → Option (List Alarm)) (text new : List ℕ) → text ≡ flat_map (seen_lines input seen after) (take i engines) → new ≡ text ++ seen_lines input seen after engine
      → new ≡ flat_map (seen_lines input seen after) (take (i + 1) engines)
  one_more_lines input after text new before one =
      one_more_gathered (seen_lines input seen after) engines i d within text new before one

-- ---- what stays the same

same_changes : (alarms : List Alarm) → changes alarms alarms ≡ []
same_changes [] = refl
same_changes (first ∷ alarms) = rw (same_as_itself first) (same_changes alarms) where
  same_as_itself : (alarm : Alarm) → same_alarm alarm alarm ≡ true
  same_as_itself alarm =
      ap (λ b. b && ((rank alarm).1 == (rank alarm).1)) (eq-eqb (rank alarm).0 (rank alarm).0 refl) ∙ eq-eqb (rank alarm).1 (rank alarm).1 refl

pub no_lines : (input engine : ℕ) (alarms : List Alarm) → engine_lines input engine alarms alarms ≡ []
no_lines input engine alarms = ap (flat_map (change_line input engine)) (same_changes alarms)

nothing_seen : (before after : List (Key × Rec)) (horizon : ℕ) (found : Option TrainRec) → option_and_then (alarms_if_any horizon before) found ≡ None → option_and_then (alarms_if_any horizon after) found ≡ None
nothing_seen before after horizon None none = refl
nothing_seen before after horizon (Some train) none =
    (elim (may_alarm train) as (λ b. cond b (Some (alarms_at horizon (active_stops before) (active_limits before) train)) None ≡ None
    → cond b (Some (alarms_at horizon (active_stops after) (active_limits after) train)) None ≡ None) [
      | true ↦ λ bad. absurd (cc bad)
      | false ↦ λ same. refl
    ]) none

module _ (horizon : ℕ) (before after : List (Key × Rec)) (writes : List (Key × Option Rec)) (stay : StayBut writes before after) (engine : ℕ) (train : is_train_written writes engine ≡ false) where
  train_stays : train_in after engine ≡ train_in before engine
  train_stays = ap train_of (stay (key.Train engine) (train_noted writes engine train))

  -- a train that is not written is seen as before, unless the active stops or restrictions are written
  pub stays_seen : are_zones_written writes ≡ false → seen_of horizon after engine ≡ seen_of horizon before engine
  stays_seen zones =
      let none = zones_noted writes zones in
      (λ i. option_and_then (λ (found : TrainRec). cond (may_alarm found)
      (Some (alarms_at horizon (stops_of (stay key.Stops none.0 i)).active (limits_of (stay key.Limits none.1 i)).active found)) None) (train_stays i))

  -- and one that can have no alarm can have none
  pub stays_unseen : seen_of horizon before engine ≡ None → seen_of horizon after engine ≡ None
  stays_unseen none =
      ap (option_and_then (alarms_if_any horizon after)) train_stays ∙ nothing_seen before after horizon (train_in before engine) none

-- ---- an input is followed

module _ (horizon input : ℕ) (before after : List (Key × Rec)) (writes : List (Key × Option Rec)) (old : List (ℕ × List Alarm)) (engines : List ℕ)
    (is : IsWatch horizon before old) (stay : StayBut writes before after)
    (trains : (engine : ℕ) → has_number engines engine ≡ false → is_train_written writes engine ≡ false)
    (zones : are_zones_written writes ≡ true → (engine : ℕ) → has_number engines engine ≡ false → has old engine ≡ false) where
  -- no other engine is seen otherwise than before
  others_stay : (engine : ℕ) → has_number engines engine ≡ false → seen_of horizon after engine ≡ seen_of horizon before engine
  others_stay engine none =
      (elim (are_zones_written writes) as (λ b. are_zones_written writes ≡ b → seen_of horizon after engine ≡ seen_of horizon before engine) [
        | true ↦ λ written.
            let unseen : seen_of horizon before engine ≡ None = sym (is engine) ∙ none_kept old engine (zones written engine none) in
            stays_unseen horizon before after writes stay engine (trains engine none) unseen ∙ sym unseen
        | false ↦ λ unwritten. stays_seen horizon before after writes stay engine (trains engine none) unwritten
      ]) refl

  pub watch_follows : (new : List (ℕ × List Alarm)) → ((engine : ℕ) → has_number engines engine ≡ true → seen_in new engine ≡ seen_of horizon after engine)
      → ((engine : ℕ) → has_number engines engine ≡ false → seen_in new engine ≡ seen_in old engine) → IsWatch horizon after new
  watch_follows new seen others engine =
      (elim (has_number engines engine) as (λ b. has_number engines engine ≡ b → seen_in new engine ≡ seen_of horizon after engine) [
        | true ↦ λ there. seen engine there
        | false ↦ λ none. others engine none ∙ is engine ∙ sym (others_stay engine none)
      ]) refl

  pub lines_follow : (text : List ℕ) → AreNumbers engines → text ≡ flat_map (seen_lines input (seen_in old) (seen_of horizon after)) engines
      → AreSeenLines input (seen_of horizon before) (seen_of horizon after) text
  lines_follow text ascending spelled = record {
    engines = engines;
    ascending = ascending;
    others = λ engine none.
        ap (λ found. engine_lines input engine (or_none (seen_of horizon before engine)) (or_none found)) (others_stay engine none)
        ∙ no_lines input engine (or_none (seen_of horizon before engine));
    spelled = spelled ∙ (λ i. flat_map (seen_lines input (λ engine. is engine i) (seen_of horizon after)) engines);
  }

  -- the same where there was no fault
  pub watch_in : {E F : Type 0} (r : Result E F) (new : List (ℕ × List Alarm)) → OnOk r ((engine : ℕ) → has_number engines engine ≡ true → seen_in new engine ≡ seen_of horizon after engine)
      → OnOk r ((engine : ℕ) → has_number engines engine ≡ false → seen_in new engine ≡ seen_in old engine) → OnOk r (IsWatch horizon after new)
  watch_in (Ok done) new seen others = watch_follows new seen others
  watch_in (Err fault) new seen others = tt

  pub lines_in : {F : Type 0} (r : Result (Vec ℕ Global) F) → AreNumbers engines → IfOk r (λ text. text.items ≡ flat_map (seen_lines input (seen_in old) (seen_of horizon after)) engines)
      → IfOk r (λ text. AreSeenLines input (seen_of horizon before) (seen_of horizon after) text.items)
  lines_in (Ok text) ascending spelled = lines_follow text.items ascending spelled
  lines_in (Err fault) ascending spelled = tt

-- all that is kept stands
pub lines_stand : (input : ℕ) (seen : List (ℕ × List Alarm)) (engines text : List ℕ) → ((engine : ℕ) → has_number engines engine ≡ has seen engine) → AreNumbers engines
    → text ≡ flat_map (seen_lines input none_seen (seen_in seen)) engines → AreSeenLines input none_seen (seen_in seen) text
lines_stand input seen engines text all ascending spelled = record {
  engines = engines;
  ascending = ascending;
  others = λ engine none. ap (λ found. engine_lines input engine [] (or_none found)) (none_kept seen engine (sym (all engine) ∙ none));
  spelled = spelled;
}
