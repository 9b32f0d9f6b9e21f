-- What the lists of engines of a world have, and which engines are enough for a change.
use Rattle.std.proofs.Common.{◌≡◌, ℕ, ◌≤◌, Bool, true, false, ◌||◌, cond, eqb, List, [], ◌∷◌, ◌++◌, take, length, get_or, ◌<◌, ◌+◌, Option, Some, None, refl, sym, ap, ◌∙◌, arith}
use Rattle.std.specs.List.{list_any}
use Rattle.std.specs.Option.{option_map_or}
use Rattle.std.proofs.lemmas.List.{take_more}
use Rattle.rbc_track.specs.Plan.{Plan}
use Rattle.rbc_place.specs.Placing.{Place}
use Rattle.rbc_maps.specs.Maps.{has, value_of, keys, IsMap}
use Rattle.rbc_zones.specs.declared.segment.Segment.{Segment}
use Rattle.rbc_settle.specs.declared.train.TrainRec.{TrainRec}
use Rattle.rbc_settle.specs.Numbers.{AreNumbers, has_number, IsUnion}
use Rattle.rbc_settle.specs.Settling.{Stops, Limits}
use Rattle.rbc_settle.proofs.Labels.{all_from}
use Rattle.rbc_records.specs.declared.record.Key.{Key}
use Rattle.rbc_records.specs.declared.record.Key.TheVariants as key
use Rattle.rbc_records.specs.declared.record.Rec.TheVariants as rec
use Rattle.rbc_records.specs.Notes.{same_key}
use Rattle.rbc_rule.specs.Bounds.{max_trains}
use Rattle.rbc_settle.specs.declared.single_change.Change.{Change}
use Rattle.rbc_rule.specs.World.{World}
use Rattle.rbc_rule.specs.Records.{engines_record, engines_listed, list_of, record_of}
use Rattle.rbc_rule.specs.WellFormed.{IsWellFormed}
use Rattle.rbc_rule.specs.Touching.{touches, HasChanged, released_by}
use Rattle.rbc_rule.specs.Lists.{engines_in, is_list, engines_at, AreEnginesOf, may_stop}
use Rattle.rbc_rule.specs.Gathered.{settled_train, write_of, sent_of, IsEnough}
use Rattle.rbc_rule.proofs.WorldMaps.{length_keys}
use Rattle.rbc_rule.proofs.GatherReading.{among_keys}
use Rattle.rbc_rule.proofs.Listed.{listed_has, listed_few, gathered_listed}
use Rattle.rbc_rule.proofs.Quiet.{stays}

-- the engines in the record of a list are those of the list
pub engines_in_record : (engines : List ℕ) → engines_in (engines_record engines) ≡ engines
engines_in_record [] = refl
engines_in_record (engine ∷ engines) = refl

-- the record of a list is that of its engines
pub list_record : (w : World) (list : Key) → is_list list ≡ true → record_of w list ≡ engines_record (engines_at w list)
list_record w key.Roster is = ap engines_record (sym (engines_in_record (keys w.trains)))
list_record w (key.Train engine) is = absurd (let bad : false ≡ true = is in cc)
list_record w key.Stops is = absurd (let bad : false ≡ true = is in cc)
list_record w key.Limits is = absurd (let bad : false ≡ true = is in cc)
list_record w (key.Line line) is = ap engines_record (sym (engines_in_record (engines_listed (key.Line line) w.trains)))
list_record w key.Unplaced is = ap engines_record (sym (engines_in_record (engines_listed key.Unplaced w.trains)))

-- a train stands in a list
abbrev pub stands_in : Key → TrainRec → Bool
stands_in list train = same_key list (list_of train)

-- no list has more engines than there may be trains
pub list_few : (plan : Plan) (w : World) (list : Key) → IsWellFormed plan w → is_list list ≡ true → length (engines_at w list) ≤ max_trains
list_few plan w key.Roster well is =
    let same : length (engines_at w key.Roster) ≡ length w.trains = ap length (engines_in_record (keys w.trains)) ∙ length_keys w.trains in
    let few = well.few in
    omega (arith, same, few)
list_few plan w (key.Train engine) well is = absurd (let bad : false ≡ true = is in cc)
list_few plan w key.Stops well is = absurd (let bad : false ≡ true = is in cc)
list_few plan w key.Limits well is = absurd (let bad : false ≡ true = is in cc)
list_few plan w (key.Line line) well is =
    let same : length (engines_at w (key.Line line)) ≡ length (engines_listed (key.Line line) w.trains) = ap length (engines_in_record (engines_listed (key.Line line) w.trains)) in
    let fewer : length (engines_listed (key.Line line) w.trains) ≤ length w.trains = listed_few (stands_in (key.Line line)) w.trains in
    let few = well.few in
    omega (arith, same, fewer, few)
list_few plan w key.Unplaced well is =
    let same : length (engines_at w key.Unplaced) ≡ length (engines_listed key.Unplaced w.trains) = ap length (engines_in_record (engines_listed key.Unplaced w.trains)) in
    let fewer : length (engines_listed key.Unplaced w.trains) ≤ length w.trains = listed_few (stands_in key.Unplaced) w.trains in
    let few = well.few in
    omega (arith, same, fewer, few)

-- the engines in the list of a line, and in that of the trains without a place
pub line_has : (w : World) (line : ℕ) → IsMap w.trains → AreEnginesOf (stands_in (key.Line line)) w (engines_at w (key.Line line))
line_has w line rises n =
    ap (λ engines. has_number engines n) (engines_in_record (engines_listed (key.Line line) w.trains)) ∙ listed_has (stands_in (key.Line line)) w.trains rises n

pub unplaced_has : (w : World) → IsMap w.trains → AreEnginesOf (stands_in key.Unplaced) w (engines_at w key.Unplaced)
unplaced_has w rises n =
    ap (λ engines. has_number engines n) (engines_in_record (engines_listed key.Unplaced w.trains)) ∙ listed_has (stands_in key.Unplaced) w.trains rises n

-- the engines in the roster
has_any : (trains : List (ℕ × TrainRec)) (n : ℕ) → has trains n ≡ option_map_or (λ train. true) (value_of trains n) false
has_any [] n = refl
has_any (train ∷ trains) n = by (eqb train.0 n) (has_any trains n)
  where
    by : (b : Bool) → has trains n ≡ option_map_or (λ train. true) (value_of trains n) false → b || has trains n ≡ option_map_or (λ (other : TrainRec). true) (cond b (Some train.1) (value_of trains n)) false
    by true rest = refl
    by false rest = rest

pub roster_has : (w : World) → AreEnginesOf (λ train. true) w (engines_at w key.Roster)
roster_has w n = ap (λ engines. has_number engines n) (engines_in_record (keys w.trains)) ∙ among_keys w.trains n ∙ has_any w.trains n

-- ---- lists together

either : (p q : TrainRec → Bool) (found : Option TrainRec) → option_map_or p found false || option_map_or q found false ≡ option_map_or (λ train. p train || q train) found false
either p q None = refl
either p q (Some train) = refl

pub joined : (p q : TrainRec → Bool) (w : World) (one other both : List ℕ) → AreEnginesOf p w one → AreEnginesOf q w other → IsUnion both one other → AreEnginesOf (λ train. p train || q train) w both
joined p q w one other both first second union n =
    union n ∙ (λ i. first n i || second n i) ∙ either p q (value_of w.trains n)

-- the same engines, by another word for the same trains
pub in_other_words : (p q : TrainRec → Bool) (w : World) (engines : List ℕ) → ((train : TrainRec) → p train ≡ q train) → AreEnginesOf p w engines → AreEnginesOf q w engines
in_other_words p q w engines same are n = are n ∙ ap (λ (f : TrainRec → Bool). option_map_or f (value_of w.trains n) false) (λ i train. same train i)

any-last : {X : Type 0} (test : X → Bool) (xs : List X) (last : X) → list_any test (xs ++ last ∷ []) ≡ list_any test xs || test last
any-last test [] last = or_false (test last)
  where
    or_false : (b : Bool) → b || false ≡ b
    or_false true = refl
    or_false false = refl
any-last test (x ∷ xs) last = by (test x) (any-last test xs last)
  where
    by : (b : Bool) → list_any test (xs ++ last ∷ []) ≡ list_any test xs || test last → b || list_any test (xs ++ last ∷ []) ≡ (b || list_any test xs) || test last
    by true rest = refl
    by false rest = rest

or_together : (a b c : Bool) → (a || b) || c ≡ a || (b || c)
or_together true b c = refl
or_together false b c = refl

-- the trains without a place and those on so many lines, and then on one more
pub one_more_line : (w : World) (segments : List Segment) (i : ℕ) (d : Segment) (old new : List ℕ) → IsMap w.trains → i < length segments → AreEnginesOf (may_stop (take i segments)) w old
    → IsUnion new old (engines_at w (key.Line (get_or segments i d).line)) → AreEnginesOf (may_stop (take (i + 1) segments)) w new
one_more_line w segments i d old new rises within so_far union =
    let line = (get_or segments i d).line in
    in_other_words (λ train. may_stop (take i segments) train || stands_in (key.Line line) train) (may_stop (take (i + 1) segments)) w new
    (λ train.
    or_together (same_key key.Unplaced (list_of train)) (list_any (λ segment. same_key (key.Line segment.line) (list_of train)) (take i segments)) (stands_in (key.Line line) train)
    ∙ ap (λ b. same_key key.Unplaced (list_of train) || b)
    (sym (ap (list_any (λ (segment : Segment). same_key (key.Line segment.line) (list_of train))) (take_more segments i d within)
    ∙ any-last (λ (segment : Segment). same_key (key.Line segment.line) (list_of train)) (take i segments) (get_or segments i d))))
    (joined (may_stop (take i segments)) (stands_in (key.Line line)) w old (engines_at w (key.Line line)) new so_far (line_has w line rises) union)

-- ---- engines that are enough

pub is_there : (p : TrainRec → Bool) (trains : List (ℕ × TrainRec)) (n : ℕ) → option_map_or p (value_of trains n) false ≡ true → has_number (keys trains) n ≡ true
is_there p trains n e = among_keys trains n ∙ has_any trains n ∙ by (value_of trains n) e
  where
    by : (found : Option TrainRec) → option_map_or p found false ≡ true → option_map_or (λ (train : TrainRec). true) found false ≡ true
    by None bad = bad
    by (Some train) there = refl

-- those of which something holds are enough where no other train is touched
pub enough : (plan : Plan) (changed : Change) (w : World) (stops : Stops) (limits : Limits) (p : TrainRec → Bool) (engines : List ℕ)
    → IsWellFormed plan w → HasChanged changed w stops limits → AreNumbers engines → AreEnginesOf p w engines
    → ((n : ℕ) (train : TrainRec) → value_of w.trains n ≡ Some train → p train ≡ false → touches plan changed train ≡ false)
    → IsEnough plan stops limits (released_by changed) w.trains engines
enough plan changed w stops limits p engines well has_changed numbers are quiet = record {
  enrolled = all_from (λ n. has_number (keys w.trains) n ≡ true) engines (λ n there. is_there p w.trains n (sym (are n) ∙ there));
  writes = gathered_listed p (write_of plan stops limits (released_by changed)) w.trains engines well.ascending numbers are
      (λ n train found other. let nothing = stays plan changed w stops limits n train well has_changed (sym found) (quiet n train found other) in
      ap (λ b. cond b [] ((key.Train train.engine, Some (rec.Train (settled_train plan stops limits (released_by changed) train))) ∷ [])) nothing.0);
  sent = gathered_listed p (sent_of plan stops limits (released_by changed)) w.trains engines well.ascending numbers are
      (λ n train found other. (stays plan changed w stops limits n train well has_changed (sym found) (quiet n train found other)).1);
}

-- ---- lists that were read

-- a list of a world does not have too many engines
pub too_many : (plan : Plan) (w : World) (list : Key) (engines : List ℕ) → IsWellFormed plan w → is_list list ≡ true → Some (rec.Engines engines) ≡ record_of w list → max_trains < length engines → ⊥
too_many plan w list engines well is stands many =
    let same : length engines ≡ length (engines_at w list) = ap (λ found. length (engines_in found)) stands in
    let few = list_few plan w list well is in
    omega (arith, same, few, many)

-- a list alone
pub alone : (list engines other : List ℕ) → other ≡ [] → IsUnion engines other list → (n : ℕ) → has_number engines n ≡ has_number list n
alone list engines other none union n = union n ∙ ap (λ xs. has_number xs n || has_number list n) none

-- at first, the engines of the trains without a place
or_false : (b : Bool) → b ≡ b || false
or_false true = refl
or_false false = refl

pub no_line_yet : (w : World) (engines other : List ℕ) → IsMap w.trains → other ≡ [] → IsUnion engines other (engines_at w key.Unplaced) → AreEnginesOf (may_stop []) w engines
no_line_yet w engines other rises none union =
    in_other_words (stands_in key.Unplaced) (may_stop []) w engines (λ train. or_false (same_key key.Unplaced (list_of train)))
    (λ n. alone (engines_at w key.Unplaced) engines other none union n ∙ unplaced_has w rises n)

-- the roster has the engines of all trains
pub roster_is : (w : World) → engines_at w key.Roster ≡ keys w.trains
roster_is w = engines_in_record (keys w.trains)

-- a list in which trains stand: that of a line, or that of the trains without a place
pub IsTrainList : Key → Type 0
IsTrainList key.Roster = ⊥
IsTrainList (key.Train engine) = ⊥
IsTrainList key.Stops = ⊥
IsTrainList key.Limits = ⊥
IsTrainList (key.Line line) = Unit
IsTrainList key.Unplaced = Unit

pub train_list_has : (w : World) (list : Key) → IsMap w.trains → IsTrainList list → AreEnginesOf (stands_in list) w (engines_at w list)
unfolding IsTrainList
train_list_has w key.Roster rises is = absurd is
train_list_has w (key.Train engine) rises is = absurd is
train_list_has w key.Stops rises is = absurd is
train_list_has w key.Limits rises is = absurd is
train_list_has w (key.Line line) rises is = line_has w line rises
train_list_has w key.Unplaced rises is = unplaced_has w rises

pub list_of_is : (train : TrainRec) → IsTrainList (list_of train)
unfolding IsTrainList
list_of_is train = elim train.place as (λ place. IsTrainList (option_map_or (λ (p : Place). key.Line p.line) place key.Unplaced)) [ None ↦ tt | Some place ↦ tt ]
