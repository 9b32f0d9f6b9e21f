-- What is gathered from all values of a map: the writes of those that change, and the messages to each.
use Rattle.std.proofs.Common.{◌≡◌, ℕ, suc, ◌+◌, ◌<◌, Bool, true, false, cond, ◌||◌, eqb, leb, List, [], ◌∷◌, ◌++◌, map, length, flat_map, fold, filter, Option, Some, None, option_map, refl, sym, ap, ◌∙◌, arith, append-nil, length-append}
use Rattle.std.proofs.lemmas.Bool.{eqb-true, eq-eqb, ne_eqb, and_parts, leb-true}
use Rattle.std.specs.List.{AllByRecursion}
use Rattle.std.specs.Option.{option_map_or}
use Rattle.ertms_codec.specs.declared.to_train.ToTrain.{ToTrain}
use Rattle.rbc_maps.specs.Maps.{has, value_or, value_of, keys, rises_from}
use Rattle.rbc_maps.proofs.MapPlaces.{absent_below, value_or-absent}
use Rattle.rbc_maps.proofs.MapValues.{value_of-absent}
use Rattle.rbc_settle.specs.declared.train.TrainRec.{TrainRec}
use Rattle.rbc_settle.specs.declared.sent.Sent.{Sent}
use Rattle.rbc_settle.specs.Settling.{to_engine}
use Rattle.rbc_records.specs.declared.record.Key.{Key}
use Rattle.rbc_records.specs.declared.record.Key.TheVariants as key
use Rattle.rbc_records.specs.declared.record.Rec.{Rec}
use Rattle.rbc_records.specs.declared.record.Rec.TheVariants as rec
use Rattle.rbc_records.specs.Notes.{same_key}
use Rattle.rbc_records.specs.Writes.{written, write_over}
use Rattle.rbc_rule.specs.Right.{messages_to}
use Rattle.rbc_rule.proofs.WorldSettling.{messages_to-engine}
use Rattle.rbc_track.proofs.Entries.{eqb_turned}

-- the first key does not stand among the others
first_absent : {V : Type 0} (least : ℕ) (pair : ℕ × V) (pairs : List (ℕ × V)) (key : ℕ) → rises_from least (keys (pair ∷ pairs)) ≡ true → eqb pair.0 key ≡ true → has pairs key ≡ false
first_absent least pair pairs key rises same =
    let parts = and_parts (leb least pair.0) (rises_from (pair.0 + 1) (keys pairs)) rises in
    let e = eqb-true pair.0 key same in
    absent_below key (pair.0 + 1) pairs (omega (arith, e)) parts.1

rest_rises : {V : Type 0} (least : ℕ) (pair : ℕ × V) (pairs : List (ℕ × V)) → rises_from least (keys (pair ∷ pairs)) ≡ true → rises_from (pair.0 + 1) (keys pairs) ≡ true
rest_rises least pair pairs rises = (and_parts (leb least pair.0) (rises_from (pair.0 + 1) (keys pairs)) rises).1

-- ---- writes

pub written-append : (xs ys : List (Key × Option Rec)) (base : Key → Option Rec) (k : Key) → written (xs ++ ys) base k ≡ written ys (λ j. written xs base j) k
written-append [] ys base k = refl
written-append (x ∷ xs) ys base k = written-append xs ys (write_over x base) k

module _ (same : TrainRec → Bool) (f : TrainRec → TrainRec) where
  -- the write of a train that changes
  abbrev pub change_of : TrainRec → List (Key × Option Rec)
  change_of train = cond (same train) [] ((key.Train train.engine, Some (rec.Train (f train))) ∷ [])

  abbrev pub changes : List (ℕ × TrainRec) → List (Key × Option Rec)
  changes trains = flat_map (λ train. change_of train.1) trains

  -- other keys stay
  pub changes_stay : (trains : List (ℕ × TrainRec)) (base : Key → Option Rec) (k : Key) → ((engine : ℕ) → same_key k (key.Train engine) ≡ false) → written (changes trains) base k ≡ base k
  changes_stay [] base k other = refl
  changes_stay (train ∷ trains) base k other =
      written-append (change_of train.1) (changes trains) base k
      ∙ changes_stay trains (λ j. written (change_of train.1) base j) k other
      ∙ one (same train.1)
    where
      one : (b : Bool) → written (cond b [] ((key.Train train.1.engine, Some (rec.Train (f train.1))) ∷ [])) base k ≡ base k
      one true = refl
      one false = ap (λ c. cond c (Some (rec.Train (f train.1))) (base k)) (other train.1.engine)

  -- what stands under a train's key afterwards
  abbrev pub changed : Option TrainRec → Option Rec → Option Rec
  changed None old = old
  changed (Some train) old = cond (same train) old (Some (rec.Train (f train)))

  own_change : (train : TrainRec) (base : Key → Option Rec) (engine : ℕ) → train.engine ≡ engine → written (change_of train) base (key.Train engine) ≡ changed (Some train) (base (key.Train engine))
  own_change train base engine e = by (same train)
    where
      by : (b : Bool) → written (cond b [] ((key.Train train.engine, Some (rec.Train (f train))) ∷ [])) base (key.Train engine) ≡ cond b (base (key.Train engine)) (Some (rec.Train (f train)))
      by true = refl
      by false = ap (λ c. cond c (Some (rec.Train (f train))) (base (key.Train engine))) (eq-eqb engine train.engine (sym e))

  other_change : (train : TrainRec) (base : Key → Option Rec) (engine : ℕ) → eqb engine train.engine ≡ false → written (change_of train) base (key.Train engine) ≡ base (key.Train engine)
  other_change train base engine other = by (same train)
    where
      by : (b : Bool) → written (cond b [] ((key.Train train.engine, Some (rec.Train (f train))) ∷ [])) base (key.Train engine) ≡ base (key.Train engine)
      by true = refl
      by false = ap (λ c. cond c (Some (rec.Train (f train))) (base (key.Train engine))) other

  pub changes_at : (least : ℕ) (trains : List (ℕ × TrainRec)) (base : Key → Option Rec) (engine : ℕ) → rises_from least (keys trains) ≡ true → AllByRecursion (λ train. train.1.engine ≡ train.0) trains
      → written (changes trains) base (key.Train engine) ≡ changed (value_of trains engine) (base (key.Train engine))
  changes_at least [] base engine rises own = refl
  changes_at least (train ∷ trains) base engine rises own =
      written-append (change_of train.1) (changes trains) base (key.Train engine)
      ∙ changes_at (train.0 + 1) trains (λ j. written (change_of train.1) base j) engine (rest_rises least train trains rises) own.1
      ∙ by (eqb train.0 engine) refl
    where
      other : eqb train.0 engine ≡ false → eqb engine train.1.engine ≡ false
      other q = eqb_turned engine train.1.engine ∙ ap (λ n. eqb n engine) own.0 ∙ q

      by : (b : Bool) → eqb train.0 engine ≡ b
          → changed (value_of trains engine) (written (change_of train.1) base (key.Train engine)) ≡ changed (cond b (Some train.1) (value_of trains engine)) (base (key.Train engine))
      by true q =
          ap (λ o. changed o (written (change_of train.1) base (key.Train engine))) (value_of-absent engine trains (first_absent least train trains engine rises q))
          ∙ own_change train.1 base engine (own.0 ∙ eqb-true train.0 engine q)
      by false q = ap (changed (value_of trains engine)) (other_change train.1 base engine (other q))

  -- what does not change keeps its record
  pub changed_records : (found : Option TrainRec) → ((train : TrainRec) → same train ≡ true → f train ≡ train) → changed found (option_map rec.Train found) ≡ option_map rec.Train (option_map f found)
  changed_records None keeps = refl
  changed_records (Some train) keeps = by (same train) refl
    where
      by : (b : Bool) → same train ≡ b → cond b (Some (rec.Train train)) (Some (rec.Train (f train))) ≡ Some (rec.Train (f train))
      by true q = ap (λ t. Some (rec.Train t)) (sym (keeps train q))
      by false q = refl

-- ---- messages

messages_to-append : (engine : ℕ) (xs ys : List Sent) → messages_to engine (xs ++ ys) ≡ messages_to engine xs ++ messages_to engine ys
messages_to-append engine [] ys = refl
messages_to-append engine (x ∷ xs) ys = by (eqb x.engine engine) (messages_to-append engine xs ys)
  where
    by : (b : Bool) → messages_to engine (xs ++ ys) ≡ messages_to engine xs ++ messages_to engine ys
        → map (λ (one : Sent). one.message) (cond b (x ∷ filter (λ (one : Sent). eqb one.engine engine) (xs ++ ys)) (filter (λ (one : Sent). eqb one.engine engine) (xs ++ ys)))
        ≡ map (λ (one : Sent). one.message) (cond b (x ∷ filter (λ (one : Sent). eqb one.engine engine) xs) (filter (λ (one : Sent). eqb one.engine engine) xs)) ++ messages_to engine ys
    by true rest = ap (λ (ms : List ToTrain). x.message ∷ ms) rest
    by false rest = rest

length-to_engine : (engine : ℕ) (messages : List ToTrain) → length (to_engine engine messages) ≡ length messages
length-to_engine engine [] = refl
length-to_engine engine (m ∷ ms) = ap suc (length-to_engine engine ms)

module _ (m : TrainRec → List ToTrain) where
  abbrev pub all_messages : List (ℕ × TrainRec) → List Sent
  all_messages trains = flat_map (λ train. to_engine train.1.engine (m train.1)) trains

  abbrev pub by_engine : List (ℕ × TrainRec) → List (ℕ × List ToTrain)
  by_engine trains = map (λ train. (train.0, m train.1)) trains

  keys-by_engine : (trains : List (ℕ × TrainRec)) (engine : ℕ) → has (by_engine trains) engine ≡ has trains engine
  keys-by_engine [] engine = refl
  keys-by_engine (train ∷ trains) engine = ap (λ b. eqb train.0 engine || b) (keys-by_engine trains engine)

  pub messages_at : (least : ℕ) (trains : List (ℕ × TrainRec)) (engine : ℕ) → rises_from least (keys trains) ≡ true → AllByRecursion (λ train. train.1.engine ≡ train.0) trains
      → messages_to engine (all_messages trains) ≡ value_or [] (by_engine trains) engine
  messages_at least [] engine rises own = refl
  messages_at least (train ∷ trains) engine rises own =
      messages_to-append engine (to_engine train.1.engine (m train.1)) (all_messages trains)
      ∙ (λ i. (messages_to-engine engine train.1.engine (m train.1) ∙ ap (λ n. cond (eqb n engine) (m train.1) []) own.0) i ++ messages_at (train.0 + 1) trains engine (rest_rises least train trains rises) own.1 i)
      ∙ by (eqb train.0 engine) refl
    where
      by : (b : Bool) → eqb train.0 engine ≡ b → cond b (m train.1) [] ++ value_or [] (by_engine trains) engine ≡ cond b (m train.1) (value_or [] (by_engine trains) engine)
      by true q =
          ap (λ rest. m train.1 ++ rest) (value_or-absent [] engine (by_engine trains) (keys-by_engine trains engine ∙ first_absent least train trains engine rises q))
          ∙ append-nil (m train.1)
      by false q = refl

  pub messages_count : (n : ℕ) (trains : List (ℕ × TrainRec)) → n + length (all_messages trains) ≡ fold (λ (sum : ℕ) (sent : ℕ × List ToTrain). sum + length sent.1) n (by_engine trains)
  messages_count n [] = let none : length (all_messages []) ≡ 0 = refl in omega (arith, none)
  messages_count n (train ∷ trains) =
      let here = to_engine train.1.engine (m train.1) in
      let rest = all_messages trains in
      let long : length (here ++ rest) ≡ length here + length rest = length-append here rest in
      let same : length here ≡ length (m train.1) = length-to_engine train.1.engine (m train.1) in
      let sum : n + length (here ++ rest) ≡ (n + length (m train.1)) + length rest = omega (arith, long, same) in
      sum ∙ messages_count (n + length (m train.1)) trains

-- ---- engines in place of values

module _ {V A : Type 0} (g : V → List A) where
  abbrev pub found_in : List (ℕ × V) → ℕ → List A
  found_in pairs key = option_map_or g (value_of pairs key) []

  abbrev pub AreOwn : List (ℕ × V) → List (ℕ × V) → Type 0
  AreOwn all pairs = AllByRecursion (λ pair. value_of all pair.0 ≡ Some pair.1) pairs

  each_found : (all pairs : List (ℕ × V)) → AreOwn all pairs → flat_map (found_in all) (keys pairs) ≡ flat_map (λ (pair : ℕ × V). g pair.1) pairs
  each_found all [] own = refl
  each_found all (pair ∷ pairs) own = λ i. option_map_or g (own.0 i) [] ++ each_found all pairs own.1 i

  own_later : (least : ℕ) (first : ℕ × V) (all pairs : List (ℕ × V)) → first.0 < least → rises_from least (keys pairs) ≡ true → AreOwn all pairs → AreOwn (first ∷ all) pairs
  own_later least first all [] below rises own = tt
  own_later least first all (pair ∷ pairs) below rises own =
      let parts = and_parts (leb least pair.0) (rises_from (pair.0 + 1) (keys pairs)) rises in
      let above = leb-true least pair.0 parts.0 in
      let other : eqb first.0 pair.0 ≡ false = ne_eqb first.0 pair.0 (λ same. absurd (omega (arith, same, above, below))) in
      (ap (λ b. cond b (Some first.1) (value_of all pair.0)) other ∙ own.0, own_later (pair.0 + 1) first all pairs (omega (arith, above, below)) parts.1 own.1)

  pub own_all : (least : ℕ) (pairs : List (ℕ × V)) → rises_from least (keys pairs) ≡ true → AreOwn pairs pairs
  own_all least [] rises = tt
  own_all least (pair ∷ pairs) rises =
      let rest = rest_rises least pair pairs rises in
      (ap (λ b. cond b (Some pair.1) (value_of pairs pair.0)) (eq-eqb pair.0 pair.0 refl), own_later (pair.0 + 1) pair pairs pairs (omega arith) rest (own_all (pair.0 + 1) pairs rest))

  -- what is made of each key's value is made of each value
  pub each_key : (pairs : List (ℕ × V)) → rises_from 0 (keys pairs) ≡ true → flat_map (found_in pairs) (keys pairs) ≡ flat_map (λ (pair : ℕ × V). g pair.1) pairs
  each_key pairs rises = each_found pairs pairs (own_all 0 pairs rises)
