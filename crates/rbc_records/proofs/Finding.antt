-- The engines that pass a column's test are those of all trains that are sought.
use Rattle.std.proofs.Common.{◌≡◌, ℕ, Bool, true, false, cond, ◌&&◌, ◌||◌, List, [], ◌∷◌, Option, None, Some, is_some, Result, Ok, Err, IfOk, IfSome, refl, sym, ap, ◌∙◌}
use Rattle.std.specs.List.{list_any}
use Rattle.rbc_settle.specs.declared.train.TrainRec.{TrainRec}
use Rattle.rbc_settle.specs.Numbers.{has_number}
use Rattle.rbc_records.specs.declared.record.Key.{Key}
use Rattle.rbc_records.specs.declared.record.Key.TheVariants as key
use Rattle.rbc_records.specs.declared.record.Rec.{Rec}
use Rattle.rbc_records.specs.declared.record.Rec.TheVariants as rec
use Rattle.rbc_records.specs.declared.search.Sought.{Sought}
use Rattle.rbc_records.specs.Notes.{Whole, record_in, same_key}
use Rattle.rbc_records.specs.SoughtTrains.{is_sought}
use Rattle.rbc_records.specs.Seeking.{AreFound}
use Rattle.rbc_records.specs.Columns.{is_of_train, ArePassing}
use Rattle.rbc_records.proofs.Keys.{same_key_sym, same_key_is, same_key_own}

-- the entry of a train has its key
own_key : (engine : ℕ) (k : Key) (r : Rec) → is_of_train engine k r ≡ true → same_key (key.Train engine) k ≡ true
own_key engine (key.Train number) (rec.Train train) h = same_key_sym (key.Train engine) (key.Train number) ∙ h
own_key engine (key.Train number) (rec.Engines engines) h = cc
own_key engine (key.Train number) (rec.Stops stops) h = cc
own_key engine (key.Train number) (rec.Limits limits) h = cc
own_key engine key.Roster r h = cc
own_key engine key.Stops r h = cc
own_key engine key.Limits r h = cc
own_key engine (key.Line line) r h = cc
own_key engine key.Unplaced r h = cc

-- and a train's record under its key is its entry
own_entry : (engine : ℕ) (train : TrainRec) (k : Key) (r : Rec) → same_key (key.Train engine) k ≡ true → r ≡ rec.Train train → is_of_train engine k r ≡ true
own_entry engine train k r same is =
    let of : k ≡ key.Train engine = sym (same_key_is (key.Train engine) k same) in
    (λ i. is_of_train engine (of i) (is i)) ∙ same_key_own (key.Train engine)

module _ (passes : Rec → Bool) where
  -- an entry is that of this engine's train and passes
  abbrev hit : ℕ → Key × Rec → Bool
  hit engine entry = is_of_train engine entry.0 entry.1 && passes entry.1

  -- there is a record under the key of each engine that passes
  there : (entries : List (Key × Rec)) (engine : ℕ) → list_any (hit engine) entries ≡ true
      → is_some (record_in entries (key.Train engine)) ≡ true
  there [] engine h = cc
  there (entry ∷ entries) engine h = by (is_of_train engine entry.0 entry.1) (same_key (key.Train engine) entry.0) (own_key engine entry.0 entry.1) h (there entries engine)
    where
      by : (b same : Bool) → (b ≡ true → same ≡ true) → (b && passes entry.1 || list_any (hit engine) entries) ≡ true
          → (list_any (hit engine) entries ≡ true → is_some (record_in entries (key.Train engine)) ≡ true)
          → is_some (cond same (Some entry.1) (record_in entries (key.Train engine))) ≡ true
      by b true own h rest = refl
      by true false own h rest = let never : false ≡ true = own refl in cc
      by false false own h rest = rest h

  -- no train is missed whose record passes
  none_missed : (entries : List (Key × Rec)) (engine : ℕ) (train : TrainRec) → record_in entries (key.Train engine) ≡ Some (rec.Train train) → passes (rec.Train train) ≡ true
      → list_any (hit engine) entries ≡ true
  none_missed [] engine train h passing = cc
  none_missed (entry ∷ entries) engine train h passing = by (same_key (key.Train engine) entry.0) refl h (λ found. none_missed entries engine train found passing)
    where
      or_true : (b : Bool) → (b || true) ≡ true
      or_true true = refl
      or_true false = refl

      by : (same : Bool) → same_key (key.Train engine) entry.0 ≡ same → cond same (Some entry.1) (record_in entries (key.Train engine)) ≡ Some (rec.Train train)
          → (record_in entries (key.Train engine) ≡ Some (rec.Train train) → list_any (hit engine) entries ≡ true)
          → (is_of_train engine entry.0 entry.1 && passes entry.1 || list_any (hit engine) entries) ≡ true
      by true same h rest =
          let is : entry.1 ≡ rec.Train train = cc in
          let more = list_any (hit engine) entries in
          ap (λ (b : Bool). b && passes entry.1 || more) (own_entry engine train entry.0 entry.1 same is)
          ∙ ap (λ (r : Rec). passes r || more) is ∙ ap (λ (b : Bool). b || more) passing
      by false same h rest =
          let more : list_any (hit engine) entries ≡ true = rest h in
          ap (λ (b : Bool). is_of_train engine entry.0 entry.1 && passes entry.1 || b) more ∙ or_true (is_of_train engine entry.0 entry.1 && passes entry.1)

  -- so these are found, if the test passes each train that is sought
  pub found_those : (what : Sought) → ((train : TrainRec) → is_sought what train ≡ true → passes (rec.Train train) ≡ true)
      → {E : Type 0} (entries all : List (Key × Rec)) → entries ≡ all → (result : Result (Option (List ℕ)) E)
      → IfOk result (λ found. IfSome found (ArePassing passes entries)) → IfOk result (λ found. IfSome found (AreFound (Whole all) what))
  found_those what asked entries all same (Err e) h = tt
  found_those what asked entries all same (Ok None) h = tt
  found_those what asked entries all same (Ok (Some engines)) h =
      let now : (engine : ℕ) → has_number engines engine ≡ list_any (hit engine) all =
      λ engine. h engine ∙ ap (λ (kept : List (Key × Rec)). list_any (hit engine) kept) same in
      record {
        all_known = λ k. refl;
        there = λ engine has. there all engine (sym (now engine) ∙ has);
        none_missed = λ engine train at is. now engine ∙ none_missed all engine train at (asked train is);
      }
