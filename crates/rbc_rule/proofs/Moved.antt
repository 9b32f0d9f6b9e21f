-- The records of a world in which one train comes, goes, or changes.
use Rattle.std.proofs.Common.{◌≡◌, ℕ, Bool, true, false, cond, eqb, [], ◌∷◌, ◌++◌, Option, Some, None, option_map, refl, sym, ap, ◌∙◌}
use Rattle.std.specs.Option.{option_map_or}
use Rattle.rbc_place.specs.Placing.{Place}
use Rattle.rbc_maps.specs.Maps.{has, value_of, with_value, without, keys, IsMap}
use Rattle.rbc_settle.specs.declared.train.TrainRec.{TrainRec}
use Rattle.rbc_settle.specs.Numbers.{with_number, without_number}
use Rattle.rbc_records.specs.declared.record.Key.{Key}
use Rattle.rbc_records.specs.declared.record.Key.TheVariants as key
use Rattle.rbc_records.specs.declared.record.Rec.{Rec}
use Rattle.rbc_records.specs.declared.record.Rec.TheVariants as rec
use Rattle.rbc_records.specs.Notes.{same_key}
use Rattle.rbc_records.specs.Writes.{written, write_over}
use Rattle.rbc_records.proofs.Keys.{same_key_sym, same_key_is}
use Rattle.rbc_rule.specs.World.{World}
use Rattle.rbc_rule.specs.Records.{engines_record, engines_listed, list_of, record_of}
use Rattle.rbc_rule.specs.Lists.{engines_at, engines_in, moves}
use Rattle.rbc_rule.proofs.WorldMaps.{keys-new, keys-old, keys-without, value_of-with_value, value_of-without}
use Rattle.rbc_rule.proofs.Listed.{listed_new, listed_stays, listed_comes, listed_goes, listed_without, listed_without_other}
use Rattle.rbc_rule.proofs.AllGathered.{written-append}
use Rattle.rbc_rule.proofs.Engines.{engines_in_record, stands_in}
use Rattle.rbc_track.proofs.Entries.{eqb_turned}

map_either : {A B : Type 0} (f : A → B) (b : Bool) (x y : Option A) → cond b (option_map f x) (option_map f y) ≡ option_map f (cond b x y)
map_either f true x y = refl
map_either f false x y = refl

-- what stands under a train's key after one train's record is written
train_written : (k engine : ℕ) (new old : Option TrainRec) → cond (eqb k engine) (option_map rec.Train new) (option_map rec.Train old) ≡ option_map rec.Train (cond (eqb engine k) new old)
train_written k engine new old =
    ap (λ b. cond b (option_map rec.Train new) (option_map rec.Train old)) (eqb_turned k engine) ∙ map_either rec.Train (eqb engine k) new old

-- a train stands in no list but that of a line and that of the trains without a place
abbrev IsNoList : Key → Type 0
IsNoList k = (place : Option Place) → same_key k (option_map_or (λ place. key.Line place.line) place key.Unplaced) ≡ false

roster_is_none : IsNoList key.Roster
roster_is_none None = refl
roster_is_none (Some place) = refl

train_is_none : (engine : ℕ) → IsNoList (key.Train engine)
train_is_none engine None = refl
train_is_none engine (Some place) = refl

stops_are_none : IsNoList key.Stops
stops_are_none None = refl
stops_are_none (Some place) = refl

limits_are_none : IsNoList key.Limits
limits_are_none None = refl
limits_are_none (Some place) = refl

-- ---- a train that comes

module _ (w : World) (engine : ℕ) (train : TrainRec) (rises : IsMap w.trains) (new : has w.trains engine ≡ false) (unplaced : list_of train ≡ key.Unplaced) where
  pub enrolled_records : (k : Key)
      → written ((key.Roster, engines_record (with_number engine (keys w.trains))) ∷ (key.Train engine, Some (rec.Train train)) ∷ (key.Unplaced, engines_record (with_number engine (engines_at w key.Unplaced))) ∷ []) (record_of w) k
      ≡ record_of (record w { trains = with_value engine train w.trains }) k
  enrolled_records key.Roster = ap engines_record (sym (keys-new engine train w.trains new))
  enrolled_records (key.Train k) =
      train_written k engine (Some train) (value_of w.trains k) ∙ ap (option_map rec.Train) (sym (value_of-with_value engine train w.trains k))
  enrolled_records key.Stops = refl
  enrolled_records key.Limits = refl
  enrolled_records (key.Line line) =
      ap engines_record (sym (listed_new (stands_in (key.Line line)) engine train w.trains rises new
      ∙ ap (λ list. cond (same_key (key.Line line) list) (with_number engine (engines_listed (key.Line line) w.trains)) (engines_listed (key.Line line) w.trains)) unplaced))
  enrolled_records key.Unplaced =
      ap (λ engines. engines_record (with_number engine engines)) (engines_in_record (engines_listed key.Unplaced w.trains))
      ∙ ap engines_record (sym (listed_new (stands_in key.Unplaced) engine train w.trains rises new
      ∙ ap (λ list. cond (same_key key.Unplaced list) (with_number engine (engines_listed key.Unplaced w.trains)) (engines_listed key.Unplaced w.trains)) unplaced))

-- ---- a train that leaves

module _ (w : World) (engine : ℕ) (train : TrainRec) (rises : IsMap w.trains) (found : value_of w.trains engine ≡ Some train) where
  withdrawn_list : (k : Key) → record_of w k ≡ engines_record (engines_listed k w.trains)
      → cond (same_key k (list_of train)) (engines_record (without_number engine (engines_at w (list_of train)))) (record_of w k) ≡ engines_record (engines_listed k (without engine w.trains))
  withdrawn_list k is = by (same_key k (list_of train)) refl
    where
      by : (b : Bool) → same_key k (list_of train) ≡ b
          → cond b (engines_record (without_number engine (engines_at w (list_of train)))) (record_of w k) ≡ engines_record (engines_listed k (without engine w.trains))
      by true e =
          ap (λ list. engines_record (without_number engine (engines_at w list))) (sym (same_key_is k (list_of train) e))
          ∙ ap (λ found. engines_record (without_number engine (engines_in found))) is
          ∙ ap (λ engines. engines_record (without_number engine engines)) (engines_in_record (engines_listed k w.trains))
          ∙ ap engines_record (sym (listed_without (stands_in k) engine w.trains))
      by false e = is ∙ ap engines_record (sym (listed_without_other (stands_in k) engine train w.trains rises found e))

  other_key : (k : Key) (old new : Option Rec) → IsNoList k → cond (same_key k (list_of train)) new old ≡ old
  other_key k old new none = ap (λ b. cond b new old) (none train.place)

  pub withdrawn_records : (k : Key)
      → written ((key.Roster, engines_record (without_number engine (keys w.trains))) ∷ (key.Train engine, None) ∷ (list_of train, engines_record (without_number engine (engines_at w (list_of train)))) ∷ []) (record_of w) k
      ≡ record_of (record w { trains = without engine w.trains }) k
  withdrawn_records key.Roster = other_key key.Roster _ _ roster_is_none ∙ ap engines_record (sym (keys-without engine w.trains))
  withdrawn_records (key.Train k) =
      other_key (key.Train k) _ _ (train_is_none k)
      ∙ train_written k engine None (value_of w.trains k) ∙ ap (option_map rec.Train) (sym (value_of-without engine w.trains k))
  withdrawn_records key.Stops = other_key key.Stops _ _ stops_are_none
  withdrawn_records key.Limits = other_key key.Limits _ _ limits_are_none
  withdrawn_records (key.Line line) = withdrawn_list (key.Line line) refl
  withdrawn_records key.Unplaced = withdrawn_list key.Unplaced refl

-- ---- a train after its message

module _ (w : World) (engine : ℕ) (old train : TrainRec) (rises : IsMap w.trains) (found : value_of w.trains engine ≡ Some old) where
  -- the list of a line, or that of the trains without a place
  moved_list : (k : Key) → record_of w k ≡ engines_record (engines_listed k w.trains)
      → written (moves w engine (list_of old) (list_of train)) (record_of w) k ≡ engines_record (engines_listed k (with_value engine train w.trains))
  moved_list k is = by (same_key (list_of old) (list_of train)) refl
    where
      entered : Option Rec
      entered = engines_record (with_number engine (engines_at w (list_of train)))

      left : Option Rec
      left = engines_record (without_number engine (engines_at w (list_of old)))

      stays : stands_in k train ≡ stands_in k old → record_of w k ≡ engines_record (engines_listed k (with_value engine train w.trains))
      stays same = is ∙ ap engines_record (sym (listed_stays (stands_in k) engine train old w.trains rises found same))

      leaves : (b : Bool) → same_key k (list_of old) ≡ b → same_key k (list_of train) ≡ false → cond b left (record_of w k) ≡ engines_record (engines_listed k (with_value engine train w.trains))
      leaves true e gone =
          ap (λ list. engines_record (without_number engine (engines_at w list))) (sym (same_key_is k (list_of old) e))
          ∙ ap (λ found. engines_record (without_number engine (engines_in found))) is
          ∙ ap (λ engines. engines_record (without_number engine engines)) (engines_in_record (engines_listed k w.trains))
          ∙ ap engines_record (sym (listed_goes (stands_in k) engine train old w.trains rises found e gone))
      leaves false e gone = stays (gone ∙ sym e)

      enters : (b : Bool) → same_key k (list_of train) ≡ b → same_key (list_of old) (list_of train) ≡ false
          → cond b entered (cond (same_key k (list_of old)) left (record_of w k)) ≡ engines_record (engines_listed k (with_value engine train w.trains))
      enters true e apart =
          let here = same_key_is k (list_of train) e in
          let not_before : same_key k (list_of old) ≡ false = ap (λ list. same_key list (list_of old)) here ∙ same_key_sym (list_of train) (list_of old) ∙ apart in
          ap (λ list. engines_record (with_number engine (engines_at w list))) (sym here)
          ∙ ap (λ found. engines_record (with_number engine (engines_in found))) is
          ∙ ap (λ engines. engines_record (with_number engine engines)) (engines_in_record (engines_listed k w.trains))
          ∙ ap engines_record (sym (listed_comes (stands_in k) engine train old w.trains rises found not_before e))
      enters false e apart = leaves (same_key k (list_of old)) refl e

      by : (b : Bool) → same_key (list_of old) (list_of train) ≡ b
          → written (cond b [] ((list_of old, left) ∷ (list_of train, entered) ∷ [])) (record_of w) k ≡ engines_record (engines_listed k (with_value engine train w.trains))
      by true e = stays (ap (same_key k) (sym (same_key_is (list_of old) (list_of train) e)))
      by false e = enters (same_key k (list_of train)) refl e

  -- no other key
  moved_other : (k : Key) → IsNoList k → written (moves w engine (list_of old) (list_of train)) (record_of w) k ≡ record_of w k
  moved_other k none = by (same_key (list_of old) (list_of train))
    where
      entered : Option Rec
      entered = engines_record (with_number engine (engines_at w (list_of train)))

      left : Option Rec
      left = engines_record (without_number engine (engines_at w (list_of old)))

      by : (b : Bool) → written (cond b [] ((list_of old, left) ∷ (list_of train, entered) ∷ [])) (record_of w) k ≡ record_of w k
      by true = refl
      by false = ap (λ b. cond b entered (cond (same_key k (list_of old)) left (record_of w k))) (none train.place) ∙ ap (λ b. cond b left (record_of w k)) (none old.place)

  pub heard_records : has w.trains engine ≡ true → (k : Key)
      → written (moves w engine (list_of old) (list_of train) ++ (key.Train engine, Some (rec.Train train)) ∷ []) (record_of w) k
      ≡ record_of (record w { trains = with_value engine train w.trains }) k
  heard_records there k = written-append (moves w engine (list_of old) (list_of train)) _ (record_of w) k ∙ by k
    where
      base : Key → Option Rec
      base j = written (moves w engine (list_of old) (list_of train)) (record_of w) j

      by : (k : Key) → write_over (key.Train engine, Some (rec.Train train)) base k ≡ record_of (record w { trains = with_value engine train w.trains }) k
      by key.Roster = moved_other key.Roster roster_is_none ∙ ap engines_record (sym (keys-old engine 0 train w.trains rises there))
      by (key.Train k) =
          ap (cond (eqb k engine) (Some (rec.Train train))) (moved_other (key.Train k) (train_is_none k))
          ∙ train_written k engine (Some train) (value_of w.trains k) ∙ ap (option_map rec.Train) (sym (value_of-with_value engine train w.trains k))
      by key.Stops = moved_other key.Stops stops_are_none
      by key.Limits = moved_other key.Limits limits_are_none
      by (key.Line line) = moved_list (key.Line line) refl
      by key.Unplaced = moved_list key.Unplaced refl
