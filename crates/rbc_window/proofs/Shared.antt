-- What the trains of all shares, and the lists, leave under each key.
use Rattle.std.proofs.Common.{◌≡◌, ℕ, zero, suc, ◌+◌, ◌<◌, Bool, true, false, cond, eqb, leb, List, [], ◌∷◌, length, flat_map, Option, Some, None, refl, sym, ap, subst, ◌∙◌, slice_get, All, IsTrue, arith, zero-add, mod-lt, eqb-true}
use Rattle.std.proofs.lemmas.List.Elements.{All-head, All-tail}
use Rattle.std.proofs.lemmas.Bool.{and_parts}
use Rattle.std.proofs.lemmas.Option.{none-some, same_Some}
use Rattle.std.specs.Option.{option_map_or}
use Rattle.rbc_place.specs.Placing.{Place}
use Rattle.rbc_maps.specs.Maps.{value_of, keys, rises_from, IsMap}
use Rattle.rbc_maps.proofs.MapPlaces.{absent_below}
use Rattle.rbc_maps.proofs.MapValues.{value_of-absent}
use Rattle.rbc_settle.specs.declared.train.TrainRec.{TrainRec}
use Rattle.rbc_records.specs.declared.record.Key.{Key}
use Rattle.rbc_records.specs.declared.record.Key.TheVariants as key
use Rattle.rbc_records.specs.declared.record.Rec.{Rec}
use Rattle.rbc_records.specs.declared.record.Rec.TheVariants as rec
use Rattle.rbc_records.specs.Notes.{same_key}
use Rattle.rbc_records.specs.Writes.{written, write_over}
use Rattle.rbc_rule.specs.declared.input.Input.{Input}
use Rattle.rbc_rule.specs.Effect.{engine_of}
use Rattle.rbc_rule.specs.Records.{list_of}
use Rattle.rbc_rule.specs.Lists.{is_list}
use Rattle.rbc_rule.proofs.AllGathered.{written-append}
use Rattle.rbc_window.specs.declared.share.Share.{Share}
use Rattle.rbc_window.specs.Messages.{Records, Setting, next_records, records_after}
use Rattle.rbc_window.specs.Kept.{share_of}
use Rattle.rbc_window.specs.Shares.{train_or, train_write, train_writes}
use Rattle.rbc_window.proofs.Hearings.{stays}
use Rattle.rbc_window.specs.Gathering.{HaveTrains}
use Rattle.rbc_track.proofs.Entries.{eqb_turned}

-- what all shares write
abbrev pub all_train_writes : List Share → List (Key × Option Rec)
all_train_writes all = flat_map (λ (share : Share). train_writes share.trains) all

-- ---- under a key that is no train's

one_elsewhere : (trains : List (ℕ × TrainRec)) (base : Records) (k : Key) → ((engine : ℕ) → same_key k (key.Train engine) ≡ false) → written (train_writes trains) base k ≡ base k
one_elsewhere [] base k none = refl
one_elsewhere (train ∷ trains) base k none =
    one_elsewhere trains (write_over (train_write train) base) k none ∙ ap (λ b. cond b (Some (rec.Train train.1)) (base k)) (none train.0)

pub all_elsewhere : (all : List Share) (base : Records) (k : Key) → ((engine : ℕ) → same_key k (key.Train engine) ≡ false) → written (all_train_writes all) base k ≡ base k
all_elsewhere [] base k none = refl
all_elsewhere (share ∷ all) base k none =
    written-append (train_writes share.trains) (all_train_writes all) base k
    ∙ all_elsewhere all (λ j. written (train_writes share.trains) base j) k none
    ∙ one_elsewhere share.trains base k none

-- ---- under the key of a train

module _ (engine : ℕ) where
  one_here : (least : ℕ) (trains : List (ℕ × TrainRec)) (base : Records) → rises_from least (keys trains) ≡ true
      → written (train_writes trains) base (key.Train engine) ≡ train_or (value_of trains engine) (base (key.Train engine))
  one_here least [] base rises = refl
  one_here least (train ∷ trains) base rises =
      let parts = and_parts (leb least train.0) (rises_from (train.0 + 1) (keys trains)) rises in
      one_here (train.0 + 1) trains (write_over (train_write train) base) parts.1
      ∙ by parts.1 (eqb train.0 engine) refl
    where
      by : rises_from (train.0 + 1) (keys trains) ≡ true → (b : Bool) → eqb train.0 engine ≡ b
          → train_or (value_of trains engine) (cond (eqb engine train.0) (Some (rec.Train train.1)) (base (key.Train engine))) ≡ train_or (cond b (Some train.1) (value_of trains engine)) (base (key.Train engine))
      by rest true e =
          let same = eqb-true train.0 engine e in
          ap (λ o. train_or o (cond (eqb engine train.0) (Some (rec.Train train.1)) (base (key.Train engine)))) (value_of-absent engine trains (absent_below engine (train.0 + 1) trains (omega (arith, same)) rest))
          ∙ ap (λ b. cond b (Some (rec.Train train.1)) (base (key.Train engine))) (eqb_turned engine train.0 ∙ e)
      by rest false e = ap (λ b. train_or (value_of trains engine) (cond b (Some (rec.Train train.1)) (base (key.Train engine)))) (eqb_turned engine train.0 ∙ e)

  -- a share has no train of another
  not_own : (number : ℕ) (trains : List (ℕ × TrainRec)) → All (λ (train : ℕ × TrainRec). share_of train.0 ≡ number) trains → (share_of engine ≡ number → ⊥) → value_of trains engine ≡ None
  not_own number [] own other = refl
  not_own number (train ∷ trains) own other =
      by (eqb train.0 engine) refl (not_own number trains (All-tail (λ (train : ℕ × TrainRec). share_of train.0 ≡ number) train trains own) other)
    where
      by : (b : Bool) → eqb train.0 engine ≡ b → value_of trains engine ≡ None → cond b (Some train.1) (value_of trains engine) ≡ None
      by true e rest = absurd (other (ap share_of (sym (eqb-true train.0 engine e)) ∙ All-head (λ (train : ℕ × TrainRec). share_of train.0 ≡ number) train trains own))
      by false e rest = rest

  -- each share has trains of its own, those of the first share with this number
  abbrev Own : ℕ → List Share → Type 0
  Own number all = (place : ℕ) (share : Share) → slice_get all place ≡ Some share → IsMap share.trains × All (λ (train : ℕ × TrainRec). share_of train.0 ≡ number + place) share.trains

  rest_own : (number : ℕ) (share : Share) (all : List Share) → Own number (share ∷ all) → Own (number + 1) all
  rest_own number share all own place one is =
      let found = own (suc place) one is in
      let e : number + suc place ≡ number + 1 + place = omega arith in
      (found.0, subst (λ n. All (λ (train : ℕ × TrainRec). share_of train.0 ≡ n) one.trains) e found.1)

  first_own : (number : ℕ) (share : Share) (all : List Share) → Own number (share ∷ all) → IsMap share.trains × All (λ (train : ℕ × TrainRec). share_of train.0 ≡ number) share.trains
  first_own number share all own =
      let found = own 0 share refl in
      let e : number + 0 ≡ number = omega arith in
      (found.0, subst (λ n. All (λ (train : ℕ × TrainRec). share_of train.0 ≡ n) share.trains) e found.1)

  -- a share of another number writes nothing there
  first_elsewhere : (number : ℕ) (share : Share) (all : List Share) (base : Records) → Own number (share ∷ all) → (share_of engine ≡ number → ⊥) → written (train_writes share.trains) base (key.Train engine) ≡ base (key.Train engine)
  first_elsewhere number share all base own other =
      let first = first_own number share all own in
      one_here 0 share.trains base first.0 ∙ ap (λ o. train_or o (base (key.Train engine))) (not_own number share.trains first.1 other)

  shares_past : (number : ℕ) (all : List Share) (base : Records) → Own number all → share_of engine < number → written (all_train_writes all) base (key.Train engine) ≡ base (key.Train engine)
  shares_past number [] base own past = refl
  shares_past number (share ∷ all) base own past =
      written-append (train_writes share.trains) (all_train_writes all) base (key.Train engine)
      ∙ shares_past (number + 1) all (λ j. written (train_writes share.trains) base j) (rest_own number share all own) (omega (arith, past))
      ∙ first_elsewhere number share all base own (λ same. omega (arith, past, same))

  pub shares_here : (number place : ℕ) (all : List Share) (share : Share) (base : Records) → Own number all → number + place ≡ share_of engine → slice_get all place ≡ Some share
      → written (all_train_writes all) base (key.Train engine) ≡ train_or (value_of share.trains engine) (base (key.Train engine))
  shares_here number place [] share base own here is = absurd (none-some share is)
  shares_here number zero (first ∷ all) share base own here is =
      written-append (train_writes first.trains) (all_train_writes all) base (key.Train engine)
      ∙ shares_past (number + 1) all (λ j. written (train_writes first.trains) base j) (rest_own number first all own) (omega (arith, here))
      ∙ one_here 0 first.trains base (first_own number first all own).0
      ∙ ap (λ (one : Share). train_or (value_of one.trains engine) (base (key.Train engine))) (same_Some first share is)
  shares_here number (suc place) (first ∷ all) share base own here is =
      written-append (train_writes first.trains) (all_train_writes all) base (key.Train engine)
      ∙ shares_here (number + 1) place all share (λ j. written (train_writes first.trains) base j) (rest_own number first all own) (omega (arith, here)) is
      ∙ ap (train_or (value_of share.trains engine)) (first_elsewhere number first all base own (λ same. omega (arith, here, same)))

-- ---- what no message changes

other_stays : (s : Setting) (k : Key) → ((train : TrainRec) → same_key k (list_of train) ≡ false) → ((engine : ℕ) → same_key k (key.Train engine) ≡ false) → (inputs : List Input) (records : Records)
    → records_after s records inputs k ≡ records k
other_stays s k no_list no_train [] records = refl
other_stays s k no_list no_train (input ∷ inputs) records =
    other_stays s k no_list no_train inputs (next_records s records input) ∙ stays s records k no_list input (λ message e. no_train (engine_of message))

-- ---- all keys

-- within a list there is something at each place
slice_get_some : {A : Type 0} (xs : List A) (i : ℕ) → i < length xs → slice_get xs i ≡ None → ⊥
slice_get_some [] i within none = absurd (omega arith)
slice_get_some (x ∷ xs) zero within none = none-some x (sym none)
slice_get_some (x ∷ xs) (suc i) within none = slice_get_some xs i (omega arith) none

module _ (s : Setting) (records : Records) (inputs : List Input) (all : List Share) (lists : Records) (count : length all ≡ 32) (trains : HaveTrains s records inputs all)
    (are_lists : (k : Key) → IsTrue (is_list k) → lists k ≡ records_after s records inputs k) (others : (k : Key) → is_list k ≡ false → lists k ≡ records k) where
  own : (engine : ℕ) → Own engine 0 all
  own engine place share is =
      let found = trains place share is in
      (found.rises, subst (λ n. All (λ (train : ℕ × TrainRec). share_of train.0 ≡ n) share.trains) (sym (zero-add place)) found.own)

  of_train : (engine : ℕ) → written (all_train_writes all) lists (key.Train engine) ≡ records_after s records inputs (key.Train engine)
  of_train engine =
      let place = share_of engine in
      let within : place < length all = subst (λ n. place < n) (sym count) (let positive : 0 < 32 = omega arith in mod-lt engine positive) in
      by (slice_get all place) refl within
    where
      by : (found : Option Share) → slice_get all (share_of engine) ≡ found → share_of engine < length all → written (all_train_writes all) lists (key.Train engine) ≡ records_after s records inputs (key.Train engine)
      by None is within = absurd (slice_get_some all (share_of engine) within is)
      by (Some share) is within =
          shares_here engine 0 (share_of engine) all share lists (own engine) (zero-add (share_of engine)) is
          ∙ ap (train_or (value_of share.trains engine)) (others (key.Train engine) refl)
          ∙ (trains (share_of engine) share is).stand engine refl

  no_list_stops : (train : TrainRec) → same_key key.Stops (list_of train) ≡ false
  no_list_stops train = by train.place
    where
      by : (place : Option Place) → same_key key.Stops (option_map_or (λ (p : Place). key.Line p.line) place key.Unplaced) ≡ false
      by None = refl
      by (Some place) = refl

  no_list_limits : (train : TrainRec) → same_key key.Limits (list_of train) ≡ false
  no_list_limits train = by train.place
    where
      by : (place : Option Place) → same_key key.Limits (option_map_or (λ (p : Place). key.Line p.line) place key.Unplaced) ≡ false
      by None = refl
      by (Some place) = refl

  pub all_written : (k : Key) → written (all_train_writes all) lists k ≡ records_after s records inputs k
  all_written key.Roster = all_elsewhere all lists key.Roster (λ engine. refl) ∙ are_lists key.Roster refl
  all_written (key.Train engine) = of_train engine
  all_written key.Stops = all_elsewhere all lists key.Stops (λ engine. refl) ∙ others key.Stops refl ∙ sym (other_stays s key.Stops no_list_stops (λ engine. refl) inputs records)
  all_written key.Limits = all_elsewhere all lists key.Limits (λ engine. refl) ∙ others key.Limits refl ∙ sym (other_stays s key.Limits no_list_limits (λ engine. refl) inputs records)
  all_written (key.Line line) = all_elsewhere all lists (key.Line line) (λ engine. refl) ∙ are_lists (key.Line line) refl
  all_written key.Unplaced = all_elsewhere all lists key.Unplaced (λ engine. refl) ∙ are_lists key.Unplaced refl
