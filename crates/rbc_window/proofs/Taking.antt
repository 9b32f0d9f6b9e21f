-- A share that takes in the first of some inputs, and then one more.
use Rattle.std.proofs.Common.{◌≡◌, ℕ, zero, suc, ◌+◌, ◌≤◌, Bool, true, false, cond, eqb, ltb, List, [], ◌∷◌, ◌++◌, length, take, drop, Option, Some, refl, sym, ap, subst, ◌∙◌, slice_get, All, append_assoc, append-nil, drop_of_length-le, eqb-true, eq-eqb, take_all, inl, inr, arith, true≢false}
use Rattle.std.proofs.lemmas.Option.{slice_get_within, get_or_from_slice_get, none-some, same_Some}
use Rattle.std.proofs.lemmas.List.Elements.{All-nil, All-cons, All-head, All-tail}
use Rattle.ertms_codec.specs.declared.from_train.FromTrain.{FromTrain}
use Rattle.rbc_maps.specs.Maps.{value_of, with_value, IsMap}
use Rattle.rbc_maps.proofs.MapPlaces.{rises-with_value}
use Rattle.rbc_settle.specs.declared.train.TrainRec.{TrainRec}
use Rattle.rbc_records.specs.declared.record.Key.TheVariants as key
use Rattle.rbc_records.specs.Notes.{same_key}
use Rattle.rbc_rule.specs.declared.input.Input.{Input}
use Rattle.rbc_rule.specs.declared.input.Input.TheVariants.{Received}
use Rattle.rbc_rule.specs.Effect.{engine_of}
use Rattle.rbc_desk.proofs.Runs.{fold_more}
use Rattle.rbc_window.specs.declared.kept.Kept.{Kept}
use Rattle.rbc_window.specs.Messages.{Records, Setting, train_in, outcome_of, next_records, records_after, sender}
use Rattle.rbc_window.specs.Kept.{AreKept, BeginsWith, IsKept, engine_or_none, has_engine, share_of}
use Rattle.rbc_window.specs.Shares.{Changes, HasTaken, IsTakenBy, TrainsStand, train_or}
use Rattle.rbc_window.proofs.Hearings.{kept_is, train_stands, stays, train_unlisted}

-- the first inputs are taken in: whatever is kept of the others comes behind what is kept, and the trains stand as they do after the first
pub record IsUnderWay (s : Setting) (number : ℕ) (records : Records) (inputs : List Input) (at : ℕ) (trains : List (ℕ × TrainRec)) (kept : List Kept) : Type 0 where
  pub keeps : (rest : List Kept) → AreKept s number (records_after s records (take at inputs)) (drop at inputs) rest → AreKept s number records inputs (kept ++ rest)
  pub stood : TrainsStand s number records (take at inputs) trains

-- what is left at a place begins with what stands there
pub drop_at_place : {A : Type 0} (xs : List A) (at : ℕ) (x : A) → slice_get xs at ≡ Some x → drop at xs ≡ x ∷ drop (at + 1) xs
drop_at_place [] at x is = absurd (none-some x is)
drop_at_place (first ∷ xs) zero x is = ap (λ y. y ∷ xs) (same_Some first x is)
drop_at_place (first ∷ xs) (suc at) x is = drop_at_place xs at x is ∙ ap (λ n. x ∷ drop n (first ∷ xs)) (let e : suc (at + 1) ≡ suc at + 1 = omega arith in e)

-- the first, and then the one that stands behind them
pub take_then : {A : Type 0} (xs : List A) (at : ℕ) (x : A) → slice_get xs at ≡ Some x → take (at + 1) xs ≡ take at xs ++ x ∷ []
take_then [] at x is = absurd (none-some x is)
take_then (first ∷ xs) zero x is = ap (λ y. y ∷ []) (same_Some first x is)
take_then (first ∷ xs) (suc at) x is =
    ap (λ n. take n (first ∷ xs)) (let e : suc at + 1 ≡ suc (at + 1) = omega arith in e) ∙ ap (λ ys. first ∷ ys) (take_then xs at x is)

-- the records after one more input
pub records_then : (s : Setting) (records : Records) (inputs : List Input) (at next : ℕ) (input : Input) → slice_get inputs at ≡ Some input → next ≡ at + 1
    → records_after s records (take next inputs) ≡ next_records s (records_after s records (take at inputs)) input
records_then s records inputs at next input is follows =
    ap (λ n. records_after s records (take n inputs)) follows
    ∙ fold_more (next_records s) records inputs at input (slice_get_within inputs at input is)
    ∙ ap (next_records s (records_after s records (take at inputs))) (get_or_from_slice_get inputs at input input is)

-- one more train of a share
own_with : (number engine : ℕ) (train : TrainRec) (trains : List (ℕ × TrainRec)) → share_of engine ≡ number → All (λ (t : ℕ × TrainRec). share_of t.0 ≡ number) trains → All (λ (t : ℕ × TrainRec). share_of t.0 ≡ number) (with_value engine train trains)
own_with number engine train [] here own = All-cons (λ (t : ℕ × TrainRec). share_of t.0 ≡ number) (engine, train) [] here own
own_with number engine train (first ∷ trains) here own =
    let P : ℕ × TrainRec → Type 0 = λ t. share_of t.0 ≡ number in
    let head : P first = All-head P first trains own in
    let tail : All P trains = All-tail P first trains own in
    by (ltb engine first.0) (eqb first.0 engine) (All-cons P (engine, train) (first ∷ trains) here own) (All-cons P (engine, train) trains here tail) (All-cons P first (with_value engine train trains) head (own_with number engine train trains here tail))
  where
    by : (b c : Bool) → All (λ (t : ℕ × TrainRec). share_of t.0 ≡ number) ((engine, train) ∷ first ∷ trains) → All (λ (t : ℕ × TrainRec). share_of t.0 ≡ number) ((engine, train) ∷ trains) → All (λ (t : ℕ × TrainRec). share_of t.0 ≡ number) (first ∷ with_value engine train trains)
        → All (λ (t : ℕ × TrainRec). share_of t.0 ≡ number) (cond b ((engine, train) ∷ first ∷ trains) (cond c ((engine, train) ∷ trains) (first ∷ with_value engine train trains)))
    by true c x y z = x
    by false true x y z = y
    by false false x y z = z

owned : (s : Setting) (message : FromTrain) (before : Option TrainRec) (number : ℕ) (trains trains2 : List (ℕ × TrainRec)) (one : Kept) → share_of (engine_of message) ≡ number → All (λ (t : ℕ × TrainRec). share_of t.0 ≡ number) trains → Changes s message before trains trains2 one
    → All (λ (t : ℕ × TrainRec). share_of t.0 ≡ number) trains2
owned s message before number trains trains2 one here own (inl (none, same, stay)) = subst (All (λ (t : ℕ × TrainRec). share_of t.0 ≡ number)) (sym same) own
owned s message before number trains trains2 one here own (inr (after, writes, put)) = subst (All (λ (t : ℕ × TrainRec). share_of t.0 ≡ number)) (sym put) (own_with number (engine_of message) after trains here own)

risen : (s : Setting) (message : FromTrain) (before : Option TrainRec) (trains trains2 : List (ℕ × TrainRec)) (one : Kept) → IsMap trains → Changes s message before trains trains2 one → IsMap trains2
risen s message before trains trains2 one rises (inl (none, same, stay)) = subst (λ (ts : List (ℕ × TrainRec)). IsMap ts) (sym same) rises
risen s message before trains trains2 one rises (inr (after, writes, put)) = subst (λ (ts : List (ℕ × TrainRec)). IsMap ts) (sym put) (rises-with_value (engine_of message) after 0 trains (omega arith) rises)

module _ (s : Setting) (number : ℕ) (records : Records) (inputs : List Input) where
  pub begins : (trains : List (ℕ × TrainRec)) (kept : List Kept) → trains ≡ [] → kept ≡ [] → IsUnderWay s number records inputs 0 trains kept
  begins trains kept no_trains none_kept = record {
    keeps = λ rest h. subst (λ (ks : List Kept). AreKept s number records inputs (ks ++ rest)) (sym none_kept) h;
    stood = subst (TrainsStand s number records []) (sym no_trains) (record { stand = λ engine h. refl; own = All-nil _; rises = refl });
  }

  pub ends : (at : ℕ) (trains : List (ℕ × TrainRec)) (kept : List Kept) → length inputs ≤ at → IsUnderWay s number records inputs at trains kept → HasTaken s number records inputs trains kept
  ends at trains kept past h =
      let none : drop at inputs ≡ [] = drop_of_length-le inputs past in
      let all : take at inputs ≡ inputs = take_all at inputs past in
      record {
        keeps = subst (AreKept s number records inputs) (append-nil kept) (h.keeps [] (subst (λ (rest : List Input). AreKept s number (records_after s records (take at inputs)) rest []) (sym none) refl));
        trained = subst (λ (first : List Input). TrainsStand s number records first trains) all h.stood;
      }

  module _ (at next : ℕ) (input : Input) (is : slice_get inputs at ≡ Some input) (follows : next ≡ at + 1) where
    abbrev before : Records
    before = records_after s records (take at inputs)

    after : records_after s records (take next inputs) ≡ next_records s before input
    after = records_then s records inputs at next input is follows

    -- what is kept of the inputs that are left
    left_then : (b : Bool) → has_engine number (sender input) ≡ b → (rest : List Kept)
        → BeginsWith b (IsKept before (outcome_of s before input) (engine_or_none (sender input))) (AreKept s number (next_records s before input) (drop next inputs)) rest
        → AreKept s number before (drop at inputs) rest
    left_then b has rest h =
        let split : drop at inputs ≡ input ∷ drop next inputs = drop_at_place inputs at input is ∙ ap (λ n. input ∷ drop n inputs) (sym follows) in
        subst (λ (xs : List Input). AreKept s number before xs rest) (sym split)
        (subst (λ (c : Bool). BeginsWith c (IsKept before (outcome_of s before input) (engine_or_none (sender input))) (AreKept s number (next_records s before input) (drop next inputs)) rest) (sym has) h)

    -- an input of another share
    pub one_passed : (trains : List (ℕ × TrainRec)) (kept : List Kept) → has_engine number (sender input) ≡ false → IsUnderWay s number records inputs at trains kept → IsUnderWay s number records inputs next trains kept
    one_passed trains kept other h = record {
      keeps = λ rest k. h.keeps rest (left_then false other rest (subst (λ (r : Records). AreKept s number r (drop next inputs) rest) after k));
      stood = record {
        stand = λ engine own. h.stood.stand engine own ∙ sym (stays s before (key.Train engine) (train_unlisted engine) input (λ message e. apart engine own message (subst (λ i. has_engine number (sender i) ≡ false) e other))) ∙ sym (ap (λ (r : Records). r (key.Train engine)) after);
        own = h.stood.own;
        rises = h.stood.rises;
      };
    }
      where
        apart : (engine : ℕ) → share_of engine ≡ number → (message : FromTrain) → eqb (share_of (engine_of message)) number ≡ false → same_key (key.Train engine) (key.Train (engine_of message)) ≡ false
        apart engine own message other = by (eqb engine (engine_of message)) refl
          where
            by : (b : Bool) → eqb engine (engine_of message) ≡ b → eqb engine (engine_of message) ≡ false
            by false e = e
            by true e =
                let same : engine ≡ engine_of message = eqb-true engine (engine_of message) e in
                let here : eqb (share_of (engine_of message)) number ≡ true = ap (λ n. eqb (share_of n) number) (sym same) ∙ ap (λ n. eqb n number) own ∙ eq-eqb number number refl in
                absurd (true≢false (sym here ∙ other))

    -- a message of the share
    pub one_taken : (message : FromTrain) (trains trains2 : List (ℕ × TrainRec)) (kept kept2 : List Kept) (one : Kept) → input ≡ Received message → share_of (engine_of message) ≡ number
        → IsTakenBy s message (train_in (train_or (value_of trains (engine_of message)) (records (key.Train (engine_of message))))) trains trains2 one → kept2 ≡ kept ++ one ∷ []
        → IsUnderWay s number records inputs at trains kept → IsUnderWay s number records inputs next trains2 kept2
    one_taken message trains trains2 kept kept2 one e here taken pushed h =
        let engine = engine_of message in
        let found : train_in (before (key.Train engine)) ≡ train_in (train_or (value_of trains engine) (records (key.Train engine))) = ap train_in (sym (h.stood.stand engine here)) in
        let is_kept : IsKept before (outcome_of s before (Received message)) engine one = kept_is s before message _ trains trains2 one taken found in
        let has : has_engine number (sender input) ≡ true = ap (λ i. has_engine number (sender i)) e ∙ ap (λ n. eqb n number) here ∙ eq-eqb number number refl in
        record {
          keeps = λ rest k.
              subst (λ (ks : List Kept). AreKept s number records inputs ks) (sym (append_assoc kept (one ∷ []) rest) ∙ ap (λ (ks : List Kept). ks ++ rest) (sym pushed))
              (h.keeps (one ∷ rest) (left_then true has (one ∷ rest) (
                subst (λ i. IsKept before (outcome_of s before i) (engine_or_none (sender i)) one) (sym e) is_kept,
                subst (λ (r : Records). AreKept s number r (drop next inputs) rest) after k,
              )));
          stood = record {
            stand = λ other own.
                train_stands s before message _ trains trains2 one taken found other (records (key.Train other)) (h.stood.stand other own)
                ∙ ap (λ i. next_records s before i (key.Train other)) (sym e)
                ∙ sym (ap (λ (r : Records). r (key.Train other)) after);
            own = owned s message _ number trains trains2 one here h.stood.own taken.changes;
            rises = risen s message _ trains trains2 one h.stood.rises taken.changes;
          };
        }
