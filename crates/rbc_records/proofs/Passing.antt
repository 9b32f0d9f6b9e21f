-- The engines of the trains that pass a test, gathered one by one.
use Rattle.std.proofs.Common.{◌≡◌, ℕ, ◌+◌, ◌-◌, ◌<◌, ◌≤◌, ◌⊎◌, inl, inr, Bool, true, false, cond, ◌&&◌, ◌||◌, ◌==◌, nat_lt, List, [], ◌∷◌, Option, None, Some, length, get_or, take, slice_get, zero, suc, refl, sym, ap, subst, ◌∙◌, arith}
use Rattle.std.proofs.Math.Bool.{or_assoc, or_comm}
use Rattle.std.proofs.lemmas.Bool.Decides.{Decides-eqb, nat_tests}
use Rattle.std.proofs.lemmas.List.Folds.{list_any_more}
use Rattle.std.proofs.lemmas.Option.{slice_get_cases, get_or_from_slice_get}
use Rattle.std.specs.List.{list_any}
use Rattle.rbc_settle.specs.Numbers.{has_number, with_number}
use Rattle.rbc_settle.specs.declared.train.TrainRec.{TrainRec}
use Rattle.rbc_records.specs.declared.record.Key.{Key}
use Rattle.rbc_records.specs.declared.record.Key.TheVariants as key
use Rattle.rbc_records.specs.declared.record.Rec.{Rec}
use Rattle.rbc_records.specs.declared.record.Rec.TheVariants as rec
use Rattle.rbc_records.specs.Columns.{is_of_train, ArePassing}

-- a list with one more number has that one, and what it had
has_with : (n : ℕ) (ns : List ℕ) (m : ℕ) → has_number (with_number n ns) m ≡ (has_number ns m || (n == m))
has_with n [] m = or_comm (n == m) false
has_with n (first ∷ rest) m = by (nat_lt n first) (has_with n rest m)
  where
    by : (b : Bool) → has_number (with_number n rest) m ≡ (has_number rest m || (n == m))
        → has_number (cond b (n ∷ first ∷ rest) (first ∷ with_number n rest)) m ≡ (has_number (first ∷ rest) m || (n == m))
    by true h = or_comm (n == m) (has_number (first ∷ rest) m)
    by false h = ap (λ b. (first == m) || b) h ∙ sym (or_assoc (first == m) (has_number rest m) (n == m))

and_false : (b : Bool) → (b && false) ≡ false
and_false true = refl
and_false false = refl

and_true : (b : Bool) → (b && true) ≡ b
and_true true = refl
and_true false = refl

-- with the engine of a train at an entry
pub engine_added : (found new : List ℕ) (number : ℕ) (train : TrainRec) (at : Option (Key × Rec)) → new ≡ with_number number found → at ≡ Some (key.Train number, rec.Train train)
    → (entry : Key × Rec) (engine : ℕ) → at ≡ Some entry → has_number new engine ≡ (has_number found engine || is_of_train engine entry.0 entry.1)
engine_added found new number train at added is entry engine is_entry =
    let same : entry ≡ (key.Train number, rec.Train train) = cc in
    ap (λ (all : List ℕ). has_number all engine) added ∙ has_with number found engine ∙ ap (λ (e : Key × Rec). has_number found engine || is_of_train engine e.0 e.1) (sym same)

-- One more index is read.
module _ (test : Rec → Bool) (entries : List (Key × Rec)) (i : ℕ) (within : i < length entries) where
  -- the entry there
  there : (entry : Key × Rec) × (slice_get entries i ≡ Some entry)
  there = by (slice_get_cases entries i).1
    where
      by : ((entry : Key × Rec) × (i < length entries) × (slice_get entries i ≡ Some entry) × (get_or entries i entry ≡ entry)) ⊎ ((length entries ≤ i) × (slice_get entries i ≡ None))
          → (entry : Key × Rec) × (slice_get entries i ≡ Some entry)
      by (inl found) = (found.0, found.2)
      by (inr past) = absurd (omega (arith, within, past.0))

  -- what is found among the entries with this one is found among those before it, or is this one
  one_more : (p : Key × Rec → Bool) → list_any p (take (i + 1) entries) ≡ (list_any p (take i entries) || p there.0)
  one_more p =
      list_any_more p entries i there.0 within
      ∙ ap (λ (entry : Key × Rec). list_any p (take i entries) || p entry) (get_or_from_slice_get entries i there.0 there.0 there.1)

  -- the test fails there, so the engines stay
  pub passed_by : (found : List ℕ) → ((entry : Key × Rec) → slice_get entries i ≡ Some entry → test entry.1 ≡ false) → ArePassing test (take i entries) found → ArePassing test (take (i + 1) entries) found
  passed_by found fails passing engine =
      let p : Key × Rec → Bool = λ (entry : Key × Rec). is_of_train engine entry.0 entry.1 && test entry.1 in
      let not_here : p there.0 ≡ false = ap (λ (b : Bool). is_of_train engine there.0.0 there.0.1 && b) (fails there.0 there.1) ∙ and_false (is_of_train engine there.0.0 there.0.1) in
      passing engine
      ∙ or_comm false (list_any p (take i entries))
      ∙ ap (λ (c : Bool). list_any p (take i entries) || c) (sym not_here)
      ∙ sym (one_more p)

  -- the test passes there, and the engine is added if a train stands there
  pub added : (found new : List ℕ) → ((entry : Key × Rec) → slice_get entries i ≡ Some entry → test entry.1 ≡ true)
      → ((entry : Key × Rec) (engine : ℕ) → slice_get entries i ≡ Some entry → has_number new engine ≡ (has_number found engine || is_of_train engine entry.0 entry.1))
      → ArePassing test (take i entries) found → ArePassing test (take (i + 1) entries) new
  added found new passes adds passing engine =
      let p : Key × Rec → Bool = λ (entry : Key × Rec). is_of_train engine entry.0 entry.1 && test entry.1 in
      let here : p there.0 ≡ is_of_train engine there.0.0 there.0.1 = ap (λ (b : Bool). is_of_train engine there.0.0 there.0.1 && b) (passes there.0 there.1) ∙ and_true (is_of_train engine there.0.0 there.0.1) in
      adds there.0 engine there.1
      ∙ ap (λ (c : Bool). c || is_of_train engine there.0.0 there.0.1) (passing engine)
      ∙ ap (λ (c : Bool). list_any p (take i entries) || c) (sym here)
      ∙ sym (one_more p)

-- A block is read of which no index passes, so the engines stay.
module _ (test : Rec → Bool) (entries : List (Key × Rec)) (found : List ℕ) where
  none_pass : (begin count : ℕ) → begin + count ≤ length entries
      → ((index : ℕ) (entry : Key × Rec) → begin ≤ index → index < begin + count → slice_get entries index ≡ Some entry → test entry.1 ≡ false)
      → ArePassing test (take begin entries) found → ArePassing test (take (begin + count) entries) found
  none_pass begin zero within fails passing =
      let same : begin ≡ begin + 0 = omega arith in
      subst (λ (k : ℕ). ArePassing test (take k entries) found) same passing
  none_pass begin (suc count) within fails passing =
      let before = none_pass begin count (omega (arith, within)) (λ index entry from to. fails index entry from (omega (arith, to))) passing in
      let more = passed_by test entries (begin + count) (omega (arith, within)) found (λ entry. fails (begin + count) entry (omega arith) (omega arith)) before in
      let next : begin + count + 1 ≡ begin + suc count = omega arith in
      subst (λ (k : ℕ). ArePassing test (take k entries) found) next more

  pub skipped : (begin end : ℕ) → begin ≤ end → end ≤ length entries
      → ((index : ℕ) (entry : Key × Rec) → begin ≤ index → index < end → slice_get entries index ≡ Some entry → test entry.1 ≡ false)
      → ArePassing test (take begin entries) found → ArePassing test (take end entries) found
  skipped begin end order within fails passing =
      let up : begin + (end - begin) ≡ end = omega (arith, order) in
      let all = none_pass begin (end - begin) (omega (arith, order, within)) (λ index entry from to. fails index entry from (omega (arith, order, to))) passing in
      subst (λ (k : ℕ). ArePassing test (take k entries) found) up all

-- what holds of each number from the beginning, and of one more
pub one_further : (P : ℕ → Type 0) (begin n : ℕ) → ((i : ℕ) → begin ≤ i → i < n → P i) → P n → (i : ℕ) → begin ≤ i → i < n + 1 → P i
one_further P begin n before last i from below = by (i == n) refl
  where
    by : (same : Bool) → (i == n) ≡ same → P i
    by true same = subst P (sym ((Decides-eqb i n).0 same)) last
    by false other = before i from (grind (arith, nat_tests))
