-- Each call of a book keeps what is true of it.
use Rattle.std.proofs.Common.{◌≡◌, ◌≢◌, ◌⊎◌, ℕ, zero, suc, ◌+◌, ◌-◌, ◌<◌, ◌≤◌, Bool, true, false, cond, List, [], ◌∷◌, length, take, set, Option, Some, None, inl, inr, ⊎_elim, refl, sym, ap, ◌∙◌, subst, arith}
use Rattle.std.specs.Prelude.{slice_get, replicate}
use Rattle.std.proofs.lemmas.List.{length-set, length-replicate, length-append}
use Rattle.std.proofs.lemmas.Option.{slice_get_within, get_or_from_slice_get}
use Rattle.rbc_records.specs.declared.record.Key.{Key}
use Rattle.rbc_records.specs.Notes.{same_key}
use Rattle.rbc_versions.specs.Log.{LogName, Shown, number_of}
use Rattle.rbc_versions.specs.Entries.{NumberedRec, AreCurrent, numbered, ticket_in, tickets_after, numbers_after}
use Rattle.rbc_rule.specs.declared.input.Input.{Input}
use Rattle.rbc_rule.specs.declared.outcome.Outcome.{Outcome}
use Rattle.rbc_rule.specs.Inputs.{Fits}
use Rattle.rbc_desk.specs.Held.{Standing, Holds, IsOutcomeOf, after_outcome}
use Rattle.rbc_desk.specs.Serial.{Desk, step, serial}
use Rattle.rbc_desk.proofs.Runs.{fold_more, All-get}
use Rattle.rbc_desk.proofs.Stands.{holds_after, boxes_after}
use Rattle.rbc_core.specs.declared.stage.Stage.{Stage}
use Rattle.rbc_core.specs.declared.stage.Stage.TheVariants.{Free, Out, Tried, Void}
use Rattle.rbc_core.specs.Runs.{Run, IsGoodRun, IsInput}
use Rattle.rbc_core.specs.Core.{Try, IsRightTry, State, opening, IsAt, front, IsReady, IsStale}
use Rattle.rbc_core.specs.declared.book.Commit.TheVariants.{Applied, Recomputed, NotReady, Failed}
use Rattle.rbc_core.specs.Events.{Happens, Commits}
use Rattle.rbc_core.specs.Events.Event.{Takes, Deposits, Voids}
use Rattle.rbc_core.specs.Books.{IsStage, AreStages, IsKept, IsOutIn, Judges, IsJudged, IsCarriedOut, number_now}

module _ {A : Type 0} where
  -- what is read from a list after a write
  pub slice_get_set : (xs : List A) (i k : ℕ) (x y : A) → slice_get (set xs i x) k ≡ Some y → ((k ≡ i) × (x ≡ y)) ⊎ ((k ≢ i) × (slice_get xs k ≡ Some y))
  slice_get_set [] i k x y e = absurd (cc e)
  slice_get_set (z ∷ zs) zero zero x y e = inl (refl, cc e)
  slice_get_set (z ∷ zs) zero (suc k) x y e = inr ((λ h. omega (arith, h)), e)
  slice_get_set (z ∷ zs) (suc i) zero x y e = inr ((λ h. omega (arith, h)), e)
  slice_get_set (z ∷ zs) (suc i) (suc k) x y e =
      ⊎_elim (λ (q : (k ≡ i) × (x ≡ y)). inl (ap suc q.0, q.1)) (λ (q : (k ≢ i) × (slice_get zs k ≡ Some y)). inr ((λ h. q.0 (omega (arith, h))), q.1)) (slice_get_set zs i k x y e)

  pub slice_get_at : (xs : List A) (i : ℕ) (x : A) → i < length xs → slice_get (set xs i x) i ≡ Some x
  slice_get_at [] i x lt = absurd (omega arith)
  slice_get_at (z ∷ zs) zero x lt = refl
  slice_get_at (z ∷ zs) (suc i) x lt = slice_get_at zs i x (omega arith)

  pub slice_get_replicate : (n k : ℕ) (x y : A) → slice_get (replicate n x) k ≡ Some y → y ≡ x
  slice_get_replicate zero k x y e = absurd (cc e)
  slice_get_replicate (suc n) zero x y e = cc e
  slice_get_replicate (suc n) (suc k) x y e = slice_get_replicate n k x y e

  pub set_set : (xs : List A) (i : ℕ) (x y : A) → set (set xs i x) i y ≡ set xs i y
  set_set [] i x y = refl
  set_set (z ∷ zs) zero x y = refl
  set_set (z ∷ zs) (suc i) x y = ap (λ l. z ∷ l) (set_set zs i x y)

-- ---- stages

-- one stage changes
pub stages_set : (xs : List (Stage Try)) (i n t n' t' : ℕ) (x : Stage Try) → AreStages n t xs → IsStage n' t' i x → ((k : ℕ) (g : Stage Try) → k ≢ i → IsStage n t k g → IsStage n' t' k g) → AreStages n' t' (set xs i x)
stages_set xs i n t n' t' x old new others k g e =
    ⊎_elim
    (λ (q : (k ≡ i) × (x ≡ g)). subst (λ (y : Stage Try). IsStage n' t' k y) q.1 (subst (λ (j : ℕ). IsStage n' t' j x) (sym q.0) new))
    (λ (q : (k ≢ i) × (slice_get xs k ≡ Some g)). others k g q.0 (old k g q.1))
    (slice_get_set xs i k x g e)

stage_taken : (n t k : ℕ) (g : Stage Try) → k ≢ t → IsStage n t k g → IsStage n (t + 1) k g
stage_taken n t k Free ne h = ⊎_elim (λ (q : k < n). inl q) (λ (q : t ≤ k). inr (omega (arith, q, ne))) h
stage_taken n t k Out ne h = (h.0, omega arith)
stage_taken n t k (Tried a) ne h = (h.0, omega arith, h.2)
stage_taken n t k Void ne h = (h.0, omega arith)

stage_committed : (n t k : ℕ) (g : Stage Try) → k ≢ n → IsStage n t k g → IsStage (n + 1) t k g
stage_committed n t k Free ne h = ⊎_elim (λ (q : k < n). inl (omega (arith, q))) (λ (q : t ≤ k). inr q) h
stage_committed n t k Out ne h = (omega arith, h.1)
stage_committed n t k (Tried a) ne h = (omega arith, h.1, h.2)
stage_committed n t k Void ne h = (omega arith, h.1)

-- ---- states

-- one input more is committed: with this desk, these present numbers, these stages and this count of inputs that were recomputed
abbrev pub committed : State → Standing → (Key → ℕ) → List (Stage Try) → ℕ → State
committed s desk present stages recomputed = record { desk = desk; present = present; stages = stages; committed = s.committed + 1; taken = s.taken; recomputed = recomputed; closed = s.closed }

-- nothing more is taken: with this desk, these present numbers and these stages
abbrev pub lost : State → Standing → (Key → ℕ) → List (Stage Try) → State
lost s desk present stages = record { desk = desk; present = present; stages = stages; committed = s.committed; taken = s.taken; recomputed = s.recomputed; closed = true }

-- ---- what is true of each book

pub opens : (run : Run) (numbers : Key → ℕ) → IsGoodRun run → IsKept run (opening run numbers)
opens run numbers good = record {
  good = good;
  serial = λ desk h. h;
  boxes = good.in_order;
  results = omega arith;
  all = length-replicate (length run.inputs) Free;
  in_turn = omega arith;
  in_range = omega arith;
  counted = omega arith;
  stages = λ k g e. subst (IsStage 0 0 k) (sym (slice_get_replicate (length run.inputs) k Free g e)) (inr (omega arith));
}

-- the next input is taken
pub takes : (run : Run) (s : State) (k : ℕ) → IsKept run s → k ≡ s.taken → s.taken < length run.inputs → IsKept run (record s { stages = set s.stages k Out; taken = s.taken + 1 })
takes run s k b is more = record {
  good = b.good;
  serial = b.serial;
  boxes = b.boxes;
  results = b.results;
  all = length-set s.stages k Out ∙ b.all;
  in_turn = let h = b.in_turn in omega (arith, h);
  in_range = omega arith;
  counted = b.counted;
  stages = stages_set s.stages k s.committed s.taken s.committed (s.taken + 1) Out b.stages (let h = b.in_turn in (omega (arith, h, is), omega (arith, is))) (λ j g ne h. stage_taken s.committed s.taken j g (λ e. ne (e ∙ sym is)) h);
}

-- a stage changes
pub keeps : (run : Run) (s : State) (k : ℕ) (x : Stage Try) → IsKept run s → IsStage s.committed s.taken k x → IsKept run (record s { stages = set s.stages k x })
keeps run s k x b new = record {
  good = b.good;
  serial = b.serial;
  boxes = b.boxes;
  results = b.results;
  all = length-set s.stages k x ∙ b.all;
  in_turn = b.in_turn;
  in_range = b.in_range;
  counted = b.counted;
  stages = stages_set s.stages k s.committed s.taken s.committed s.taken x b.stages new (λ j g ne h. h);
}

-- the same with the stages that a call leaves
pub keeps_set : (run : Run) (s : State) (k : ℕ) (x : Stage Try) (xs : List (Stage Try)) → IsKept run s → IsStage s.committed s.taken k x → xs ≡ set s.stages k x → IsKept run (record s { stages = xs })
keeps_set run s k x xs b new put = subst (λ (l : List (Stage Try)). IsKept run (record s { stages = l })) (sym put) (keeps run s k x b new)

pub takes_set : (run : Run) (s : State) (xs : List (Stage Try)) → IsKept run s → s.taken < length run.inputs → xs ≡ set s.stages s.taken Out → IsKept run (record s { stages = xs; taken = s.taken + 1 })
takes_set run s xs b more put = subst (λ (l : List (Stage Try)). IsKept run (record s { stages = l; taken = s.taken + 1 })) (sym put) (takes run s s.taken b refl more)

-- the next input is taken, which is an event
pub takes_next : (run : Run) (s old : State) (xs : List (Stage Try)) → s ≡ old → s.closed ≡ false → s.taken < length run.inputs → xs ≡ set s.stages s.taken Out
    → Happens run old (Takes (Some (s.taken + 1))) (record s { stages = xs; taken = s.taken + 1 })
takes_next run s old xs is opened more put =
    subst (λ (o : State). Happens run o (Takes (Some (s.taken + 1))) (record s { stages = xs; taken = s.taken + 1 })) is (record {
      may = (opened, more, refl);
      leads = ap (λ (l : List (Stage Try)). record s { stages = l; taken = s.taken + 1 }) (put ∙ ap (λ n. set s.stages n Out) (index s.taken));
    })
  where
    index : (n : ℕ) → n ≡ n + 1 - 1
    index n = omega arith

-- the book is closed to `take`
pub closes : (run : Run) (s : State) → IsKept run s → IsKept run (record s { closed = true })
closes run s b = record {
  good = b.good;
  serial = b.serial;
  boxes = b.boxes;
  results = b.results;
  all = b.all;
  in_turn = b.in_turn;
  in_range = b.in_range;
  counted = b.counted;
  stages = b.stages;
}

-- an item has one stage
pub same_item : {A : Type 0} (xs : List A) (k : ℕ) (x y : A) → slice_get xs k ≡ Some x → slice_get xs k ≡ Some y → x ≡ y
same_item xs k x y e f = cc (e, f)

-- an outcome of the next input is taken over, whichever numbers are the present ones then
pub commits : (run : Run) (s : State) (input : Input) (outcome : Outcome) (present : Key → ℕ) (recomputed : ℕ) → IsKept run s → s.committed < s.taken → IsInput run (s.committed + 1) input
    → IsOutcomeOf run.track input s.desk.records outcome → recomputed ≤ s.committed + 1
    → IsKept run (committed s (after_outcome s.desk outcome) present (set s.stages s.committed Free) recomputed)
commits run s input outcome present recomputed b turn is right few =
    let there : slice_get run.inputs s.committed ≡ Some input = subst (λ (k : ℕ). slice_get run.inputs k ≡ Some input) (minus_one s.committed) is.there in
    let within = slice_get_within run.inputs s.committed input there in
    let more : (d : Desk) → serial run.track d (take (s.committed + 1) run.inputs) ≡ step run.track (serial run.track d (take s.committed run.inputs)) input =
    λ d. fold_more (step run.track) d run.inputs s.committed input within ∙ ap (step run.track (serial run.track d (take s.committed run.inputs))) (get_or_from_slice_get run.inputs s.committed input input there) in
    record {
      good = b.good;
      serial = λ d h. subst (Holds run.track (after_outcome s.desk outcome)) (sym (more d))
          (holds_after run.track input s.desk outcome (serial run.track d (take s.committed run.inputs)) b.good.track (All-get Fits run.inputs s.committed input b.good.fit there) b.boxes right (b.serial d h));
      boxes = boxes_after s.desk outcome b.boxes;
      results = let n = length-append s.desk.results (outcome.result ∷ []) in let m = b.results in omega (arith, n, m);
      all = length-set s.stages s.committed Free ∙ b.all;
      in_turn = omega (arith, turn);
      in_range = b.in_range;
      counted = few;
      stages = stages_set s.stages s.committed s.committed s.taken (s.committed + 1) s.taken Free b.stages (inl (omega arith)) (stage_committed s.committed s.taken);
    }
  where
    minus_one : (n : ℕ) → n + 1 - 1 ≡ n
    minus_one n = omega arith

-- ---- stages and events

-- an input that is taken and not committed is at its stage
pub at_index : (s : State) (k number : ℕ) (x : Stage Try) → number ≡ k + 1 → s.committed ≤ k → k < s.taken → slice_get s.stages k ≡ Some x → IsAt s number x
at_index s k number x is low high there = record {
  uncommitted = omega (arith, is, low);
  taken = omega (arith, is, high);
  at = ap (slice_get s.stages) (before number k is) ∙ there;
}
  where
    before : (a b : ℕ) → a ≡ b + 1 → a - 1 ≡ b
    before a b e = omega (arith, e)

-- an input that is out
pub is_out_at : (run : Run) (s : State) (number : ℕ) → IsKept run s → IsOutIn s.stages number → IsAt s number Out
is_out_at run s number b h =
    let turn = b.stages (number - 1) Out h.1 in
    at_index s (number - 1) number Out (omega (arith, h.0)) turn.0 turn.1 h.1

-- it has an index among the stages
pub out_within : (xs : List (Stage Try)) (number : ℕ) → IsOutIn xs number → number - 1 < length xs
out_within xs number out = slice_get_within xs (number - 1) Out out.1

pub out_in : (s : State) (number : ℕ) → IsAt s number Out → IsOutIn s.stages number
out_in s number a = (let low = a.uncommitted in omega (arith, low), a.at)

-- an attempt at an input that is out is kept
pub deposits : (run : Run) (s old : State) (a : Try) (number : ℕ) (xs : List (Stage Try)) → s ≡ old → IsKept run s → IsRightTry run a → IsOutIn s.stages number → number ≡ a.number → xs ≡ set s.stages (number - 1) (Tried a)
    → Happens run old (Deposits a true) (record s { stages = xs })
deposits run s old a number xs is b right out same put =
    subst (λ (o : State). Happens run o (Deposits a true) (record s { stages = xs })) is (record {
      may = (right, is_out_at run s a.number b (subst (IsOutIn s.stages) same out));
      leads = ap (λ (l : List (Stage Try)). record s { stages = l }) (put ∙ ap (λ n. set s.stages (n - 1) (Tried a)) same);
    })

-- an attempt at an input that is not out is handed back
pub hands_back : (run : Run) (s old : State) (a : Try) (number : ℕ) → s ≡ old → IsRightTry run a → (IsOutIn s.stages number → ⊥) → number ≡ a.number → Happens run old (Deposits a false) old
hands_back run s old a number is right other same =
    subst (λ (o : State). Happens run o (Deposits a false) o) is
    (record { may = (right, λ at. other (subst (IsOutIn s.stages) (sym same) (out_in s a.number at))); leads = refl })

-- an input that is not out is not given up
pub voids_none : (run : Run) (s old : State) (number : ℕ) → s ≡ old → (IsOutIn s.stages number → ⊥) → Happens run old (Voids number false) old
voids_none run s old number is other = subst (λ (o : State). Happens run o (Voids number false) o) is (record { may = λ at. other (out_in s number at); leads = refl })

-- an input that is out is given up
pub voids : (run : Run) (s old : State) (number : ℕ) (xs : List (Stage Try)) → s ≡ old → IsKept run s → IsOutIn s.stages number → xs ≡ set s.stages (number - 1) Void
    → Happens run old (Voids number true) (record s { stages = xs })
voids run s old number xs is b out put =
    subst (λ (o : State). Happens run o (Voids number true) (record s { stages = xs })) is (record {
      may = is_out_at run s number b out;
      leads = ap (λ (l : List (Stage Try)). record s { stages = l }) put;
    })

-- ---- numbers

-- the number of a ticket after a publication is the number after its entries
number_after : (entries : List (Key × Option Shown)) (tickets : Key → Option Shown) (k : Key) → number_of (tickets_after entries tickets k) ≡ numbers_after (numbered entries) (λ other. number_of (tickets other)) k
number_after [] tickets k = refl
number_after (entry ∷ entries) tickets k =
    number_after entries (λ other. cond (same_key other entry.0) entry.1 (tickets other)) k
    ∙ ap (λ (numbers : Key → ℕ). numbers_after (numbered entries) numbers k) (λ i other. over (same_key other entry.0) (tickets other) i)
  where
    over : (b : Bool) (ticket : Option Shown) → number_of (cond b entry.1 ticket) ≡ cond b (number_of entry.1) (number_of ticket)
    over true ticket = refl
    over false ticket = refl

-- so the present numbers after a commit are those of the tickets after it
pub numbers_taken_over : (entries : List (Key × Option Shown)) (before now : List (Key × Shown)) → ((k : Key) → ticket_in now k ≡ tickets_after entries (ticket_in before) k)
    → (k : Key) → number_now now k ≡ numbers_after (numbered entries) (number_now before) k
numbers_taken_over entries before now same k = ap number_of (same k) ∙ number_after entries (ticket_in before) k

-- ---- commits

pub front_index : (s : State) → s.committed ≡ front s - 1
front_index s = omega arith

-- what stands at the next input
at_front : (s : State) (x : Stage Try) → IsAt s (front s) x → slice_get s.stages s.committed ≡ Some x
at_front s x a = ap (slice_get s.stages) (front_index s) ∙ a.at

freed : (s : State) (xs : List (Stage Try)) → xs ≡ set s.stages s.committed Void → set xs s.committed Free ≡ set s.stages s.committed Free
freed s xs void = ap (λ (l : List (Stage Try)). set l s.committed Free) void ∙ set_set s.stages s.committed Void Free

-- who can be committed is in turn
pub judged_turn : (n t k : ℕ) (tickets : List (Key × Shown)) (g : Stage Try) (b : Bool) → Judges tickets g (Some b) → IsStage n t k g → (n ≤ k) × (k < t)
judged_turn n t k tickets (Tried a) b h s = (s.0, s.1)
judged_turn n t k tickets Void b h s = s
judged_turn n t k tickets Free b h s = absurd h
judged_turn n t k tickets Out b h s = absurd h

-- the next input, as it was judged by the tickets
module _ (run : Run) (s : State) (tickets : List (Key × Shown)) (b : IsKept run s) where
  pub turn_of : (fresh : Bool) → IsJudged s.stages s.committed tickets (Some fresh) → s.committed < s.taken
  turn_of fresh can = (judged_turn s.committed s.taken s.committed tickets can.0 fresh can.2 (b.stages s.committed can.0 can.1)).1

  front_at : (fresh : Bool) (x : Stage Try) → IsJudged s.stages s.committed tickets (Some fresh) → slice_get s.stages s.committed ≡ Some x → IsAt s (front s) x
  front_at fresh x can at = at_index s s.committed (front s) x refl (omega arith) (turn_of fresh can) at

  ready_stage : (g : Stage Try) (fresh : Bool) → Judges tickets g (Some fresh) → IsAt s (front s) g → IsReady s
  ready_stage (Tried a) fresh h at = inl (a, at)
  ready_stage Void fresh h at = inr at
  ready_stage Free fresh h at = absurd h
  ready_stage Out fresh h at = absurd h

  pub ready : (fresh : Bool) → IsJudged s.stages s.committed tickets (Some fresh) → IsReady s
  ready fresh can = ready_stage can.0 fresh can.2 (front_at fresh can.0 can can.1)

-- an input that is recomputed is stale
stale_stage : (s : State) (tickets : List (Key × Shown)) (g : Stage Try) → s.present ≡ number_now tickets → Judges tickets g (Some false) → IsAt s (front s) g → IsStale s
stale_stage s tickets (Tried a) now h at = inr (a, at, λ current. h (subst (AreCurrent a.notes) now current))
stale_stage s tickets Void now h at = inl at
stale_stage s tickets Free now h at = absurd h
stale_stage s tickets Out now h at = absurd h

waiting_stage : (s : State) (tickets : List (Key × Shown)) (g : Stage Try) → Judges tickets g None → slice_get s.stages s.committed ≡ Some g → ¬ (IsReady s)
waiting_stage s tickets (Tried a) h at r = absurd h
waiting_stage s tickets Void h at r = absurd h
waiting_stage s tickets Free h at r =
    ⊎_elim (λ (q : (a : Try) × IsAt s (front s) (Tried a)). absurd (cc (at_front s (Tried q.0) q.1, at))) (λ (q : IsAt s (front s) Void). absurd (cc (at_front s Void q, at))) r
waiting_stage s tickets Out h at r =
    ⊎_elim (λ (q : (a : Try) × IsAt s (front s) (Tried a)). absurd (cc (at_front s (Tried q.0) q.1, at))) (λ (q : IsAt s (front s) Void). absurd (cc (at_front s Void q, at))) r

-- the next input is not ready
pub waits : (run : Run) (s old : State) (tickets : List (Key × Shown)) → s ≡ old → s.closed ≡ false → s.committed < length run.inputs → IsJudged s.stages s.committed tickets None → Commits run old NotReady old
waits run s old tickets is opened more can = subst (λ (o : State). Commits run o NotReady o) is (record { may = (opened, more, waiting_stage s tickets can.0 can.2 can.1); leads = refl })

-- memory is refused: the next input is given up, and the book closed
pub fails : (run : Run) (s old : State) (tickets : List (Key × Shown)) (fresh : Bool) (desk : Standing) (present : Key → ℕ) (xs : List (Stage Try)) → s ≡ old → IsKept run s → s.closed ≡ false
    → IsJudged s.stages s.committed tickets (Some fresh) → desk ≡ s.desk → present ≡ s.present → xs ≡ set s.stages s.committed Void
    → Commits run old Failed (lost s desk present xs)
fails run s old tickets fresh desk present xs is b opened can same numbers void =
    subst (λ (o : State). Commits run o Failed (lost s desk present xs)) is
    (false, record { may = (opened, ready run s tickets b fresh can); leads = λ i. lost s (same i) (numbers i) ((void ∙ ap (λ n. set s.stages n Void) (front_index s)) i) })

pub fails_kept : (run : Run) (s : State) (tickets : List (Key × Shown)) (fresh : Bool) (desk : Standing) (present : Key → ℕ) (xs : List (Stage Try)) → IsKept run s
    → IsJudged s.stages s.committed tickets (Some fresh) → desk ≡ s.desk → xs ≡ set s.stages s.committed Void
    → IsKept run (lost s desk present xs)
fails_kept run s tickets fresh desk present xs b can same void =
    let turn = turn_of run s tickets b fresh can in
    subst (IsKept run) (λ i. lost s (sym same i) present (sym void i)) (renumbered (closes run (record s { stages = set s.stages s.committed Void }) (keeps run s s.committed Void b (omega arith, turn))))
  where
    -- which numbers are the present ones makes no difference
    renumbered : IsKept run (lost s s.desk s.present (set s.stages s.committed Void)) → IsKept run (lost s s.desk present (set s.stages s.committed Void))
    renumbered k = record {
      good = k.good;
      serial = k.serial;
      boxes = k.boxes;
      results = k.results;
      all = k.all;
      in_turn = k.in_turn;
      in_range = k.in_range;
      counted = k.counted;
      stages = k.stages;
    }

-- the book was closed before
pub stays_closed : (run : Run) (s old : State) → s ≡ old → s.closed ≡ true → s.committed < length run.inputs → Commits run old Failed old
stays_closed run s old is closed more = subst (λ (o : State). Commits run o Failed o) is (true, record { may = (more, inl closed); leads = λ i. record s { closed = closed i } })

-- the next input is committed
pub commits_kept : (run : Run) (log : LogName) (s : State) (before now : List (Key × Shown)) (fresh : Bool) (stage : Stage Try) (desk : Standing) (xs ys : List (Stage Try)) (recomputed : ℕ) → IsKept run s
    → IsJudged s.stages s.committed before (Some fresh) → IsCarriedOut run log s.committed stage fresh s.desk desk before now → xs ≡ set s.stages s.committed Void → ys ≡ set xs s.committed Free → recomputed ≤ s.committed + 1
    → IsKept run (committed s desk (number_now now) ys recomputed)
commits_kept run log s before now fresh stage desk xs ys recomputed b can done void free few =
    let out = done.is_outcome in
    subst (IsKept run) (λ i. committed s (sym done.taken_over i) (number_now now) (sym (free ∙ freed s xs void) i) recomputed)
    (commits run s out.input done.outcome (number_now now) recomputed b (turn_of run s before b fresh can) out.is_input out.right few)

-- the state that a commit leads to
led : (s : State) (outcome : Outcome) (entries : List (Key × Option Shown)) (writes : List (Key × NumberedRec)) (before now : List (Key × Shown)) (desk : Standing) (xs ys : List (Stage Try)) (recomputed : ℕ)
    → s.present ≡ number_now before → numbered entries ≡ writes → ((k : Key) → ticket_in now k ≡ tickets_after entries (ticket_in before) k) → desk ≡ after_outcome s.desk outcome → xs ≡ set s.stages s.committed Void → ys ≡ set xs s.committed Free
    → committed s desk (number_now now) ys recomputed ≡ committed s (after_outcome s.desk outcome) (λ k. numbers_after writes s.present k) (set s.stages (front s - 1) Free) recomputed
led s outcome entries writes before now desk xs ys recomputed numbers named tickets same void free i =
    committed s (same i) (λ k. present k i) ((free ∙ (freed s xs void ∙ ap (λ n. set s.stages n Free) (front_index s))) i) recomputed
  where
    present : (k : Key) → number_now now k ≡ numbers_after writes s.present k
    present k =
        numbers_taken_over entries before now tickets k
        ∙ (ap (λ (e : List (Key × NumberedRec)). numbers_after e (number_now before) k) named ∙ ap (λ (p : Key → ℕ). numbers_after writes p k) (sym numbers))

-- by its attempt
pub applies : (run : Run) (log : LogName) (s old : State) (before now : List (Key × Shown)) (fresh : Bool) (stage : Stage Try) (desk : Standing) (xs ys : List (Stage Try)) → s ≡ old → IsKept run s → s.present ≡ number_now before
    → s.closed ≡ false → fresh ≡ true → IsJudged s.stages s.committed before (Some fresh) → slice_get s.stages s.committed ≡ Some stage → IsCarriedOut run log s.committed stage fresh s.desk desk before now
    → xs ≡ set s.stages s.committed Void → ys ≡ set xs s.committed Free
    → Commits run old Applied (committed s desk (number_now now) ys s.recomputed)
applies run log s old before now fresh stage desk xs ys is b numbers opened set_true judged at carried void free =
    let can : IsJudged s.stages s.committed before (Some true) = subst (λ f. IsJudged s.stages s.committed before (Some f)) set_true judged in
    let done : IsCarriedOut run log s.committed stage true s.desk desk before now = subst (λ f. IsCarriedOut run log s.committed stage f s.desk desk before now) set_true carried in
    let attempt = done.is_outcome.attempt in
    let there : slice_get s.stages s.committed ≡ Some (Tried attempt.0) = at ∙ ap Some attempt.1 in
    let judges = subst (λ (x : Stage Try). Judges before x (Some true)) (same_item s.stages s.committed can.0 (Tried attempt.0) can.1 there) can.2 in
    let current : AreCurrent attempt.0.notes s.present = subst (AreCurrent attempt.0.notes) (sym numbers) judges.0 in
    subst (λ (o : State). Commits run o Applied (committed s desk (number_now now) ys s.recomputed)) is (
      done.outcome,
      attempt.0.writes,
      record {
        may = (opened, (attempt.0, front_at run s before b true (Tried attempt.0) can there, current, attempt.2, refl));
        leads = led s done.outcome done.entries attempt.0.writes before now desk xs ys s.recomputed numbers attempt.3 done.tickets done.taken_over void free;
      },
    )

-- or computed here
pub recomputes : (run : Run) (log : LogName) (s old : State) (before now : List (Key × Shown)) (fresh : Bool) (stage : Stage Try) (desk : Standing) (xs ys : List (Stage Try)) → s ≡ old → IsKept run s → s.present ≡ number_now before
    → s.closed ≡ false → fresh ≡ false → IsJudged s.stages s.committed before (Some fresh) → IsCarriedOut run log s.committed stage fresh s.desk desk before now → xs ≡ set s.stages s.committed Void → ys ≡ set xs s.committed Free
    → Commits run old Recomputed (committed s desk (number_now now) ys (s.recomputed + 1))
recomputes run log s old before now fresh stage desk xs ys is b numbers opened set_false judged carried void free =
    let can : IsJudged s.stages s.committed before (Some false) = subst (λ f. IsJudged s.stages s.committed before (Some f)) set_false judged in
    let done : IsCarriedOut run log s.committed stage false s.desk desk before now = subst (λ f. IsCarriedOut run log s.committed stage f s.desk desk before now) set_false carried in
    let out = done.is_outcome in
    let stale : IsStale s = stale_stage s before can.0 numbers can.2 (front_at run s before b false can.0 can can.1) in
    subst (λ (o : State). Commits run o Recomputed (committed s desk (number_now now) ys (s.recomputed + 1))) is (
      done.outcome,
      numbered done.entries,
      record {
        may = (opened, stale, (out.input, out.is_input, out.right), out.writes);
        leads = led s done.outcome done.entries (numbered done.entries) before now desk xs ys (s.recomputed + 1) numbers refl done.tickets done.taken_over void free;
      },
    )
