-- What shares keep, gathered in the order of the inputs.
use Rattle.std.proofs.Common.{◌≡◌, ◌⊎◌, ℕ, zero, suc, ◌+◌, ◌≤◌, Bool, true, false, cond, List, [], ◌∷◌, ◌++◌, length, take, drop, Option, Some, None, IfSome, inl, inr, ⊎_elim, set, eqb, eq-eqb, ne_eqb, refl, sym, ap, subst, ◌∙◌, slice_get, All, IsTrue, append_assoc, append-nil, drop_of_length-le, take_all, true≢false, arith}
use Rattle.std.proofs.lemmas.List.Elements.{All-nil, All-push}
use Rattle.std.proofs.lemmas.Option.{none-some, same_Some}
use Rattle.rbc_settle.specs.declared.train.TrainRec.{TrainRec}
use Rattle.rbc_settle.specs.Numbers.{with_number, without_number}
use Rattle.rbc_records.specs.declared.record.Key.{Key}
use Rattle.rbc_records.specs.declared.record.Key.TheVariants as key
use Rattle.rbc_records.specs.Notes.{same_key}
use Rattle.rbc_records.specs.Writes.{written}
use Rattle.rbc_rule.specs.declared.input.Input.{Input}
use Rattle.rbc_rule.specs.Records.{engines_record}
use Rattle.rbc_rule.specs.Lists.{is_list, engines_in}
use Rattle.rbc_rule.specs.Gathered.{AreSendable}
use Rattle.rbc_desk.specs.declared.answer.Answer.{Answer}
use Rattle.rbc_window.specs.declared.kept.Kept.{Kept}
use Rattle.rbc_window.specs.declared.share.Share.{Share}
use Rattle.rbc_window.specs.Messages.{Records, Setting, moves_in, outcome_of, next_records, records_after, sender}
use Rattle.rbc_window.specs.Kept.{AreKept, BeginsWith, IsKept, engine_or_none, has_engine, share_of}
use Rattle.rbc_window.specs.Moving.{list_or}
use Rattle.rbc_window.specs.Shares.{TrainsStand}
use Rattle.rbc_window.proofs.Hearings.{moves_elsewhere, train_no_list}
use Rattle.rbc_window.proofs.Taking.{drop_at_place, records_then}
use Rattle.rbc_window.specs.Gathering.{AreAnswers, HaveTrains, KeepRest}

-- what the first inputs leave: whatever answers the others have come behind the answers, and the lists stand as they do after the first
pub record IsGathered (s : Setting) (records : Records) (inputs : List Input) (at : ℕ) (all : List Share) (lists : List (Key × List ℕ)) (answers : List Answer) : Type 0 where
  pub rest : KeepRest s (records_after s records (take at inputs)) (drop at inputs) all
  pub answered : (more : List Answer) → AreAnswers s (records_after s records (take at inputs)) (drop at inputs) more → AreAnswers s records inputs (answers ++ more)
  pub listed : (k : Key) → IsTrue (is_list k) → list_or lists records k ≡ records_after s records (take at inputs) k
  pub others : (k : Key) → is_list k ≡ false → list_or lists records k ≡ records k
  pub fit : All (λ (answer : Answer). AreSendable answer.messages.items) answers

-- a key that is no list's is another than a list's
no_list_apart : (k list : Key) → is_list k ≡ false → IsTrue (is_list list) → same_key k list ≡ false
no_list_apart key.Roster list none is_one = absurd (true≢false none)
no_list_apart (key.Train engine) list none is_one = train_no_list engine list is_one
no_list_apart key.Stops key.Roster none is_one = refl
no_list_apart key.Stops (key.Train engine) none is_one = refl
no_list_apart key.Stops key.Stops none is_one = absurd (true≢false (sym is_one))
no_list_apart key.Stops key.Limits none is_one = refl
no_list_apart key.Stops (key.Line line) none is_one = refl
no_list_apart key.Stops key.Unplaced none is_one = refl
no_list_apart key.Limits key.Roster none is_one = refl
no_list_apart key.Limits (key.Train engine) none is_one = refl
no_list_apart key.Limits key.Stops none is_one = refl
no_list_apart key.Limits key.Limits none is_one = absurd (true≢false (sym is_one))
no_list_apart key.Limits (key.Line line) none is_one = refl
no_list_apart key.Limits key.Unplaced none is_one = refl
no_list_apart (key.Line line) list none is_one = absurd (true≢false none)
no_list_apart key.Unplaced list none is_one = absurd (true≢false none)

-- a move does the same to lists that are the same
moves_alike : (one other : Records) (engine : ℕ) (left entered k : Key) → one left ≡ other left → one entered ≡ other entered → one k ≡ other k
    → written (moves_in one engine left entered) one k ≡ written (moves_in other engine left entered) other k
moves_alike one other engine left entered k same_left same_entered same = by (same_key left entered)
  where
    by : (b : Bool)
        → written (cond b [] ((left, engines_record (without_number engine (engines_in (one left)))) ∷ (entered, engines_record (with_number engine (engines_in (one entered)))) ∷ [])) one k
        ≡ written (cond b [] ((left, engines_record (without_number engine (engines_in (other left)))) ∷ (entered, engines_record (with_number engine (engines_in (other entered)))) ∷ [])) other k
    by true = same
    by false = λ i. cond (same_key k entered) (engines_record (with_number engine (engines_in (same_entered i)))) (cond (same_key k left) (engines_record (without_number engine (engines_in (same_left i)))) (same i))

module _ (s : Setting) (records : Records) (inputs : List Input) where
  pub gather_begins : (all : List Share) (lists : List (Key × List ℕ)) (answers : List Answer) → lists ≡ [] → answers ≡ [] → KeepRest s records inputs all → IsGathered s records inputs 0 all lists answers
  gather_begins all lists answers no_lists no_answers keep = record {
    rest = keep;
    answered = λ more h. subst (λ (given : List Answer). AreAnswers s records inputs (given ++ more)) (sym no_answers) h;
    listed = λ k is. ap (λ (ls : List (Key × List ℕ)). list_or ls records k) no_lists;
    others = λ k is. ap (λ (ls : List (Key × List ℕ)). list_or ls records k) no_lists;
    fit = subst (All (λ (answer : Answer). AreSendable answer.messages.items)) (sym no_answers) (All-nil _);
  }

  pub one_gathered : (at next : ℕ) (input : Input) (engine : ℕ) (all all2 : List Share) (lists lists2 : List (Key × List ℕ)) (answers answers2 : List Answer) (kept : Kept)
      → slice_get inputs at ≡ Some input → next ≡ at + 1
      → IsKept (records_after s records (take at inputs)) (outcome_of s (records_after s records (take at inputs)) input) engine kept
      → KeepRest s (next_records s (records_after s records (take at inputs)) input) (drop next inputs) all2
      → ((k : Key) → list_or lists2 records k ≡ written (moves_in (list_or lists records) engine kept.left kept.entered) (list_or lists records) k)
      → answers2 ≡ answers ++ kept.answer ∷ []
      → IsGathered s records inputs at all lists answers → IsGathered s records inputs next all2 lists2 answers2
  one_gathered at next input engine all all2 lists lists2 answers answers2 kept is follows found left moved pushed h =
      let before = records_after s records (take at inputs) in
      let then_records : records_after s records (take next inputs) ≡ next_records s before input = records_then s records inputs at next input is follows in
      let split : drop at inputs ≡ input ∷ drop next inputs = drop_at_place inputs at input is ∙ ap (λ n. input ∷ drop n inputs) (sym follows) in
      record {
        rest = subst (λ (r : Records). KeepRest s r (drop next inputs) all2) (sym then_records) left;
        answered = λ more k.
            subst (λ (given : List Answer). AreAnswers s records inputs given) (sym (append_assoc answers (kept.answer ∷ []) more) ∙ ap (λ (given : List Answer). given ++ more) (sym pushed))
            (h.answered (kept.answer ∷ more) (subst (λ (rest : List Input). AreAnswers s before rest (kept.answer ∷ more)) (sym split)
            (found.answer, subst (λ (r : Records). AreAnswers s r (drop next inputs) more) then_records k)));
        listed = λ k is_one.
            moved k
            ∙ moves_alike (list_or lists records) before engine kept.left kept.entered k (h.listed kept.left found.left) (h.listed kept.entered found.entered) (h.listed k is_one)
            ∙ sym (found.move k is_one)
            ∙ sym (ap (λ (r : Records). r k) then_records);
        others = λ k no_one.
            moved k
            ∙ moves_elsewhere (list_or lists records) engine kept.left kept.entered k (no_list_apart k kept.left no_one found.left) (no_list_apart k kept.entered no_one found.entered)
            ∙ h.others k no_one;
        fit = subst (All (λ (answer : Answer). AreSendable answer.messages.items)) (sym pushed) (All-push (λ (answer : Answer). AreSendable answer.messages.items) answers kept.answer h.fit found.sendable);
      }

  module _ (at : ℕ) (all : List Share) (lists : List (Key × List ℕ)) (answers : List Answer) (past : length inputs ≤ at) (h : IsGathered s records inputs at all lists answers) where
    pub gathered_answers : AreAnswers s records inputs answers
    gathered_answers =
        subst (λ (given : List Answer). AreAnswers s records inputs given) (append-nil answers)
        (h.answered [] (subst (λ (rest : List Input). AreAnswers s (records_after s records (take at inputs)) rest []) (sym (drop_of_length-le inputs past)) refl))

    pub gathered_lists : (k : Key) → IsTrue (is_list k) → list_or lists records k ≡ records_after s records inputs k
    gathered_lists k is = h.listed k is ∙ ap (λ (first : List Input). records_after s records first k) (take_all at inputs past)

-- ---- what is kept of the next message

-- one place of a list changes
set_place : {A : Type 0} (xs : List A) (i k : ℕ) (x y : A) → slice_get (set xs i x) k ≡ Some y → ((k ≡ i) × (x ≡ y)) ⊎ ((k ≡ i → ⊥) × (slice_get xs k ≡ Some y))
set_place [] i k x y e = absurd (none-some y e)
set_place (z ∷ zs) zero zero x y e = inl (refl, same_Some x y e)
set_place (z ∷ zs) zero (suc k) x y e = inr (λ same. omega (arith, same), e)
set_place (z ∷ zs) (suc i) zero x y e = inr (λ same. omega (arith, same), e)
set_place (z ∷ zs) (suc i) (suc k) x y e =
    ⊎_elim (λ (q : (k ≡ i) × (x ≡ y)). inl (ap suc q.0, q.1)) (λ (q : (k ≡ i → ⊥) × (slice_get zs k ≡ Some y)). inr (λ same. q.0 (let s = same in omega (arith, s)), q.1)) (set_place zs i k x y e)

module _ (all : List Share) (place engine : ℕ) (old new : Share) (here : place ≡ share_of engine) (is : slice_get all place ≡ Some old) where
  pub next_kept : (result : Option Kept) → IfSome result (λ kept. old.kept.items ≡ kept ∷ new.kept.items)
      → IfSome result (λ kept. (s : Setting) (records : Records) (input : Input) (inputs : List Input) → sender input ≡ Some engine → KeepRest s records (input ∷ inputs) all
      → IsKept records (outcome_of s records input) engine kept × KeepRest s (next_records s records input) inputs (set all place new))
  next_kept None h = tt
  next_kept (Some kept) h = λ s records input inputs from keep.
      let Is : ℕ → Kept → Type 0 = λ e k. IsKept records (outcome_of s records input) e k in
      let Rest : ℕ → List Kept → Type 0 = λ p ks. AreKept s p (next_records s records input) inputs ks in
      let has : has_engine place (sender input) ≡ true = ap (has_engine place) from ∙ ap (λ n. eqb n place) (sym here) ∙ eq-eqb place place refl in
      let e_is : engine_or_none (sender input) ≡ engine = ap engine_or_none from in
      let own : BeginsWith true (Is (engine_or_none (sender input))) (Rest place) (kept ∷ new.kept.items) =
      subst (λ (ks : List Kept). BeginsWith true (Is (engine_or_none (sender input))) (Rest place) ks) h
      (subst (λ (b : Bool). BeginsWith b (Is (engine_or_none (sender input))) (Rest place) old.kept.items) has (keep place old is))
      in (
        subst (λ e. Is e kept) e_is own.0,
        λ other share found.
            ⊎_elim
            (λ (e : (other ≡ place) × (new ≡ share)). subst (λ (one : Share). Rest other one.kept.items) e.1 (subst (λ p. Rest p new.kept.items) (sym e.0) own.1))
            (λ (e : (other ≡ place → ⊥) × (slice_get all other ≡ Some share)).
            subst (λ (b : Bool). BeginsWith b (Is (engine_or_none (sender input))) (Rest other) share.kept.items)
            (ap (has_engine other) from ∙ ne_eqb (share_of engine) other (λ same. e.0 (sym same ∙ sym here)))
            (keep other share e.1))
            (set_place all place other new share found),
      )

  pub trains_kept : new.trains ≡ old.trains → (s : Setting) (records : Records) (inputs : List Input) → HaveTrains s records inputs all → HaveTrains s records inputs (set all place new)
  trains_kept same s records inputs have other share found =
      ⊎_elim
      (λ (e : (other ≡ place) × (new ≡ share)).
      subst (λ (one : Share). TrainsStand s other records inputs one.trains) e.1
      (subst (λ (trains : List (ℕ × TrainRec)). TrainsStand s other records inputs trains) (sym same)
      (subst (λ p. TrainsStand s p records inputs old.trains) (sym e.0) (have place old is))))
      (λ (e : (other ≡ place → ⊥) × (slice_get all other ≡ Some share)). have other share e.1)
      (set_place all place other new share found)
