-- What the answers of several inputs do to results and outboxes, and how that is undone.
use Rattle.std.proofs.Common.{◌≡◌, ℕ, zero, suc, ◌+◌, ◌<◌, List, [], ◌∷◌, ◌++◌, length, map, take, drop, get_or, Some, Option, refl, sym, ap, ◌∙◌, subst, arith, append_assoc}
use Rattle.std.specs.Prelude.{slice_get}
use Rattle.std.proofs.lemmas.List.{append-nil, length-append, length-map, take_all, take_at, get_or-map}
use Rattle.std.proofs.lemmas.Option.{slice_get_within, slice_get-get_or, get_or_from_slice_get, same_Some}
use Rattle.rbc_settle.specs.declared.sent.Sent.{Sent}
use Rattle.rbc_records.specs.declared.record.Key.{Key}
use Rattle.rbc_records.specs.declared.record.Rec.{Rec}
use Rattle.rbc_records.specs.Writes.{written}
use Rattle.rbc_rule.specs.declared.outcome.Reply.{Reply}
use Rattle.rbc_desk.specs.declared.answer.Answer.{Answer}
use Rattle.rbc_desk.specs.declared.outbox.Mail.{Mail}
use Rattle.rbc_desk.specs.Held.{Standing, AreOutboxes, AreToTheEnginesOf, AreTakenBack, post_each}
use Rattle.rbc_desk.specs.Answers.{after_answer, after_each, after_answers, post_answers, result_of, left_of, AreLeftOf}
use Rattle.rbc_desk.proofs.Posts.{ones_keep}
use Rattle.rbc_desk.proofs.TakesBack.{as_many}

-- ---- one answer more

at_suc : (number m : ℕ) (boxes : List (ℕ × List Mail)) (answers : List Answer) (n : ℕ) (one : Answer) → m ≡ number + n → slice_get answers n ≡ Some one
    → post_answers number boxes (take (suc n) answers) ≡ post_each m (post_answers number boxes (take n answers)) one.messages.items
at_suc number m boxes [] n one is there = let within : n < 0 = slice_get_within [] n one there in absurd (omega (arith, within))
at_suc number m boxes (answer ∷ answers) zero one is there =
    let same : number ≡ m = omega (arith, is) in
    ap (λ (a : Answer). post_each number boxes a.messages.items) (same_Some answer one there) ∙ ap (λ k. post_each k boxes one.messages.items) same
at_suc number m boxes (answer ∷ answers) (suc n) one is there =
    at_suc (number + 1) m (post_each number boxes answer.messages.items) answers n one (omega (arith, is)) there

pub answers_more : (number : ℕ) (boxes : List (ℕ × List Mail)) (answers : List Answer) (n : ℕ) (one : Answer) → slice_get answers n ≡ Some one
    → post_answers number boxes (take (n + 1) answers) ≡ post_each (number + n) (post_answers number boxes (take n answers)) one.messages.items
answers_more number boxes answers n one there =
    let on : n + 1 ≡ suc n = omega arith in
    ap (λ k. post_answers number boxes (take k answers)) on ∙ at_suc number (number + n) boxes answers n one refl there

-- outboxes stay in order
pub answers_keep : (number : ℕ) (boxes : List (ℕ × List Mail)) (answers : List Answer) → AreOutboxes boxes → AreOutboxes (post_answers number boxes answers)
answers_keep number boxes [] h = h
answers_keep number boxes (answer ∷ answers) h =
    answers_keep (number + 1) (post_each number boxes answer.messages.items) answers (ones_keep number answer.messages.items boxes h)

-- ---- what is left of answers

module _ {X Y : Type 0} (f : X → Y) where
  -- lists that have the same image have the same at each index
  pub same_at : (some others : List X) (k : ℕ) (one : X) → map f others ≡ map f some → slice_get others k ≡ Some one → (slice_get some k ≡ Some (get_or some k one)) × (f (get_or some k one) ≡ f one)
  same_at some others k one alike there =
      let many : length others ≡ length some = sym (length-map others f) ∙ ap length alike ∙ length-map some f in
      let within : k < length some = subst (λ n. k < n) many (slice_get_within others k one there) in
      let same : f (get_or some k one) ≡ f one =
      sym (get_or-map f some k one (f one) within)
      ∙ ap (λ (ys : List Y). get_or ys k (f one)) (sym alike)
      ∙ get_or-map f others k one (f one) (slice_get_within others k one there)
      ∙ ap f (get_or_from_slice_get others k one one there) in
      (slice_get-get_or some k one within, same)

  pub alike_many : (some others : List X) → map f others ≡ map f some → length others ≡ length some
  alike_many some others alike = sym (length-map others f) ∙ ap length alike ∙ length-map some f

-- a list that was lent comes back with what stays in place of each answer
pub lent_back : (answers moved back : List Answer) (many : ℕ) → many ≡ length answers → AreLeftOf answers moved → back ≡ take many (moved ++ drop (length moved) answers) → back ≡ moved
lent_back answers moved back many is left came = came ∙ take_at moved (drop (length moved) answers) many (alike_many left_of answers moved left ∙ sym is)

-- an answer less: the messages of the last one are taken back
pub one_unanswered : (number : ℕ) (boxes : List (ℕ × List Mail)) (given answers : List Answer) (n k : ℕ) (one : Answer) (old new : List (ℕ × List Mail)) → AreOutboxes boxes → AreLeftOf given answers → n ≡ k + 1
    → slice_get answers k ≡ Some one → old ≡ post_answers number boxes (take n given) → AreTakenBack one.messages.items (length one.messages.items) old new → new ≡ post_answers number boxes (take k given)
one_unanswered number boxes given answers n k one old new h left is there posted back =
    let own = get_or given k one in
    let found = same_at left_of given answers k one left there in
    let engines : AreToTheEnginesOf own.messages.items one.messages.items = sym (ap (λ (l : Reply × List ℕ). l.1) found.1) in
    let many : length one.messages.items ≡ length own.messages.items = as_many own.messages.items one.messages.items engines in
    let all : take (length one.messages.items) own.messages.items ≡ own.messages.items = take_all (length one.messages.items) own.messages.items (omega (arith, many)) in
    let before = post_answers number boxes (take k given) in
    back (number + k) before own.messages.items (answers_keep number boxes (take k given) h) engines
    (posted ∙ ap (λ m. post_answers number boxes (take m given)) is ∙ answers_more number boxes given k own found.0 ∙ ap (λ (sent : List Sent). post_each (number + k) before sent) (sym all))

-- the results stay
results_of_left : (answers : List Answer) → map (λ (l : Reply × List ℕ). l.0) (map left_of answers) ≡ map result_of answers
results_of_left [] = refl
results_of_left (answer ∷ answers) = ap (λ (rest : List Reply). answer.result ∷ rest) (results_of_left answers)

pub results_left : (answers others : List Answer) → AreLeftOf answers others → map result_of others ≡ map result_of answers
results_left answers others left = sym (results_of_left others) ∙ ap (λ (ls : List (Reply × List ℕ)). map (λ (l : Reply × List ℕ). l.0) ls) left ∙ results_of_left answers

-- ---- what all of them leave

pub results_after : (held : Standing) (answers : List Answer) → (after_each held answers).results ≡ held.results ++ map result_of answers
results_after held [] = sym (append-nil held.results)
results_after held (answer ∷ answers) = results_after (after_answer held answer) answers ∙ append_assoc held.results (answer.result ∷ []) (map result_of answers)

posted_after : (number : ℕ) (held : Standing) (answers : List Answer) → number ≡ length held.results + 1 → (after_each held answers).outboxes ≡ post_answers number held.outboxes answers
posted_after number held [] is = refl
posted_after number held (answer ∷ answers) is =
    let more : length (held.results ++ answer.result ∷ []) ≡ length held.results + 1 = length-append held.results (answer.result ∷ []) in
    posted_after (number + 1) (after_answer held answer) answers (omega (arith, is, more))
    ∙ ap (λ n. post_answers (number + 1) (post_each n held.outboxes answer.messages.items) answers) (sym is)

-- results, outboxes and records that are those of the answers and the writes
pub answered : (held : Standing) (answers : List Answer) (writes : List (Key × Option Rec)) (number : ℕ) (records : Key → Option Rec) (results : List Reply) (boxes : List (ℕ × List Mail))
    → number ≡ length held.results + 1 → ((k : Key) → records k ≡ written writes held.records k) → results ≡ held.results ++ map result_of answers → boxes ≡ post_answers number held.outboxes answers
    → ◌≡◌ {A = Standing} (record { records = records; results = results; outboxes = boxes }) (after_answers held answers writes)
answered held answers writes number records results boxes is wrote said posted =
    let rs : results ≡ (after_each held answers).results = said ∙ sym (results_after held answers) in
    let bs : boxes ≡ (after_each held answers).outboxes = posted ∙ sym (posted_after number held answers is) in
    λ i. record { records = λ k. wrote k i; results = rs i; outboxes = bs i }
