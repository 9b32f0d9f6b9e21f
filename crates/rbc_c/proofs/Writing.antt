-- One more message is written.
use Rattle.std.proofs.Common.{◌≡◌, ◌≢◌, ℕ, zero, suc, ◌+◌, ◌<◌, List, [], ◌∷◌, length, set, slice_get, Some, refl, sym, ap, ◌∙◌, subst, arith, inl, inr}
use Rattle.std.proofs.lemmas.Bool.{cases_lt}
use Rattle.rbc_settle.specs.declared.sent.Sent.{Sent}
use Rattle.rbc_c.specs.declared.message.Message.{Message}
use Rattle.rbc_c.specs.Messages.{IsWritten}

-- what a place has after it was written, and what another one has
written_at : {A : Type 0} (xs : List A) (i : ℕ) (x : A) → i < length xs → slice_get (set xs i x) i ≡ Some x
written_at [] i x within = absurd (omega arith)
written_at (y ∷ xs) zero x within = refl
written_at (y ∷ xs) (suc i) x within = written_at xs i x (omega arith)

pub other_place : {A : Type 0} (xs : List A) (i k : ℕ) (x : A) → k ≢ i → slice_get (set xs i x) k ≡ slice_get xs k
other_place [] i k x other = refl
other_place (y ∷ xs) zero zero x other = absurd (other refl)
other_place (y ∷ xs) zero (suc k) x other = refl
other_place (y ∷ xs) (suc i) zero x other = refl
other_place (y ∷ xs) (suc i) (suc k) x other = other_place xs i k x (λ e. other (ap suc e))

-- this many messages are written
abbrev pub FirstAreWritten : ℕ → List Sent → List Message → Type 0
FirstAreWritten count sent out =
    (k : ℕ) (one : Sent) → k < count → slice_get sent k ≡ Some one → (message : Message) × (slice_get out k ≡ Some message) × IsWritten one message

same_one : (x y : Sent) → Some x ≡ Some y → x ≡ y
same_one x y e = cc

pub one_more : (i : ℕ) (sent : List Sent) (out : List Message) (here : Sent) (message : Message) → i < length out → slice_get sent i ≡ Some here → IsWritten here message
    → FirstAreWritten i sent out → FirstAreWritten (i + 1) sent (set out i message)
one_more i sent out here message within at_i is first k one below at_k = elim (cases_lt k i) [
  | inl before ↦
      let old = first k one before at_k in
      (old.0, other_place out i k message (λ e. absurd (omega (arith, before, e))) ∙ old.1, old.2)
  | inr not_before ↦
      let e : k ≡ i = omega arith in
      let same : here ≡ one = same_one here one (sym at_i ∙ ap (λ n. slice_get sent n) (sym e) ∙ at_k) in
      (message, ap (λ n. slice_get (set out i message) n) e ∙ written_at out i message within, subst (λ (s : Sent). IsWritten s message) same is)
]
