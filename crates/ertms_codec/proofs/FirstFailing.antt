-- The first step that fails is one.
use Rattle.std.proofs.Common.{◌≡◌, sym, ◌∙◌, inl, inr}
use Rattle.ertms_codec.specs.declared.error.DecodeError.{DecodeError}
use Rattle.ertms_codec.specs.Refusals.{Unless, Never}

-- only one refusal comes of the steps
abbrev pub IsOnce : (DecodeError → Type 0) → Type 0
IsOnce Next = (a b : DecodeError) → Next a → Next b → a ≡ b

pub never : IsOnce Never
never a b p q = absurd p

pub once : (Step : Type 0) (refusal : DecodeError) (Next : DecodeError → Type 0) → IsOnce Next → IsOnce (Unless Step refusal Next)
once Step refusal Next next a b p q =
    elim p [
      | inl x ↦ elim q [
        | inl y ↦ x.1 ∙ sym y.1
        | inr y ↦ absurd (x.0 y.0)
      ]
      | inr x ↦ elim q [
        | inl y ↦ absurd (y.0 x.0)
        | inr y ↦ next a b x.1 y.1
      ]
    ]

-- the same steps, of which the last one is another
pub instead : (Step : Type 0) (refusal : DecodeError) (Next Other : DecodeError → Type 0) → ((e : DecodeError) → Next e → Other e) → (e : DecodeError) → Unless Step refusal Next e → Unless Step refusal Other e
instead Step refusal Next Other next e p = elim p [ inl x ↦ inl x | inr x ↦ inr (x.0, next e x.1) ]

-- a last step that holds only where another does
pub last : (Step Other : Type 0) (refusal : DecodeError) → (Other → Step) → (e : DecodeError) → Unless Step refusal Never e → Unless Other refusal Never e
last Step Other refusal follows e p = elim p [ inl x ↦ inl (λ other. x.0 (follows other), x.1) | inr x ↦ absurd x.1 ]
