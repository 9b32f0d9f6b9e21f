-- Why an input was refused, as a value.
use Rattle.std.proofs.Common.{◌≡◌, ◌∙◌, ℕ, List, [], ◌∷◌, ◌++◌, Result, IfOk, codes, decimal, refl, sym, subst}
use Rattle.std.proofs.lemmas.Result.{IfOk-weaker}
use Rattle.rbc_rule.specs.declared.outcome.Reply.{Reply}
use Rattle.rbc_rule.specs.declared.outcome.Reply.TheVariants.{Done, Refused}
use Rattle.rbc_json.specs.Json.{Json, Null, number, object, json_text}
use Rattle.rbc_json.specs.Lists.{IsAnyText, IsTextOf}
use Rattle.rbc_json.specs.Objects.{IsRefusal}

module _ {T E : Type 0} (bytes : T → List ℕ) (r : Result T E) where
  -- a text is that of a value
  pub any_text : (value : Json) → IfOk r (λ text. bytes text ≡ json_text value) → IfOk r (λ text. IsAnyText (bytes text))
  any_text value text = IfOk-weaker r _ _ (λ one e. (value, e)) text

  -- nothing is wrong with an accepted input
  pub not_refused : (reply : Reply) (sent : ℕ) → reply ≡ Done sent → IfOk r (λ text. bytes text ≡ json_text Null) → IfOk r (λ text. IsTextOf (IsRefusal reply) (bytes text))
  not_refused reply sent done text =
      subst (λ (one : Reply). IfOk r (λ text. IsTextOf (IsRefusal one) (bytes text))) (sym done) (IfOk-weaker r _ _ (λ one e. (Null, refl, e)) text)

  -- the code of a refused one, its name, and what is wrong
  pub refused_so : (reply : Reply) (code : ℕ) (name why : List ℕ) → reply ≡ Refused code → IsAnyText name → IsAnyText why
      → IfOk r (λ text. bytes text ≡ codes "{\"code\":" ++ (decimal code ++ (codes ",\"name\":" ++ (name ++ (codes ",\"why\":" ++ (why ++ codes "}"))))))
      → IfOk r (λ text. IsTextOf (IsRefusal reply) (bytes text))
  refused_so reply code name why refused named reasoned text =
      subst (λ (one : Reply). IfOk r (λ text. IsTextOf (IsRefusal one) (bytes text))) (sym refused)
      (IfOk-weaker r _ _
      (λ one e. (
        object ((codes "code", number code) ∷ (codes "name", named.0) ∷ (codes "why", reasoned.0) ∷ []),
        (named.0, reasoned.0, refl),
        e ∙ (λ i. codes "{\"code\":" ++ (decimal code ++ (codes ",\"name\":" ++ (named.1 i ++ (codes ",\"why\":" ++ (reasoned.1 i ++ codes "}")))))),
      ))
      text)
