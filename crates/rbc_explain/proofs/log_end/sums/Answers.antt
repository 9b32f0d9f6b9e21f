use Rattle.std.proofs.Common.{◌≡◌, ℕ, List, ◌++◌, codes, decimal, subst, string_bytes, IfOk}
use Rattle.rbc_words.specs.Units.{count_text}
use Rattle.rbc_account.specs.declared.account.Sums.{Sums}
use Rattle.rbc_explain.proofs.log_end.sums.Goals as goal

-- the same for this number of inputs
abbrev text_for : ℕ → Sums → List ℕ
text_for inputs sums =
    codes "AT THE END, after " ++ (count_text inputs (codes "input") ++ (codes ": " ++ (decimal sums.accepted
    ++ (codes " accepted, " ++ (decimal sums.refused ++ (codes " refused, " ++ (count_text sums.messages (codes "message") ++ codes " sent.\n")))))))

pub returns : goal.returns
returns c =
    subst (λ (inputs : ℕ). IfOk c.format.result (λ text. string_bytes text ≡ text_for inputs c.args.account.now.sums)) c.inputs.ensures c.format.ensures.ok
