-- A line that is appended in two pieces.
use Rattle.std.proofs.Common.{◌≡◌, ◌++◌, ℕ, List, sym, ap, ◌∙◌, arith}
use Rattle.std.specs.Prelude.{codes}
use Rattle.std.specs.Fmt.{decimal}
use Rattle.std.proofs.lemmas.Fmt.{decimal_digit}
use Rattle.std.proofs.lemmas.List.{append_assoc}
use Rattle.rbc_rule.specs.declared.outcome.Reply.TheVariants.{Done}
use Rattle.rbc_text.specs.OutputText.{result_line}

regrouped : (text a b c d : List ℕ) → (text ++ a) ++ (b ++ (c ++ d)) ≡ text ++ (((a ++ b) ++ c) ++ d)
regrouped text a b c d = append_assoc text a (b ++ (c ++ d)) ∙ ap (λ rest. text ++ rest) (sym (append_assoc (a ++ b) c d ∙ append_assoc a b (c ++ d)))

-- the number of an input, and that nothing was sent, are its line
pub nothing_sent : (text : List ℕ) (input : ℕ) → (text ++ decimal input) ++ codes " ok 0\n" ≡ text ++ result_line (input, Done 0)
nothing_sent text input =
    ap (λ count. (text ++ decimal input) ++ (codes " " ++ ((codes "ok " ++ count) ++ codes "\n"))) (sym (decimal_digit 0 (omega arith)))
    ∙ regrouped text (decimal input) (codes " ") (codes "ok " ++ decimal 0) (codes "\n")
