-- The part of the list on a code that has one row.
use Rattle.std.proofs.Common.{◌≡◌, ◌∙◌, ℕ, List, Option, Some, None, sym, subst, append-nil}
use Rattle.std.specs.Prelude.{IsSomeAnd}
use Rattle.rbc_rule.specs.Codes.{code_of}
use Rattle.rbc_rule.specs.declared.refuse.Refusal.{Refusal}
use Rattle.rbc_words.specs.declared.codes.Row.{Row}
use Rattle.rbc_dispatch.specs.Parts.{AreRowsOf, IsPartOn, row_text}

pub one_row : (code : ℕ) (rows : Option (Row × Option Row)) (row : Row) (more : Option Row) (text : List ℕ) → rows ≡ Some (row, more) → more ≡ None
    → ((refusal : Refusal) → code ≡ code_of refusal → IsSomeAnd rows (AreRowsOf refusal)) → text ≡ row_text row → IsPartOn code text
one_row code rows row more text are none each is = λ refusal same.
    let found : AreRowsOf refusal (row, more) = subst (λ (o : Option (Row × Option Row)). IsSomeAnd o (AreRowsOf refusal)) are (each refusal same) in
    let alone : AreRowsOf refusal (row, None) = subst (λ (o : Option Row). AreRowsOf refusal (row, o)) none found in
    ((row, None), alone, is ∙ sym (append-nil (row_text row)))
