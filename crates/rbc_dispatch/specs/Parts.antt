-- The part of the list of codes that is about one code.
use Rattle.std.specs.Prelude.{◌≡◌, ◌↔◌, ◌++◌, ℕ, List, [], Option, IsSome, IfSome, codes}
use Rattle.std.specs.Option.{option_map_or}
use Rattle.std.specs.Fmt.{decimal}
use Rattle.rbc_rule.specs.Codes.{code_of}
use Rattle.rbc_rule.specs.declared.refuse.Refusal.{Refusal}
use Rattle.rbc_rule.specs.declared.refuse.Refusal.TheVariants.{BadArea}
use Rattle.rbc_words.specs.Rows.{IsRowOf}
use Rattle.rbc_words.specs.declared.codes.Row.{Row}
use Rattle.rbc_dispatch.specs.Columns.{to_the_right}

-- the lines of a row: its code and name, what it means and what to do
abbrev pub row_text : Row → List ℕ
row_text row =
    to_the_right 4 (decimal row.code) ++ (codes "  " ++ (row.name.now ++ (codes "\n      " ++ (row.sentence.now ++ (codes "\n      To do: " ++ (row.to_do.now ++ codes "\n"))))))

-- the row of this refusal, and after it that for restrictions, which one code has
abbrev pub AreRowsOf : Refusal → Row × Option Row → Type 0
AreRowsOf refusal rows = IsRowOf refusal rows.0 × (IsSome rows.1 ↔ (refusal ≡ BadArea)) × IfSome rows.1 (λ other. other.code ≡ code_of refusal)

-- the lines of those rows
abbrev pub rows_text : Row × Option Row → List ℕ
rows_text rows = row_text rows.0 ++ option_map_or row_text rows.1 []

-- the text is about the refusal that has this code
abbrev pub IsPartOn : ℕ → List ℕ → Type 0
IsPartOn code text = (refusal : Refusal) → code ≡ code_of refusal → (rows : Row × Option Row) × AreRowsOf refusal rows × (text ≡ rows_text rows)
