-- The last word of a line that may go on.
use Rattle.std.specs.Prelude.{◌≡◌, ◌⊎◌, ◌+◌, ◌<◌, ◌≤◌, ℕ, List, [], ◌∷◌, ◌++◌, length, Option, Some}
use Rattle.rbc_words.specs.declared.line_fault.LineFault.{LineFault}
use Rattle.rbc_words.specs.declared.line_fault.LineWord.{LineWord}
use Rattle.rbc_words.specs.declared.line_fault.LineFault.TheVariants.{Word}
use Rattle.rbc_words.specs.declared.rule.Outlook.{Outlook}
use Rattle.rbc_words.specs.declared.rule.Outlook.TheVariants.{Open, Itself, Wrong}

-- the word of this number stands before the last one, or it is the last one and is longer than any word that can stand there
pub record IsSettled (words : List (List ℕ)) (index : ℕ) : Type 0 where
  pub front : List (List ℕ)
  pub last : List ℕ
  pub are : words ≡ front ++ last ∷ []
  pub settled : (index ≤ length front) ⊎ ((index ≡ length front + 1) × (21 < length last))

-- a line is known to be wrong where this is wrong with what has come of it, and that is settled
abbrev pub IsOutlookBy : List (List ℕ) → Option LineFault → Outlook LineFault → Type 0
IsOutlookBy words fault Open = Unit {0}
IsOutlookBy words fault Itself = ⊥
IsOutlookBy words fault (Wrong wrong) = (index : ℕ) × (expected : LineWord) × IsSettled words index × (wrong ≡ Word index expected) × (fault ≡ Some wrong)
