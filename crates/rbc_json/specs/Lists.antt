-- A list while it is written.
use Rattle.std.specs.Prelude.{◌≡◌, ℕ, Bool, true, false, List, [], ◌∷◌, ◌++◌, codes, string_bytes}
use Rattle.rbc_json.specs.Json.{Json, json_text, array}
use Rattle.rbc_json.specs.declared.list.ListText.{ListText}

-- values one after another, with commas
abbrev pub more_text : List Json → List ℕ
more_text [] = []
more_text (value ∷ more) = 44 ∷ (json_text value ++ more_text more)

abbrev pub front_text : List Json → List ℕ
front_text [] = []
front_text (value ∷ more) = json_text value ++ more_text more

abbrev pub has_none : List Json → Bool
has_none [] = true
has_none (value ∷ more) = false

-- the comma before a value, which the first one does not have
abbrev pub comma_behind : Bool → List ℕ
comma_behind true = []
comma_behind false = codes ","

-- these values are written so far
pub record IsListOf (values : List Json) (list : ListText) : Type 0 where
  pub text : string_bytes list.text ≡ 91 ∷ front_text values
  pub empty : list.is_empty ≡ has_none values

-- a text is that of a value which has a property
abbrev pub IsTextOf : (Json → Type 0) → List ℕ → Type 0
IsTextOf Is text = (value : Json) × Is value × (text ≡ json_text value)

-- a text is that of a list of values which have a property together
abbrev pub IsListText : (List Json → Type 0) → List ℕ → Type 0
IsListText Are text = (values : List Json) × Are values × (text ≡ json_text (array values))

-- any text
abbrev pub IsAny : List ℕ → Type 0
IsAny text = Unit

-- a text is that of some value
abbrev pub IsAnyText : List ℕ → Type 0
IsAnyText text = (value : Json) × (text ≡ json_text value)

-- values are those of two lists side by side
abbrev pub AreTogether : {A B : Type 0} → (A → B → Json → Type 0) → List A → List B → List Json → Type 0
AreTogether Is (a ∷ more) (b ∷ others) (value ∷ values) = Is a b value × AreTogether Is more others values
AreTogether Is [] [] [] = Unit
AreTogether Is _ _ _ = ⊥
