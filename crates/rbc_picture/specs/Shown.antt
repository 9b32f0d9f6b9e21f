-- Texts that a document shows (own rule).
use Rattle.std.specs.Prelude.{◌≡◌, ℕ, List, [], ◌∷◌, ◌++◌}

-- these texts stand in a document, one after another
abbrev pub StandIn : List (List ℕ) → List ℕ → Type 0
StandIn [] document = Unit
StandIn (text ∷ texts) document =
    (before : List ℕ) × (after : List ℕ) × (document ≡ before ++ (text ++ after)) × StandIn texts after

-- a document was added to, and these texts stand in what was added
abbrev pub IsShownOn : List (List ℕ) → List ℕ → List ℕ → Type 0
IsShownOn texts old new = (added : List ℕ) × (new ≡ old ++ added) × StandIn texts added
