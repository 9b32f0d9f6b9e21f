-- Which rbc.h the caller of a handle was compiled with (own rule).
use Rattle.std.specs.Prelude.{◌≡◌, ℕ}

-- RBC_VERSION of the rbc.h that belongs to this library
abbrev pub this_version : ℕ
this_version = 3

-- the number of the rules by which a desk decides: under another number, some line may have another answer
abbrev pub rules_number : ℕ
rules_number = 3

-- For a caller that was compiled with that rbc.h, a call does its work, and the handle keeps its version. Any other
-- caller is refused with code 4, and nothing is changed.
pub record Versioned (before after code : ℕ) (Does Stays : Type 0) : Type 0 where
  pub this : before ≡ this_version → Does × (after ≡ this_version)
  pub other : (before ≡ this_version → ⊥) → (code ≡ 4) × Stays
