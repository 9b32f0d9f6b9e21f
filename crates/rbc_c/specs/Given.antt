-- What asking a handle for a list does (own rule).
use Rattle.std.specs.Prelude.{◌≡◌, ℕ, ◌<◌, ◌⊎◌, List, ◌++◌, take, drop, length, Option, Some, None}
use Rattle.rbc_live.specs.declared.desk.LiveDesk.{LiveDesk}

-- a list written over the front of another, as far as there is room; the rest of the other stays
abbrev pub fronted : {A : Type 0} → List A → List A → List A
fronted given out = take (length out) given ++ drop (length given) out

-- What a call that asks for a list leaves, by its code: 0 done, 1 memory was refused. The desk stays as it is. `IsOf
-- desk list` says which list it is.
pub record GivesOf {A : Type 0} (IsOf : LiveDesk → List A → Type 0) (desk : LiveDesk) (out : List A) (before code : ℕ) (after : LiveDesk) (written : List A) (count : ℕ) : Type 0 where
  pub same : after ≡ desk
  pub codes : (code ≡ 0) ⊎ (code ≡ 1)
  pub given : code ≡ 0 → (list : List A) × IsOf desk list × (written ≡ fronted list out) × (count ≡ length list)
  pub stays : 0 < code → (written ≡ out) × (count ≡ before)

-- from the desk of a handle to its desk after the call; with no desk the code is 2, and nothing is changed
abbrev pub Gives : {A : Type 0} → (LiveDesk → List A → Type 0) → Option LiveDesk → List A → ℕ → ℕ → Option LiveDesk → List A → ℕ → Type 0
Gives IsOf (Some desk) out before code (Some after) written count = GivesOf IsOf desk out before code after written count
Gives IsOf (Some desk) out before code None written count = ⊥
Gives IsOf None out before code (Some after) written count = ⊥
Gives IsOf None out before code None written count = (code ≡ 2) × (written ≡ out) × (count ≡ before)
