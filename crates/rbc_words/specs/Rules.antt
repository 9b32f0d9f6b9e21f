-- What a filter does to a line.
use Rattle.std.specs.Prelude.{ℕ, List, ◌++◌, Option, Some, None}
use Rattle.std.specs.declared.alloc.Global.{Global}
use Rattle.std.specs.declared.vec.Vec.{Vec}
use Rattle.rbc_words.specs.declared.rule.RuleError.{RuleError}
use Rattle.rbc_words.specs.declared.rule.RuleError.TheVariants as refusal
use Rattle.rbc_words.specs.declared.rule.Outlook.{Outlook}
use Rattle.rbc_words.specs.declared.rule.Outlook.TheVariants.{Open, Itself, Wrong}

-- the line becomes this text, or, where there is none, itself
abbrev pub IsTurned : (List ℕ → List ℕ → Type 0) → List ℕ → Option (Vec ℕ Global) → Type 0
IsTurned becomes line None = becomes line line
IsTurned becomes line (Some text) = becomes line text.items

-- a line is refused for want of memory, or it is wrong
abbrev pub IsRefused : {F : Type 0} → (List ℕ → F → Type 0) → List ℕ → RuleError F → Type 0
IsRefused is_wrong line refusal.Memory = Unit {0}
IsRefused is_wrong line (refusal.Wrong fault) = is_wrong line fault

-- a line that begins so becomes itself, however it goes on
abbrev pub StaysItself : (List ℕ → List ℕ → Type 0) → List ℕ → Type 0
StaysItself becomes begun = (more : List ℕ) → becomes (begun ++ more) (begun ++ more)

-- what is said of a line that begins so holds however it goes on
abbrev pub Foretells : {F : Type 0} → (List ℕ → List ℕ → Type 0) → (List ℕ → F → Type 0) → List ℕ → Outlook F → Type 0
Foretells becomes is_wrong begun Open = Unit {0}
Foretells becomes is_wrong begun Itself = StaysItself becomes begun
Foretells becomes is_wrong begun (Wrong fault) = (more : List ℕ) → is_wrong (begun ++ more) fault
