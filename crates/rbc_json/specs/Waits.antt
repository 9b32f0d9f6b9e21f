-- What waits at a train, as an object (own rule).
use Rattle.std.specs.Prelude.{ℕ, [], ◌∷◌, codes}
use Rattle.rbc_live.specs.declared.waiting.Waiting.{Waiting}
use Rattle.rbc_live.specs.declared.waiting.Waits.{Waits}
use Rattle.rbc_live.specs.declared.waiting.Waits.TheVariants.{Stop, Restriction, Again}
use Rattle.rbc_live.specs.declared.waiting.Cause.{Cause}
use Rattle.rbc_live.specs.declared.waiting.Cause.TheVariants.{NoIdentifier, NoStamp}
use Rattle.rbc_json.specs.Json.{Json, Text, number, object}

-- what the train lacks
abbrev pub lack_word : Cause → Json
lack_word NoIdentifier = Text (codes "identifier")
lack_word NoStamp = Text (codes "stamp")

-- the object of what waits, for an engine and a cause
abbrev pub of_waits : ℕ → Cause → Waits → Json
of_waits engine cause (Stop stop) = object (
    (codes "engine", number engine) ∷ (codes "kind", Text (codes "stop")) ∷ (codes "stop", number stop) ∷ (codes "lacks", lack_word cause) ∷ [])
of_waits engine cause (Restriction restriction) = object (
    (codes "engine", number engine) ∷ (codes "kind", Text (codes "restriction")) ∷ (codes "restriction", number restriction)
    ∷ (codes "lacks", lack_word cause) ∷ [])
of_waits engine cause (Again stop) = object (
    (codes "engine", number engine) ∷ (codes "kind", Text (codes "stop_again")) ∷ (codes "stop", number stop) ∷ (codes "lacks", lack_word cause) ∷ [])

abbrev pub not_told_object : ℕ → Waiting → Json
not_told_object engine waiting = of_waits engine waiting.cause waiting.what
