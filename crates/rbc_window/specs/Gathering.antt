-- What shares keep, gathered in the order of the inputs (own rule).
use Rattle.std.specs.Prelude.{◌≡◌, ℕ, List, [], ◌∷◌, Some, slice_get}
use Rattle.rbc_rule.specs.declared.input.Input.{Input}
use Rattle.rbc_rule.specs.declared.input.Input.TheVariants.{Enrol, Withdraw, Stop, Release, Restrict, Lift, Received, Bad}
use Rattle.rbc_desk.specs.declared.answer.Answer.{Answer}
use Rattle.rbc_window.specs.declared.share.Share.{Share}
use Rattle.rbc_window.specs.Messages.{Records, Setting, outcome_of, next_records}
use Rattle.rbc_window.specs.Kept.{AreKept, IsAnswerOf}
use Rattle.rbc_window.specs.Shares.{TrainsStand}

-- an input is a message
abbrev pub IsMessage : Input → Type 0
IsMessage (Received message) = Unit
IsMessage (Enrol engine train_length) = ⊥
IsMessage (Withdraw engine) = ⊥
IsMessage (Stop number segments) = ⊥
IsMessage (Release number) = ⊥
IsMessage (Restrict number segment dirs speed front) = ⊥
IsMessage (Lift number) = ⊥
IsMessage (Bad code) = ⊥

-- the answers of messages, one after another
abbrev pub AreAnswers : Setting → Records → List Input → List Answer → Type 0
AreAnswers s records [] answers = answers ≡ []
AreAnswers s records (input ∷ inputs) [] = ⊥
AreAnswers s records (input ∷ inputs) (answer ∷ answers) =
    IsAnswerOf (outcome_of s records input) answer × AreAnswers s (next_records s records input) inputs answers

-- what the shares still keep belongs to the inputs that are left
abbrev pub KeepRest : Setting → Records → List Input → List Share → Type 0
KeepRest s records inputs shares = (place : ℕ) (share : Share) → slice_get shares place ≡ Some share → AreKept s place records inputs share.kept.items

-- the trains of each share stand as they do after all messages
abbrev pub HaveTrains : Setting → Records → List Input → List Share → Type 0
HaveTrains s records inputs shares = (place : ℕ) (share : Share) → slice_get shares place ≡ Some share → TrainsStand s place records inputs share.trains
