-- What the mails of a run say (own rule).
use Rattle.std.specs.Prelude.{◌≡◌, ℕ, ◌+◌, List, [], ◌∷◌, ◌++◌, length, map, take, Option, Some, None, Result, Ok, Err, Contains, slice_get}
use Rattle.std.specs.List.{All}
use Rattle.ertms_codec.specs.declared.to_train.ToTrain.{ToTrain}
use Rattle.ertms_codec.specs.ToTrain as codec
use Rattle.rbc_track.specs.Plan.{Plan, IsPlan}
use Rattle.rbc_maps.specs.Maps.{value_of, value_or}
use Rattle.rbc_settle.specs.declared.train.TrainRec.{TrainRec}
use Rattle.rbc_settle.specs.Actions.{Action}
use Rattle.rbc_settle.specs.Settling.{actions_with_stamp}
use Rattle.rbc_rule.specs.declared.input.Input.{Input}
use Rattle.rbc_rule.specs.Inputs.{Fits}
use Rattle.rbc_rule.specs.World.{World}
use Rattle.rbc_rule.specs.Effect.{effect}
use Rattle.rbc_rule.specs.SaidFor.{SaysFor, AllSay, after_sending, as_told}
use Rattle.rbc_rule.specs.WellFormed.{IsWellFormed}
use Rattle.rbc_desk.specs.declared.outbox.Mail.{Mail}
use Rattle.rbc_desk.specs.Serial.{Desk, mail, step, serial}

-- a message says what the rules give the train of an engine in a world, for one thing that settling it does, after the
-- messages for what settling does before
pub record IsSaidTo (track : Plan) (w : World) (engine : ℕ) (message : ToTrain) : Type 0 where
  pub train : TrainRec
  pub is_train : Contains w.trains (engine, train)
  pub before : ℕ
  pub action : Action
  pub is_action : slice_get (actions_with_stamp track w.stops w.limits train) before ≡ Some action
  pub says : SaysFor track w.stops w.limits (after_sending before (as_told w.stops train)) action message

-- A mail to an engine comes from one of the inputs, whose number it has, and says what the rules give its train after the effect of that
-- input. Its message fits, and is what its bytes spell.
pub record IsSaidMail (track : Plan) (desk : Desk) (inputs : List Input) (engine : ℕ) (mail : Mail) : Type 0 where
  pub before : ℕ
  pub input : Input
  pub is_input : slice_get inputs before ≡ Some input
  pub numbered : mail.input ≡ length desk.results + before + 1
  pub changed : World
  pub is_effect : effect track input (serial track desk (take before inputs)).world ≡ Ok changed
  pub said : IsSaidTo track changed engine mail.message
  pub fits : codec.Fits mail.message
  pub spelled : codec.Spells (codec.spelling_of mail.message) mail.message

-- all messages to one engine after an input: none if the input is refused or the engine has no train, else one for each
-- action that settling its train carries out, in order
abbrev pub AreSaidTo : Plan → World → Option TrainRec → List ToTrain → Type 0
AreSaidTo track w None messages = messages ≡ []
AreSaidTo track w (Some train) messages = AllSay track w.stops w.limits (as_told w.stops train) (actions_with_stamp track w.stops w.limits train) messages

abbrev pub AreSaidAfter : Plan → ℕ → Result World ℕ → List ToTrain → Type 0
AreSaidAfter track engine (Err code) messages = messages ≡ []
AreSaidAfter track engine (Ok changed) messages = AreSaidTo track changed (value_of changed.trains engine) messages

-- all mails to one engine of a run from a desk: those of the first input, under its number, and then those of the other inputs
abbrev pub AreSaidInTurn : Plan → ℕ → Desk → List Input → List Mail → Type 0
AreSaidInTurn track engine desk [] mails = mails ≡ []
AreSaidInTurn track engine desk (input ∷ inputs) mails =
    (messages : List ToTrain) × (more : List Mail)
    × (mails ≡ map (mail (length desk.results + 1)) messages ++ more)
    × AreSaidAfter track engine (effect track input desk.world) messages
    × AreSaidInTurn track engine (step track desk input) inputs more

-- Mails to one engine are those of a run: each says what the rules give its train, and they are those of each input, in
-- order. None is lost, none is duplicated, and none stands before an earlier one.
pub record AreMailsOf (track : Plan) (desk : Desk) (inputs : List Input) (engine : ℕ) (mails : List Mail) : Type 0 where
  pub each : All (IsSaidMail track desk inputs engine) mails
  pub in_turn : AreSaidInTurn track engine desk inputs mails

-- to each engine the old mails, and after them those of the run
abbrev pub AreSaidMails : Plan → Desk → List Input → List (ℕ × List Mail) → List (ℕ × List Mail) → Type 0
AreSaidMails track desk inputs old new =
    (engine : ℕ) → (more : List Mail) × (value_or [] new engine ≡ value_or [] old engine ++ more) × AreMailsOf track desk inputs engine more

-- each run from a desk with a well-formed world
abbrev pub EachRunSays : Type 0
EachRunSays =
    (track : Plan) (desk : Desk) (inputs : List Input) → IsPlan track → IsWellFormed track desk.world → All Fits inputs
    → AreSaidMails track desk inputs desk.outboxes (serial track desk inputs).outboxes
