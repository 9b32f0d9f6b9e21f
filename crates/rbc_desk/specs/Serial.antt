-- The steps of a desk, one after another (own rule).
use Rattle.std.specs.Prelude.{ℕ, ◌+◌, List, [], ◌∷◌, ◌++◌, map, length}
use Rattle.std.specs.List.{fold}
use Rattle.ertms_codec.specs.declared.to_train.ToTrain.{ToTrain}
use Rattle.rbc_track.specs.Plan.{Plan}
use Rattle.rbc_maps.specs.Maps.{value_or, with_value}
use Rattle.rbc_rule.specs.declared.input.Input.{Input}
use Rattle.rbc_rule.specs.declared.outcome.Reply.{Reply}
use Rattle.rbc_rule.specs.World.{World, new_world}
use Rattle.rbc_rule.specs.Step as rule
use Rattle.rbc_desk.specs.declared.outbox.Mail.{Mail}

-- the world, the results in the order of their inputs, and the mails by engine number
pub record Desk : Type 0 where
  pub world : World
  pub results : List Reply
  pub outboxes : List (ℕ × List Mail)

-- a desk on which nothing has happened
abbrev pub new_desk : Desk
new_desk = record { world = new_world; results = []; outboxes = [] }

-- a message, with the number of the input that caused it
abbrev pub mail : ℕ → ToTrain → Mail
mail input message = record { input = input; message = message }

-- R-INPUT-10: the messages to an engine join its outbox under the number of the input; no message, no outbox
abbrev pub post : ℕ → List (ℕ × List Mail) → ℕ × List ToTrain → List (ℕ × List Mail)
post input outboxes (engine, []) = outboxes
post input outboxes (engine, message ∷ messages) = with_value engine (value_or [] outboxes engine ++ map (mail input) (message ∷ messages)) outboxes

-- R-INPUT-10: the messages of a step to all engines join their outboxes
abbrev pub post_all : ℕ → List (ℕ × List ToTrain) → List (ℕ × List Mail) → List (ℕ × List Mail)
post_all input sent outboxes = fold (post input) outboxes sent

-- a step of the world: its answer joins the results, and its messages the outboxes
abbrev pub after : Desk → rule.Step → Desk
after desk s = record {
  world = s.world;
  results = desk.results ++ s.reply ∷ [];
  outboxes = post_all (length desk.results + 1) s.sent desk.outboxes;
}

-- a desk takes an input
abbrev pub step : Plan → Desk → Input → Desk
step plan desk input = after desk (rule.step plan desk.world input)

-- R-INPUT-11: a desk takes the inputs one after another, on one track
abbrev pub serial : Plan → Desk → List Input → Desk
serial plan desk inputs = fold (step plan) desk inputs
