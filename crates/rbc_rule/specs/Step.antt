-- One step of the world (own rule).
use Rattle.std.specs.Prelude.{ℕ, List, [], map, length, Result, Ok, Err}
use Rattle.std.specs.List.{sum_by}
use Rattle.ertms_codec.specs.declared.to_train.ToTrain.{ToTrain}
use Rattle.rbc_track.specs.Plan.{Plan}
use Rattle.rbc_settle.specs.declared.train.TrainRec.{TrainRec}
use Rattle.rbc_settle.specs.Settling.{Stops, Limits, settled, messages_of}
use Rattle.rbc_rule.specs.declared.input.Input.{Input}
use Rattle.rbc_rule.specs.declared.outcome.Reply.{Reply}
use Rattle.rbc_rule.specs.declared.outcome.Reply.TheVariants.{Done, Refused}
use Rattle.rbc_rule.specs.World.{World}
use Rattle.rbc_rule.specs.Effect.{effect}

-- every train settled
abbrev pub settled_trains : Plan → Stops → Limits → List (ℕ × TrainRec) → List (ℕ × TrainRec)
settled_trains plan stops limits trains = map (λ train. (train.0, settled plan stops limits train.1)) trains

-- what settling sends to each train
abbrev pub sent_to : Plan → Stops → Limits → List (ℕ × TrainRec) → List (ℕ × List ToTrain)
sent_to plan stops limits trains = map (λ train. (train.0, messages_of plan stops limits train.1)) trains

-- R-INPUT-9.
abbrev pub settle_all : Plan → World → World
settle_all plan w = record w { trains = settled_trains plan w.stops w.limits w.trains }

abbrev pub sent_to_all : Plan → World → List (ℕ × List ToTrain)
sent_to_all plan w = sent_to plan w.stops w.limits w.trains

-- R-INPUT-9: how many messages were sent to all trains
abbrev pub count_sent : List (ℕ × List ToTrain) → ℕ
count_sent sent = sum_by (λ messages. length messages.1) sent

-- the world after an input, the answer to it, and what was sent to each train
pub record Step : Type 0 where
  pub world : World
  pub reply : Reply
  pub sent : List (ℕ × List ToTrain)

-- R-INPUT-1, R-INPUT-9: an input that is refused changes nothing and sends nothing; after the effect of any other input
-- every train is settled
abbrev pub after : Plan → World → Result World ℕ → Step
after plan w (Err code) = record { world = w; reply = Refused code; sent = [] }
after plan w (Ok changed) = record {
  world = settle_all plan changed;
  reply = Done (count_sent (sent_to_all plan changed));
  sent = sent_to_all plan changed;
}

-- R-INPUT-1, R-INPUT-9.
abbrev pub step : Plan → World → Input → Step
step plan w input = after plan w (effect plan input w)
