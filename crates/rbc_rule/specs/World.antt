-- The world that the rules speak of, over whole maps (own rule).
use Rattle.std.specs.Prelude.{ℕ, List, []}
use Rattle.rbc_maps.specs.Numbered.{none_numbered}
use Rattle.rbc_settle.specs.declared.train.TrainRec.{TrainRec}
use Rattle.rbc_settle.specs.Settling.{Stops, Limits}

-- the trains by engine number, the stops and the temporary speed restrictions
pub record World : Type 0 where
  pub trains : List (ℕ × TrainRec)
  pub stops : Stops
  pub limits : Limits

-- nobody is enrolled, and nothing was ever active
abbrev pub new_world : World
new_world = record { trains = []; stops = none_numbered; limits = none_numbered }
