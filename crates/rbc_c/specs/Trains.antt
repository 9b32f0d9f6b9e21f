-- The trains of a desk as C has them (own layout).
use Rattle.std.specs.Prelude.{◌≡◌, ℕ, List, Option, Some, None, option_map, length}
use Rattle.std.specs.List.{filter_map}
use Rattle.rbc_place.specs.Placing.{Place}
use Rattle.rbc_place.specs.Way.{Way}
use Rattle.rbc_place.specs.Way.TheVariants.{Up, Down}
use Rattle.rbc_settle.specs.declared.train.TrainRec.{TrainRec}
use Rattle.rbc_live.specs.declared.desk.LiveDesk.{LiveDesk}
use Rattle.rbc_live.specs.Known.{engines_in, train_in}
use Rattle.rbc_c.specs.declared.trains.Train.{Train}

-- a way: 0 down, 1 up
abbrev pub code_of_way : Way → ℕ
code_of_way Down = 0
code_of_way Up = 1

-- a train with its engine number, by its place: fields of 0 if it has no place
abbrev pub train_at : ℕ → TrainRec → Option Place → Train
train_at engine train (Some place) = record {
  engine = engine;
  length = train.length;
  stamp = train.stamp;
  placed = 1;
  line = place.line;
  from = place.lo;
  to = place.hi;
  facing = code_of_way place.facing;
  stops = length train.stops;
  restrictions = length train.limits;
}
train_at engine train None = record {
  engine = engine;
  length = train.length;
  stamp = train.stamp;
  placed = 0;
  line = 0;
  from = 0;
  to = 0;
  facing = 0;
  stops = length train.stops;
  restrictions = length train.limits;
}

-- the train with an engine number, if it is enrolled
abbrev pub train_of : LiveDesk → ℕ → Option Train
train_of desk engine = option_map (λ train. train_at engine train train.place) (train_in desk.records engine)

-- these are the trains that are enrolled on a desk, engines ascending
abbrev pub AreTrains : LiveDesk → List Train → Type 0
AreTrains desk given = given ≡ filter_map (train_of desk) (engines_in desk.records)
