use Rattle.std.proofs.Common.{◌≡◌, map, filter, take}
use Rattle.rbc_picture.specs.Trains.{is_in}
use Rattle.rbc_picture.specs.declared.train_shape.TrainShape.{TrainShape}
use Rattle.rbc_picture.proofs.panel.shapes_on.Given as goal

abbrev pub invariant-loop-train : goal.invariant-loop-train
invariant-loop-train l = map (λ (shape : TrainShape). shape.train.now) l.shapes.items ≡ filter (is_in l.part) (take l.train-index l.trains)
