use Rattle.std.proofs.Common.{◌≡◌, map, filter, take}
use Rattle.rbc_picture.specs.Trains.{is_listed_in}
use Rattle.rbc_picture.specs.declared.lost.LostTrain.{LostTrain}
use Rattle.rbc_picture.proofs.lost.lost_of.Given as goal

abbrev pub invariant-loop-train : goal.invariant-loop-train
invariant-loop-train l = map (λ (lost : LostTrain). lost.train.now) l.lost.items ≡ filter (is_listed_in l.selection) (take l.train-index l.trains)
