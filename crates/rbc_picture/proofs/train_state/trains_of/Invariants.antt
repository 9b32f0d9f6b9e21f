use Rattle.std.proofs.Common.{◌≡◌, ◌++◌, drop, map}
use Rattle.rbc_live.specs.Known.{train_in}
use Rattle.rbc_picture.specs.Trains.{known_trains, train_shown}
use Rattle.rbc_picture.proofs.train_state.trains_of.Given as goal

abbrev pub invariant-loop-at_train : goal.invariant-loop-at_train
invariant-loop-at_train l =
    map train_shown l.trains.items ++ known_trains (train_in l.account.desk.records) (drop l.at_train-index l.standing)
    ≡ known_trains (train_in l.account.desk.records) l.standing
