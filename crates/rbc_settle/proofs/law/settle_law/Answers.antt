use Rattle.rbc_settle.proofs.Achieves.{settled_twice}
use Rattle.rbc_settle.proofs.Keeps.{keeps_trains}
use Rattle.rbc_settle.proofs.NothingLeft.{nothing_left}
use Rattle.rbc_settle.proofs.law.settle_law.Goals as goal

pub returns-clause-twice : goal.returns-clause-twice
returns-clause-twice c = settled_twice

pub returns-clause-keeps : goal.returns-clause-keeps
returns-clause-keeps c = keeps_trains

pub returns-clause-nothing_left : goal.returns-clause-nothing_left
returns-clause-nothing_left c = nothing_left
