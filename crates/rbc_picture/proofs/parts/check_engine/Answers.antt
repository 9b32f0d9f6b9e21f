use Rattle.rbc_picture.proofs.Choosing.{is_there, is_lacking}
use Rattle.rbc_picture.proofs.parts.check_engine.Goals as goal

pub returns-in-None-clause-err : goal.returns-in-None-clause-err
returns-in-None-clause-err c = is_lacking c.args.engine c.args.trains.now (rw c.in-None.is at c.train_named.ensures)

pub returns-in-Some-clause-ok : goal.returns-in-Some-clause-ok
returns-in-Some-clause-ok c = is_there c.args.engine c.args.trains.now c.in-Some.field-0.now (rw c.in-Some.is at c.train_named.ensures)
