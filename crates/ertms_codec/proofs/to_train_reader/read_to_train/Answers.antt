use Rattle.std.proofs.lemmas.Result.{IfOk-weaker, IfErr-weaker}
use Rattle.ertms_codec.proofs.ToTrainAgain.{only, exactly, faults}
use Rattle.ertms_codec.proofs.ToTrainLaws.{found}
use Rattle.ertms_codec.proofs.to_train_reader.read_to_train.Goals as goal

pub returns-clause-found : goal.returns-clause-found
returns-clause-found c = IfOk-weaker c.read.result _ _ (found c.args.bytes.now) c.read.ensures.ok

pub returns-clause-only : goal.returns-clause-only
returns-clause-only c m s = only c.args.bytes.now c.read.result m c.read.ensures.ok c.read.ensures.err s

pub returns-clause-refused : goal.returns-clause-refused
returns-clause-refused c = IfErr-weaker c.read.result _ _ (faults c.args.bytes.now) c.read.ensures.err

pub returns-clause-exact : goal.returns-clause-exact
returns-clause-exact c e r = exactly c.args.bytes.now c.read.result e c.read.ensures.ok c.read.ensures.err r
