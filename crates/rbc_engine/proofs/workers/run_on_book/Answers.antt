use Rattle.std.proofs.Common.{arith}
use Rattle.rbc_engine.proofs.Ends.{desk_before}
use Rattle.rbc_engine.proofs.Stretches.{run_of}
use Rattle.rbc_engine.proofs.workers.run_on_book.Goals as goal

-- no log was made: nothing was run
pub returns-in_default : goal.returns-in_default
returns-in_default g c = (desk_before (run_of c.args.track.now c.args.desk.now c.args.inputs.now) c.requires.good, omega arith)
