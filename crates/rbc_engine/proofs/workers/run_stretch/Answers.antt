use Rattle.rbc_engine.proofs.Stretches.{run_of, done_of_all}
use Rattle.rbc_engine.proofs.workers.run_stretch.Goals as goal

-- what was done of the first inputs was done of all
pub returns-in-Alone : goal.returns-in-Alone
returns-in-Alone g c = done_of_all (run_of c.args.track.now c.args.desk.now c.args.inputs.now) c.first_of-first.result.now c.requires.good c.first_of-first.ensures c.run_alone.result c.run_alone.new.desk c.run_alone.ensures

pub returns-in-Window : goal.returns-in-Window
returns-in-Window g c = done_of_all (run_of c.args.track.now c.args.desk.now c.args.inputs.now) c.first_of-first.result.now c.requires.good c.first_of-first.ensures c.run_shared.result c.run_shared.new.desk c.run_shared.ensures

pub returns-in-Book : goal.returns-in-Book
returns-in-Book g c = done_of_all (run_of c.args.track.now c.args.desk.now c.args.inputs.now) c.first_of-first.result.now c.requires.good c.first_of-first.ensures c.run_on_book.result c.run_on_book.new.desk c.run_on_book.ensures
