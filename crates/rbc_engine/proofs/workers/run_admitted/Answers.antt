use Rattle.std.proofs.Common.{rules, ◌+◌, ◌≤◌, length, Ok, Err, sym, subst}
use Rattle.rbc_core.specs.Held.{max_results}
use Rattle.rbc_engine.specs.Answers.{AreFew, IsFinished, MayWork}
use Rattle.rbc_engine.proofs.Ends.{opened, ran}
use Rattle.rbc_engine.proofs.Stretches.{AreDone, run_of, admitted, rest_can_be_run, more_done, refused_in, all_done}
use Rattle.rbc_engine.proofs.workers.run_admitted.Goals as goal

-- the rest can be run from the desk that the stretches before it left
pub run_stretch-requires-clause-good : goal.run_stretch-requires-clause-good
run_stretch-requires-clause-good g c κs within =
    let few : length c.args.desk.now.results + length c.args.inputs.now ≤ max_results = search rules in
    let good = admitted (run_of c.args.track.now c.args.desk.now c.args.inputs.now) c.keeps.ensures c.requires.opening c.results.ensures.in_order.0 c.requires.fit few in
    rest_can_be_run (run_of c.args.track.now c.args.desk.now c.args.inputs.now) c.loop-all.all c.loop-all.desk good c.loop-all.invariant c.keeps_order.ensures.0

-- what the stretch did is done behind that
pub loop-all-preserved : goal.loop-all-preserved
loop-all-preserved g c =
    let few : length c.args.desk.now.results + length c.args.inputs.now ≤ max_results = search rules in
    let good = admitted (run_of c.args.track.now c.args.desk.now c.args.inputs.now) c.keeps.ensures c.requires.opening c.results.ensures.in_order.0 c.requires.fit few in
    let new = c.run_stretch.new.desk in
    subst (λ all. AreDone (run_of c.args.track.now c.args.desk.now c.args.inputs.now) all new) (sym c.with_more-all.ensures) (more_done (run_of c.args.track.now c.args.desk.now c.args.inputs.now) c.loop-all.all c.loop-all.desk good c.loop-all.invariant c.in-Ok.more new c.in-Ok.ensures)

pub returns-in-Err-clause-run : goal.returns-in-Err-clause-run
returns-in-Err-clause-run g c =
    let few : length c.args.desk.now.results + length c.args.inputs.now ≤ max_results = search rules in
    let good = admitted (run_of c.args.track.now c.args.desk.now c.args.inputs.now) c.keeps.ensures c.requires.opening c.results.ensures.in_order.0 c.requires.fit few in
    let may : MayWork c.args.crew.now.workers = search rules in
    let are_few : AreFew (run_of c.args.track.now c.args.desk.now c.args.inputs.now) = search rules in
    let new = c.run_stretch.new.desk in
    let finished = subst (λ e. IsFinished (run_of c.args.track.now c.args.desk.now c.args.inputs.now) (Err e) new) (sym c.behind.ensures) (refused_in (run_of c.args.track.now c.args.desk.now c.args.inputs.now) c.loop-all.all c.loop-all.desk good c.loop-all.invariant c.in-Err.error new c.in-Err.ensures) in
    ran (run_of c.args.track.now c.args.desk.now c.args.inputs.now) _ (Err c.behind.result) new may are_few finished

-- a run can go on from the desk that it left
pub returns-in-Err-clause-opening : goal.returns-in-Err-clause-opening
returns-in-Err-clause-opening g c =
    let few : length c.args.desk.now.results + length c.args.inputs.now ≤ max_results = search rules in
    let good = admitted (run_of c.args.track.now c.args.desk.now c.args.inputs.now) c.keeps.ensures c.requires.opening c.results.ensures.in_order.0 c.requires.fit few in
    let new = c.run_stretch.new.desk in
    let finished = subst (λ e. IsFinished (run_of c.args.track.now c.args.desk.now c.args.inputs.now) (Err e) new) (sym c.behind.ensures) (refused_in (run_of c.args.track.now c.args.desk.now c.args.inputs.now) c.loop-all.all c.loop-all.desk good c.loop-all.invariant c.in-Err.error new c.in-Err.ensures) in
    opened (run_of c.args.track.now c.args.desk.now c.args.inputs.now) (Err c.behind.result) new c.requires.opening finished

-- the loop ends where all are done
pub returns-clause-run : goal.returns-clause-run
returns-clause-run g c =
    let may : MayWork c.args.crew.now.workers = search rules in
    let are_few : AreFew (run_of c.args.track.now c.args.desk.now c.args.inputs.now) = search rules in
    (may, are_few, all_done (run_of c.args.track.now c.args.desk.now c.args.inputs.now) c.loop-all.all c.loop-all.desk c.loop-all.invariant c.loop-all-test.false)

pub returns-clause-opening : goal.returns-clause-opening
returns-clause-opening g c =
    let finished : IsFinished (run_of c.args.track.now c.args.desk.now c.args.inputs.now) (Ok c.loop-all.all) c.loop-all.desk = all_done (run_of c.args.track.now c.args.desk.now c.args.inputs.now) c.loop-all.all c.loop-all.desk c.loop-all.invariant c.loop-all-test.false in
    opened (run_of c.args.track.now c.args.desk.now c.args.inputs.now) (Ok c.loop-all.all) c.loop-all.desk c.requires.opening finished
