use Rattle.std.proofs.Common.{arith, refl}
use Rattle.std.proofs.lemmas.Option.{slice_get_read}
use Rattle.rbc_engine.proofs.Stretches.{run_of}
use Rattle.rbc_engine.proofs.OneByOne.{room_left, one_more_taken_in, refused_alone, all_taken_in}
use Rattle.rbc_engine.proofs.by_train.run_alone.Goals as goal

pub take_in-requires-clause-room : goal.take_in-requires-clause-room
take_in-requires-clause-room c = room_left (run_of c.args.track.now c.args.desk.now c.args.inputs.now) c.loop-taken.taken c.loop-taken.desk c.requires.good c.loop-taken.invariant c.loop-taken-test.true

pub returns-in-Err : goal.returns-in-Err
returns-in-Err c = refused_alone (run_of c.args.track.now c.args.desk.now c.args.inputs.now) c.loop-taken.taken c.loop-taken.desk c.requires.good c.loop-taken.invariant c.take_in.new.self c.in-Err.ensures.err

pub loop-taken-preserved : goal.loop-taken-preserved
loop-taken-preserved c =
    let more = c.loop-taken-test.true in
    one_more_taken_in (run_of c.args.track.now c.args.desk.now c.args.inputs.now) c.loop-taken.taken c.loop-taken.desk c.requires.good c.loop-taken.invariant c.index-inputs-taken.result c.take_in.new.self _ more
    (slice_get_read _ _ _ _ refl more c.index-inputs-taken.is) c.in-Ok.ensures.taken (omega arith)

pub returns : goal.returns
returns c = all_taken_in (run_of c.args.track.now c.args.desk.now c.args.inputs.now) c.loop-taken.taken c.loop-taken.desk c.requires.good c.loop-taken.invariant c.loop-taken-test.false (record { taken = c.loop-taken.taken; recomputed = 0 }) refl refl
