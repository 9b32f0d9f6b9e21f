use Rattle.std.proofs.Common.{ap, map, sym, string_bytes, false, true}
use Rattle.rbc_dispatch.specs.Words.{asked_of}
use Rattle.rbc_dispatch.proofs.Carried.{alarms_errors, does_as, does_encode, leaves_as, run_errors, runs_as}
use Rattle.rbc_dispatch.proofs.program.carry_out.Goals as goal

-- each task is done as the function that does it says

pub returns-then-alarms-clause-does : goal.returns-then-alarms-clause-does
returns-then-alarms-clause-does g c =
    does_as _ (asked_of c.args.task) _ _ _ _ _ _ _ _ _ (sym (ap asked_of c.in-Run.is))
    (runs_as _ _ true _ _ _ _ _ c.if-alarms.true c.run_file_with_alarms.ensures.runs, c.run_file_with_alarms.ensures.keeps)

pub returns-then-alarms-clause-errors : goal.returns-then-alarms-clause-errors
returns-then-alarms-clause-errors g c =
    leaves_as _ (asked_of c.args.task) _ _ _ _ _ _ (sym (ap asked_of c.in-Run.is))
    (alarms_errors c.in-Run.track.now c.in-Run.workers c.in-Run.by_train _ _ _ _ _ _ _ _ c.if-alarms.true c.run_file_with_alarms.ensures.errors)

pub returns-else-alarms-clause-does : goal.returns-else-alarms-clause-does
returns-else-alarms-clause-does g c =
    does_as _ (asked_of c.args.task) _ _ _ _ _ _ _ _ _ (sym (ap asked_of c.in-Run.is))
    (runs_as _ _ false _ _ _ _ _ c.if-alarms.false c.run_file.ensures.runs, c.run_file.ensures.keeps)

pub returns-else-alarms-clause-errors : goal.returns-else-alarms-clause-errors
returns-else-alarms-clause-errors g c =
    leaves_as _ (asked_of c.args.task) _ _ _ _ _ _ (sym (ap asked_of c.in-Run.is))
    (run_errors c.in-Run.track.now c.in-Run.workers c.in-Run.by_train _ _ _ _ _ _ _ _ c.if-alarms.false c.run_file.ensures.errors)

pub returns-in-Live-clause-does : goal.returns-in-Live-clause-does
returns-in-Live-clause-does g c =
    does_as _ (asked_of c.args.task) _ _ _ _ _ _ _ _ _ (sym (ap asked_of c.in-Live.is)) (c.live_file.ensures.lives, c.live_file.ensures.keeps)

pub returns-in-Explain-clause-does : goal.returns-in-Explain-clause-does
returns-in-Explain-clause-does g c =
    does_as _ (asked_of c.args.task) _ _ _ _ _ _ _ _ _ (sym (ap asked_of c.in-Explain.is)) (c.explain_file.ensures.tells, c.explain_file.ensures.keeps)

pub returns-in-Picture-clause-does : goal.returns-in-Picture-clause-does
returns-in-Picture-clause-does g c =
    does_as _ (asked_of c.args.task) _ _ _ _ _ _ _ _ _ (sym (ap asked_of c.in-Picture.is)) (c.picture_file.ensures.draws, c.picture_file.ensures.keeps, c.picture_file.ensures.untouched)

-- a text among the words begins with a space
pub returns-in-Encode-clause-does : goal.returns-in-Encode-clause-does
returns-in-Encode-clause-does g c =
    does_as _ (asked_of c.args.task) _ _ _ _ _ _ _ _ _ (sym (ap asked_of c.in-Encode.is))
    (does_encode _ (map string_bytes c.in-Encode.words.now) _ _ _ _ _ _ _ _ _ c.encode_task.ensures.lines c.encode_task.ensures.text)
