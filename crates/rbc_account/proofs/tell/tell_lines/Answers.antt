use Rattle.std.proofs.Common.{◌++◌, ◌∷◌, []}
use Rattle.rbc_account.proofs.Reading.{line_given, over_given, read_given, refused_given, given_as, are_first}
use Rattle.rbc_account.proofs.Ending.{begins, one_more_few, within_one_more, handed_on, finished, run_to_end, run_to, too_late, read_fault, refused_fault}
use Rattle.rbc_account.proofs.tell.tell_lines.Goals as goal

-- no line was given
pub loop-lines-init : goal.loop-lines-init
loop-lines-init g c =
    let log = c.new-log.ensures in (
      [],
      c.new-lines.ensures (g.R.Read.remaining c.args.reader.now),
      begins (g.F.LogForm.is_text c.args.form.now) c.args.wanted c.args.account (g.R.Read.remaining c.args.reader.now) (g.R.Read.remaining c.args.reader.now)
          (g.W.Write.contents c.args.writer.now) (g.W.Write.contents c.args.writer.now)
          c.new-log.result c.requires.sums log.account log.wanted log.headed log.text log.sent,
    )

-- a line more can be counted
pub take_line-requires : goal.take_line-requires
take_line-requires g c =
    let (lines, has, is) = c.loop-lines.invariant in
    let next = line_given (g.R.Read.remaining c.args.reader.now) (g.R.Read.remaining c.advance.new.reader) c.advance.new.self lines c.in-Ok-true.field-0 c.in-Ok-true.field-0-test
    (c.in-Ok-true.ensures (g.R.Read.remaining c.args.reader.now) lines has) in
    record { few = one_more_few (g.R.Read.remaining c.args.reader.now) (g.R.Read.remaining c.advance.new.reader) c.advance.new.self lines c.loop-lines.log.account next is.counted }

-- it was taken
pub loop-lines-preserved : goal.loop-lines-preserved
loop-lines-preserved g c =
    let (lines, has, is) = c.loop-lines.invariant in
    let next = line_given (g.R.Read.remaining c.args.reader.now) (g.R.Read.remaining c.advance.new.reader) c.advance.new.self lines c.in-Ok-true.field-0 c.in-Ok-true.field-0-test
    (c.in-Ok-true.ensures (g.R.Read.remaining c.args.reader.now) lines has) in
    let within = within_one_more c.args.wanted lines c.loop-lines.log.wanted c.loop-lines.log.account
    (one_more_few (g.R.Read.remaining c.args.reader.now) (g.R.Read.remaining c.advance.new.reader) c.advance.new.self lines c.loop-lines.log.account next is.counted)
    is.same is.counted (c.is_full.ensures.open c.loop-lines-test.true) in (
      lines ++ c.line.result.now ∷ [],
      given_as (g.R.Read.remaining c.args.reader.now) (g.R.Read.remaining c.advance.new.reader) c.advance.new.self lines c.line.result.now c.line.ensures next,
      c.in_ok-take_line-in-Ok-true.ensures.taken c.args.wanted c.args.account lines (g.W.Write.contents c.args.writer.now) is within,
    )

-- a fault came at it
pub returns-in_err-take_line-in-Ok-true : goal.returns-in_err-take_line-in-Ok-true
returns-in_err-take_line-in-Ok-true g c =
    let (lines, has, is) = c.loop-lines.invariant in
    let next = line_given (g.R.Read.remaining c.args.reader.now) (g.R.Read.remaining c.advance.new.reader) c.advance.new.self lines c.in-Ok-true.field-0 c.in-Ok-true.field-0-test
    (c.in-Ok-true.ensures (g.R.Read.remaining c.args.reader.now) lines has) in
    let within = within_one_more c.args.wanted lines c.loop-lines.log.wanted c.loop-lines.log.account
    (one_more_few (g.R.Read.remaining c.args.reader.now) (g.R.Read.remaining c.advance.new.reader) c.advance.new.self lines c.loop-lines.log.account next is.counted)
    is.same is.counted (c.is_full.ensures.open c.loop-lines-test.true) in
    let given = given_as (g.R.Read.remaining c.args.reader.now) (g.R.Read.remaining c.advance.new.reader) c.advance.new.self lines c.line.result.now c.line.ensures next in
    handed_on (g.F.LogForm.is_text c.args.form.now) c.args.wanted c.args.account (g.R.Read.remaining c.args.reader.now) (g.R.Read.remaining c.advance.new.reader)
    (g.W.Write.contents c.args.writer.now) (g.W.Write.contents c.take_line.new.writer) c.from_residual.result (lines ++ c.line.result.now ∷ []) c.in_err-take_line-in-Ok-true.field-0.0
    c.from_residual.ensures.1 (are_first (g.R.Read.remaining c.args.reader.now) (g.R.Read.remaining c.advance.new.reader) c.advance.new.self (lines ++ c.line.result.now ∷ []) given)
    (c.in_err-take_line-in-Ok-true.ensures.taken c.args.wanted c.args.account lines (g.W.Write.contents c.args.writer.now) is within)

-- the first input that is told is too late
pub returns-in_err-check_first-in-Ok-false : goal.returns-in_err-check_first-in-Ok-false
returns-in_err-check_first-in-Ok-false g c =
    let (lines, has, is) = c.loop-lines.invariant in
    let over = over_given (g.R.Read.remaining c.args.reader.now) (g.R.Read.remaining c.advance.new.reader) c.advance.new.self lines c.in-Ok-false.field-0 c.in-Ok-false.field-0-test
    (c.in-Ok-false.ensures (g.R.Read.remaining c.args.reader.now) lines has) in
    too_late (g.F.LogForm.is_text c.args.form.now) c.args.wanted c.args.account (g.R.Read.remaining c.args.reader.now) (g.R.Read.remaining c.advance.new.reader)
    (g.W.Write.contents c.args.writer.now) (g.W.Write.contents c.loop-lines.writer) c.from_residual-in_err-check_first-in-Ok-false.result c.in_err-check_first-in-Ok-false.field-0.0 c.loop-lines.log lines c.advance.new.self
    c.from_residual-in_err-check_first-in-Ok-false.ensures.1 over.0 over.1 is c.in_err-check_first-in-Ok-false.ensures

-- all lines are run
pub returns-in-Ok-false : goal.returns-in-Ok-false
returns-in-Ok-false g c =
    let (lines, has, is) = c.loop-lines.invariant in
    let over = over_given (g.R.Read.remaining c.args.reader.now) (g.R.Read.remaining c.advance.new.reader) c.advance.new.self lines c.in-Ok-false.field-0 c.in-Ok-false.field-0-test
    (c.in-Ok-false.ensures (g.R.Read.remaining c.args.reader.now) lines has) in
    finished (g.F.LogForm.is_text c.args.form.now) c.args.wanted c.args.account (g.R.Read.remaining c.args.reader.now) (g.R.Read.remaining c.advance.new.reader)
    (g.W.Write.contents c.args.writer.now) (g.W.Write.contents c.finish.new.writer) c.finish.result lines
    (are_first (g.R.Read.remaining c.args.reader.now) (g.R.Read.remaining c.advance.new.reader) c.advance.new.self lines over.0)
    (run_to_end (g.F.LogForm.is_text c.args.form.now) c.args.wanted c.args.account (g.R.Read.remaining c.args.reader.now) (g.R.Read.remaining c.advance.new.reader)
    (g.W.Write.contents c.args.writer.now) (g.W.Write.contents c.loop-lines.writer) c.loop-lines.log lines c.advance.new.self over.0 over.1 is c.in_ok-check_first-in-Ok-false.ensures)
    (c.finish.ensures c.args.wanted c.args.account lines (g.W.Write.contents c.args.writer.now) is)

-- the reader failed
pub returns-in-Err-Read : goal.returns-in-Err-Read
returns-in-Err-Read g c =
    let (lines, has, is) = c.loop-lines.invariant in
    read_fault (g.F.LogForm.is_text c.args.form.now) c.args.wanted c.args.account (g.R.Read.remaining c.args.reader.now) (g.R.Read.remaining c.advance.new.reader)
    (g.W.Write.contents c.args.writer.now) (g.W.Write.contents c.stop.new.writer) (Unit {0}) c.loop-lines.log (g.W.Write.contents c.loop-lines.writer) lines c.stop.result
    (read_given (g.R.Read.remaining c.args.reader.now) (g.R.Read.remaining c.advance.new.reader) c.advance.new.self lines c.in-Err-Read.field-0 c.in-Err-Read.field-0-is
    (c.in-Err-Read.ensures (g.R.Read.remaining c.args.reader.now) lines has)) is c.stop.ensures

-- memory was refused for a line
pub returns-in-Err-Memory : goal.returns-in-Err-Memory
returns-in-Err-Memory g c =
    let (lines, has, is) = c.loop-lines.invariant in
    refused_fault (g.F.LogForm.is_text c.args.form.now) c.args.wanted c.args.account (g.R.Read.remaining c.args.reader.now) (g.R.Read.remaining c.advance.new.reader)
    (g.W.Write.contents c.args.writer.now) (g.W.Write.contents c.stop-in-Err-Memory.new.writer) (Unit {0}) c.loop-lines.log (g.W.Write.contents c.loop-lines.writer) lines c.stop-in-Err-Memory.result
    (refused_given (g.R.Read.remaining c.args.reader.now) (g.R.Read.remaining c.advance.new.reader) c.advance.new.self lines c.in-Err-Memory.field-0 c.in-Err-Memory.field-0-is
    (c.in-Err-Memory.ensures (g.R.Read.remaining c.args.reader.now) lines has)) is c.stop-in-Err-Memory.ensures

-- as many lines are run as are to be run
pub returns : goal.returns
returns g c =
    let (lines, has, is) = c.loop-lines.invariant in
    finished (g.F.LogForm.is_text c.args.form.now) c.args.wanted c.args.account (g.R.Read.remaining c.args.reader.now) (g.R.Read.remaining c.loop-lines.reader)
    (g.W.Write.contents c.args.writer.now) (g.W.Write.contents c.finish-2.new.writer) c.finish-2.result lines
    (are_first (g.R.Read.remaining c.args.reader.now) (g.R.Read.remaining c.loop-lines.reader) c.loop-lines.lines lines has)
    (run_to (g.F.LogForm.is_text c.args.form.now) c.args.wanted c.args.account (g.R.Read.remaining c.args.reader.now) (g.R.Read.remaining c.loop-lines.reader)
    (g.W.Write.contents c.args.writer.now) (g.W.Write.contents c.loop-lines.writer) c.loop-lines.log (g.W.Write.contents c.loop-lines.writer) lines c.loop-lines.lines has is
    (c.is_full.ensures.full c.loop-lines-test.false))
    (c.finish-2.ensures c.args.wanted c.args.account lines (g.W.Write.contents c.args.writer.now) is)
