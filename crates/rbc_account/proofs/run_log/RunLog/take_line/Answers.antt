use Rattle.std.proofs.Common.{◌∷◌, ◌++◌, []}
use Rattle.rbc_account.proofs.Logging.{ended_by, written_out, on_err, on_ok}
use Rattle.rbc_account.proofs.run_log.RunLog.take_line.Goals as goal

-- memory was refused
pub returns-then-is_err-clause-taken : goal.returns-then-is_err-clause-taken
returns-then-is_err-clause-taken g c = λ wanted start lines old is within.
    ended_by (g.F.LogForm.is_text c.args.form.now) wanted start lines (c.args.line.now ∷ []) c.args.self.now c.add_line.new.self old (g.W.Write.contents c.args.writer.now)
    (g.W.Write.contents c.stop.new.writer) c.stop.result is (on_err c.add_line.result c.is_err.result c.is_err.ensures.value c.if-is_err.true c.add_line.ensures.text) c.add_line.ensures.sent c.stop.ensures

-- there is enough to write
pub returns-clause-taken : goal.returns-clause-taken
returns-clause-taken g c = λ wanted start lines old is within.
    let now = on_ok c.add_line.result c.is_err.result c.is_err.ensures.value c.if-is_err.false (c.add_line.ensures.added wanted start lines old (g.W.Write.contents c.args.writer.now) is within) in
    written_out (g.F.LogForm.is_text c.args.form.now) wanted start (lines ++ c.args.line.now ∷ []) c.add_line.new.self c.write_out.new.self old (g.W.Write.contents c.args.writer.now)
    (g.W.Write.contents c.write_out.new.writer) c.write_out.result now c.write_out.ensures.whole c.write_out.ensures.part c.write_out.ensures.sent c.write_out.ensures.text
    c.write_out.ensures.account c.write_out.ensures.wanted c.write_out.ensures.headed
