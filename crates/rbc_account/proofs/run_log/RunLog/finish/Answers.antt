use Rattle.std.proofs.Common.{◌∙◌, [], List, ℕ, subst, append-nil}
use Rattle.rbc_account.specs.UnderWay.{IsEnded}
use Rattle.rbc_account.proofs.Logging.{ended_by, ended_log, whole_out, on_err, on_ok}
use Rattle.rbc_account.proofs.run_log.RunLog.finish.Goals as goal

-- memory was refused for the end
pub returns-then-is_err : goal.returns-then-is_err
returns-then-is_err g c = λ wanted start lines old is.
    subst (λ (ls : List (List ℕ)). IsEnded (g.F.LogForm.is_text c.args.form.now) wanted start ls old (g.W.Write.contents c.stop.new.writer) c.stop.result) (append-nil lines)
    (ended_by (g.F.LogForm.is_text c.args.form.now) wanted start lines [] c.args.self c.add_end.new.self old (g.W.Write.contents c.args.writer.now) (g.W.Write.contents c.stop.new.writer) c.stop.result
    is (on_err c.add_end.result c.is_err.result c.is_err.ensures.value c.if-is_err.true c.add_end.ensures.text) c.add_end.ensures.sent c.stop.ensures)

-- the end was added
pub returns : goal.returns
returns g c = λ wanted start lines old is.
    whole_out (g.F.LogForm.is_text c.args.form.now) wanted start lines is.written c.add_end.new.self.text.items c.add_end.new.self.outlet.sent old (g.W.Write.contents c.args.writer.now)
    (g.W.Write.contents c.write_out.new.writer) c.write_out.result
    (ended_log (g.F.LogForm.is_text c.args.form.now) wanted start lines c.args.self c.add_end.new.self old (g.W.Write.contents c.args.writer.now) is
    (on_ok c.add_end.result c.is_err.result c.is_err.ensures.value c.if-is_err.false c.add_end.ensures.added))
    is.out (c.add_end.ensures.sent ∙ is.count) c.write_out.ensures.whole c.write_out.ensures.part
