use Rattle.std.proofs.Common.{◌≡◌, rules}
use Rattle.std.proofs.lemmas.Result.{IfOk-weaker, IfErr-weaker}
use Rattle.ertms_codec.proofs.FromTrainSteps.{report_refused, stop_refused, report_read, stop_read, acknowledgement_read}
use Rattle.ertms_codec.proofs.from_train_reader.body.Goals as goal

pub returns-in-136-clause-ok : goal.returns-in-136-clause-ok
returns-in-136-clause-ok c =
    IfOk-weaker c.report.result _ _ (λ m r whole at number stamp engine. report_read c.args.number c.args.stamp c.args.engine c.args.bits.now whole m c.in-136.is r at number stamp engine) c.report.ensures.ok

pub returns-in-136-clause-err : goal.returns-in-136-clause-err
returns-in-136-clause-err c =
    IfErr-weaker c.report.result _ _ (λ e r whole at. report_refused c.args.number c.args.bits.now whole e c.in-136.is r at) c.report.ensures.err

pub returns-in-146-clause-ok : goal.returns-in-146-clause-ok
returns-in-146-clause-ok c whole at number stamp engine =
    rw c.acknowledgement.ensures (acknowledgement_read c.args.number c.args.stamp c.args.engine c.args.bits.now whole c.in-146.is at number stamp engine)

pub returns-in_default-clause-ok : goal.returns-in_default-clause-ok
returns-in_default-clause-ok c =
    let other : c.args.number ≡ 147 = search rules in
    IfOk-weaker c.stop_acknowledgement.result _ _ (λ m r whole at number stamp engine. stop_read c.args.number c.args.stamp c.args.engine c.args.bits.now whole m other r at number stamp engine) c.stop_acknowledgement.ensures.ok

pub returns-in_default-clause-err : goal.returns-in_default-clause-err
returns-in_default-clause-err c =
    let other : c.args.number ≡ 147 = search rules in
    IfErr-weaker c.stop_acknowledgement.result _ _ (λ e r whole at. stop_refused c.args.number c.args.bits.now whole e other r at) c.stop_acknowledgement.ensures.err
