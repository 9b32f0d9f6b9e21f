use Rattle.std.proofs.Common.{◌≡◌, ◌∙◌, rules}
use Rattle.std.proofs.lemmas.Result.{IfOk-weaker, IfErr-weaker}
use Rattle.ertms_codec.proofs.ToTrainSteps.{general_at}
use Rattle.ertms_codec.proofs.to_train_reader.body.Goals as goal

pub returns-in-15-clause-ok : goal.returns-in-15-clause-ok
returns-in-15-clause-ok c whole at head number =
    rw (c.stop_at.ensures whole at, head, ← number, c.in-15.is)

pub returns-in-16-clause-ok : goal.returns-in-16-clause-ok
returns-in-16-clause-ok c whole at head number =
    rw (c.stop.ensures whole at, head, ← number, c.in-16.is)

pub returns-in-18-clause-ok : goal.returns-in-18-clause-ok
returns-in-18-clause-ok c whole at head number =
    rw (c.revoke.ensures whole at, head, ← number, c.in-18.is)

pub returns-in_default-clause-packets : goal.returns-in_default-clause-packets
returns-in_default-clause-packets c = IfOk-weaker c.general.result _ _ (λ m are general. are) c.general.ensures.packets

pub returns-in_default-clause-ok : goal.returns-in_default-clause-ok
returns-in_default-clause-ok c =
    let general : c.args.number ≡ 24 = search rules in
    IfOk-weaker c.general.result _ _ (λ m is whole at head number. is ∙ general_at c.args.number c.args.bits.now whole c.args.head general at head number) c.general.ensures.ok

pub returns-in_default-clause-err : goal.returns-in_default-clause-err
returns-in_default-clause-err c =
    let general : c.args.number ≡ 24 = search rules in
    IfErr-weaker c.general.result _ _ (λ fault is. (general, is)) c.general.ensures.err
