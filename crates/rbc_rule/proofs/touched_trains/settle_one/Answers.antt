use Rattle.std.proofs.Common.{rules, ◌≡◌, ◌++◌, None, ap, ◌∙◌}
use Rattle.std.proofs.lemmas.Result.{IfOk-from_err}
use Rattle.rbc_rule.proofs.Gathering.{changed_written, same_not_written, sent_as_it_is}
use Rattle.rbc_rule.proofs.touched_trains.settle_one.Goals as goal

pub returns-in_err-after-clause-writes : goal.returns-in_err-after-clause-writes
returns-in_err-after-clause-writes c = IfOk-from_err c.from_residual.result _ c.from_residual.ensures.0

pub returns-in_err-after-clause-messages : goal.returns-in_err-after-clause-messages
returns-in_err-after-clause-messages c = IfOk-from_err c.from_residual.result _ c.from_residual.ensures.0

pub returns-in_err-after-clause-few : goal.returns-in_err-after-clause-few
returns-in_err-after-clause-few c = IfOk-from_err c.from_residual.result _ c.from_residual.ensures.0

pub returns-in_err-after-clause-fit : goal.returns-in_err-after-clause-fit
returns-in_err-after-clause-fit c = IfOk-from_err c.from_residual.result _ c.from_residual.ensures.0

pub returns-in_err-set-clause-writes : goal.returns-in_err-set-clause-writes
returns-in_err-set-clause-writes c = IfOk-from_err c.from_residual-in_err-set.result _ c.from_residual-in_err-set.ensures.0

pub returns-in_err-set-clause-messages : goal.returns-in_err-set-clause-messages
returns-in_err-set-clause-messages c = IfOk-from_err c.from_residual-in_err-set.result _ c.from_residual-in_err-set.ensures.0

pub returns-in_err-set-clause-few : goal.returns-in_err-set-clause-few
returns-in_err-set-clause-few c = IfOk-from_err c.from_residual-in_err-set.result _ c.from_residual-in_err-set.ensures.0

pub returns-in_err-set-clause-fit : goal.returns-in_err-set-clause-fit
returns-in_err-set-clause-fit c = IfOk-from_err c.from_residual-in_err-set.result _ c.from_residual-in_err-set.ensures.0

pub returns-in_ok-set-clause-writes : goal.returns-in_ok-set-clause-writes
returns-in_ok-set-clause-writes c =
    let written = changed_written c.args.track.now c.args.change c.args.train.now (c.released.ensures.unforced (search rules)) c.in_ok-after.field-0 c.in-Some-2.after c.in-Some-2.is c.in_ok-after.ensures.some c.in_ok-after.ensures.after in
    c.in_ok-set.ensures.ok ∙ ap (λ writes. c.args.gathered.now.writes ++ writes) written

pub returns-in_ok-set-clause-messages : goal.returns-in_ok-set-clause-messages
returns-in_ok-set-clause-messages c = c.in_ok-after.ensures.messages ∙ ap (λ more. c.args.gathered.now.messages.items ++ more) (sent_as_it_is c.args.track.now c.args.change c.args.train.now (c.released.ensures.unforced (search rules)))

pub returns-in_ok-set-clause-few : goal.returns-in_ok-set-clause-few
returns-in_ok-set-clause-few c = c.in_ok-after.ensures.few

pub returns-in_ok-set-clause-fit : goal.returns-in_ok-set-clause-fit
returns-in_ok-set-clause-fit c = c.in_ok-after.ensures.fit c.requires

pub returns-in_default-2-clause-writes : goal.returns-in_default-2-clause-writes
returns-in_default-2-clause-writes c =
    let none : c.in_ok-after.field-0 ≡ None = search rules in
    same_not_written c.args.track.now c.args.change c.args.train.now (c.released.ensures.unforced (search rules)) c.in_ok-after.field-0 c.args.gathered.now.writes none c.in_ok-after.ensures.none

pub returns-in_default-2-clause-messages : goal.returns-in_default-2-clause-messages
returns-in_default-2-clause-messages c = c.in_ok-after.ensures.messages ∙ ap (λ more. c.args.gathered.now.messages.items ++ more) (sent_as_it_is c.args.track.now c.args.change c.args.train.now (c.released.ensures.unforced (search rules)))

pub returns-in_default-2-clause-few : goal.returns-in_default-2-clause-few
returns-in_default-2-clause-few c = c.in_ok-after.ensures.few

pub returns-in_default-2-clause-fit : goal.returns-in_default-2-clause-fit
returns-in_default-2-clause-fit c = c.in_ok-after.ensures.fit c.requires
