use Rattle.std.proofs.Common.{option_copied, sym, subst}
use Rattle.std.specs.Prelude.{IfOk}
use Rattle.rbc_rule.specs.declared.input.Input.{Input}
use Rattle.rbc_account.specs.Deeds.{IsDeed}
use Rattle.rbc_account.proofs.deed.done.Goals as goal

pub returns-in-Stop : goal.returns-in-Stop
returns-in-Stop c =
    let before = option_copied c.args.before in
    subst (λ (one : Input). IfOk c.stopped.result (IsDeed c.args.track.now before one)) (sym c.in-Stop.is) (c.stopped.ensures c.args.track.now before)

pub returns-in-Enrol : goal.returns-in-Enrol
returns-in-Enrol c = c.as_given.ensures c.args.track.now (option_copied c.args.before)
