use Rattle.rbc_account.proofs.Feeding.{fed_by_line}
use Rattle.rbc_account.proofs.account.Account.pass.Goals as goal

pub returns-clause-fed : goal.returns-clause-fed
returns-clause-fed c =
    fed_by_line c.take.result c.args.self.now.desk.track c.args.line.now c.in_ok-input.input c.args.self.now.desk.records c.take.new.self.desk.records
    c.in_ok-input.ensures.spelled c.take.ensures.steps
