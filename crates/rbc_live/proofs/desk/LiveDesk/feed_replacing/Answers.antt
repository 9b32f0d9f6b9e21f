use Rattle.rbc_live.proofs.Counts.{fed_by_line}
use Rattle.rbc_live.proofs.desk.LiveDesk.feed_replacing.Goals as goal

pub returns-clause-step : goal.returns-clause-step
returns-clause-step c =
    fed_by_line c.take_replacing.result c.args.self.now.track c.args.line.now c.in_ok-input.input c.args.self.now.records c.take_replacing.new.self.records c.in_ok-input.ensures.spelled c.take_replacing.ensures.step
