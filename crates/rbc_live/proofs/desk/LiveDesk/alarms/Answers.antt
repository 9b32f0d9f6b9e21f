use Rattle.rbc_live.proofs.Showing.{alarms_on}
use Rattle.rbc_live.proofs.desk.LiveDesk.alarms.Goals as goal

pub returns : goal.returns
returns c = alarms_on c.args.self.now.track c.args.self.now.records c.horizon.result c.alarms_in.result c.horizon.ensures.value c.alarms_in.ensures
