use Rattle.std.proofs.Common.{is_some, sym, ap, ◌∙◌}
use Rattle.rbc_settle.proofs.Judging.{value_is_some, there_where_some}
use Rattle.rbc_settle.proofs.judge.is_active.Goals as goal

pub returns : goal.returns
returns c = there_where_some c.is_some.result c.get_near.result (sym c.is_some.ensures) ∙ ap is_some c.get_near.ensures ∙ value_is_some c.args.stops.now.active c.args.number
