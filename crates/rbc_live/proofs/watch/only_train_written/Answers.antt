use Rattle.std.proofs.Common.{◌∙◌, sym}
use Rattle.rbc_live.proofs.Following.{no_zone_beside, only_train}
use Rattle.rbc_live.proofs.watch.only_train_written.Goals as goal

pub returns-then-len-eq1-clause-trains : goal.returns-then-len-eq1-clause-trains
returns-then-len-eq1-clause-trains c = only_train c.args.writes.now _ (sym c.len.ensures ∙ c.if-len-eq1.true) c.at.ensures c.engine_of.result c.engine_of.ensures

pub returns-then-len-eq1-clause-zones : goal.returns-then-len-eq1-clause-zones
returns-then-len-eq1-clause-zones c = no_zone_beside c.args.writes.now _ (sym c.len.ensures ∙ c.if-len-eq1.true) c.at.ensures c.engine_of.result c.engine_of.ensures
