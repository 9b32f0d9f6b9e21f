use Rattle.std.proofs.Common.{◌∙◌}
use Rattle.rbc_window.proofs.ChangedLists.{written_there}
use Rattle.rbc_window.proofs.lists.Lists.write.Goals as goal

pub loop-key-preserved : goal.loop-key-preserved
loop-key-preserved c records k =
    written_there c.loop-key.all.items c.pop.new.self.items (c.in-Some.key, c.in-Some.engines) c.record_of.result
    c.loop-key.writes c.set.new.self c.in-Some.ensures.items c.record_of.ensures c.in_ok-set.ensures.ok records k
    ∙ c.loop-key.invariant records k
