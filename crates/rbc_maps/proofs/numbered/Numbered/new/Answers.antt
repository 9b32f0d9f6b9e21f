use Rattle.rbc_maps.proofs.Beside.{with_none}
use Rattle.rbc_maps.proofs.numbered.Numbered.new.Goals as goal

pub invariant_of-result : goal.invariant_of-result
invariant_of-result g c =
    with_none g.V.OnLines.marks g.V.OnLines.is_sound g.row.N c.new.result.items c.new-2.result.items c.new-4.result.items c.new-3.result.items c.new.ensures.items c.new-2.ensures.items c.new-4.ensures.items c.new-3.ensures.items
