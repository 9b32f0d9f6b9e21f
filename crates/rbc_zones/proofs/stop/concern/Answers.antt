use Rattle.std.proofs.Common.{false, subst, sym, ◌∙◌}
use Rattle.std.specs.List.{All}
use Rattle.rbc_zones.specs.Segments.{IsSegment}
use Rattle.rbc_zones.proofs.StopLaw.{edge_in_range}
use Rattle.rbc_zones.proofs.stop.concern.Goals as goal

pub returns-in-Some-2-clause-in_range : goal.returns-in-Some-2-clause-in_range
returns-in-Some-2-clause-in_range c = λ edge before.
    let each = subst (All IsSegment) (sym c.segments.ensures.value) c.segments.ensures.sound.each in
    edge_in_range c.in-Some-2.place.now c.segments.result.now false edge each (sym c.concern_at.ensures ∙ before)
