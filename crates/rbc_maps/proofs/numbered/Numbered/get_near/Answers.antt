use Rattle.std.proofs.Common.{sym, subst}
use Rattle.rbc_maps.specs.Maps.{IsMap}
use Rattle.rbc_maps.proofs.MapValues.{map_of_numbered}
use Rattle.rbc_maps.proofs.numbered.Numbered.get_near.Goals as goal

pub value_at-requires : goal.value_at-requires
value_at-requires g c =
    subst IsMap (sym c.deref.ensures.value) (map_of_numbered (record { last = c.self.inside.last; active = c.self.inside.active.items }) c.self.invariant.numbered)

pub value_near-requires : goal.value_near-requires
value_near-requires g c =
    subst IsMap (sym c.deref-3.ensures.value) (map_of_numbered (record { last = c.self.inside.last; active = c.self.inside.active.items }) c.self.invariant.numbered)
