use Rattle.std.proofs.Common.{sym, subst}
use Rattle.rbc_maps.specs.Maps.{IsMap}
use Rattle.rbc_maps.proofs.MapValues.{map_of_numbered}
use Rattle.rbc_maps.proofs.numbered.Numbered.get.Goals as goal

pub value_of-requires : goal.value_of-requires
value_of-requires g c =
    subst IsMap (sym c.deref.ensures.value) (map_of_numbered (record { last = c.self.inside.last; active = c.self.inside.active.items }) c.self.invariant.numbered)
