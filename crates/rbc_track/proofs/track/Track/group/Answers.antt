use Rattle.std.proofs.Common.{◌≡◌, ℕ, List, Some, subst, sym}
use Rattle.rbc_maps.specs.Maps.{IsMap, value_of}
use Rattle.rbc_track.specs.Plan.{Plan, IsPlaced}
use Rattle.rbc_track.specs.declared.group.Group.{Group}
use Rattle.rbc_track.proofs.Rising.{rising}
use Rattle.rbc_track.proofs.track.Track.group.Goals as goal

pub value_at-requires : goal.value_at-requires
value_at-requires c = subst IsMap (sym c.deref-2.ensures.value) (rising _ c.self.invariant.ascending)

pub returns-in-Some-clause-placed : goal.returns-in-Some-clause-placed
returns-in-Some-clause-placed c =
    let group = c.in-Some.group.now in
    let there = subst (λ (groups : List (ℕ × Group)). value_of groups c.args.nid ≡ Some group) c.deref-2.ensures.value c.in-Some.ensures.value in
    subst (λ (plan : Plan). IsPlaced plan c.args.nid group) c.self.view_is (c.self.invariant.groups c.args.nid group there)

pub value_of-requires : goal.value_of-requires
value_of-requires c = subst IsMap (sym c.deref-in-None.ensures.value) (rising _ c.self.invariant.ascending)
