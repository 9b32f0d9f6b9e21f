use Rattle.std.proofs.Common.{◌≡◌, ℕ, ◌<◌, ◌∙◌, rules, ltb, length, ap, sym, subst}
use Rattle.std.proofs.lemmas.List.Sorted.{IsPartitionPoint-from_clause, IsPartitionedBy-ltb}
use Rattle.rbc_maps.specs.Maps.{index_for}
use Rattle.rbc_maps.proofs.MapPlaces.{non_decreasing, place_is}
use Rattle.rbc_maps.proofs.MapValues.{place_at}
use Rattle.rbc_ids.specs.declared.slot.Slot.{Slot}
use Rattle.rbc_ids.specs.Table.{Slots, IsTable}
use Rattle.rbc_ids.proofs.identifier_table.IdTable.index_of.Goals as goal

pub returns-then-index-id : goal.returns-then-index-id
returns-then-index-id g c =
    let within : c.from-own.result < length c.self.inside.held.items = search rules in
    place_at 0 c.self.inside.held.items c.self.invariant.ascending c.from-own.result c.index.result.now within c.args.id
    (ap (λ (held : ℕ × Slot). held.0) (sym c.index.ensures) ∙ c.if-index-id.true)
    ∙ ap (λ (xs : Slots). index_for c.args.id xs) c.self.view_is

pub returns : goal.returns
returns g c =
    let same : c.deref.result.now ≡ c.args.self.now = c.deref.ensures.value ∙ c.self.view_is in
    let table : IsTable g.row.N c.deref.result.now = subst (IsTable g.row.N) (sym c.deref.ensures.value) c.self.invariant in
    place_is c.args.id c.deref.result.now c.partition_point.result c.partition_point.ensures.bound
    (IsPartitionPoint-from_clause (λ pair. ltb pair.0 c.args.id) c.deref.result.now c.partition_point.result c.partition_point.ensures.partitioned
    (IsPartitionedBy-ltb (λ pair. pair.0) c.deref.result.now c.args.id (non_decreasing 0 c.deref.result.now table.ascending))
    (λ a r f called. search rules))
    ∙ ap (λ (xs : Slots). index_for c.args.id xs) same
