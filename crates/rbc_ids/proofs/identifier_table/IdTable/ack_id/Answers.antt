use Rattle.std.proofs.Common.{◌≡◌, ◌∙◌, Some, sym, ap, subst, arith}
use Rattle.rbc_maps.specs.Maps.{value_of}
use Rattle.rbc_ids.specs.declared.slot.Slot.{Slot}
use Rattle.rbc_ids.specs.declared.slot.Slot.TheVariants.{Used}
use Rattle.rbc_ids.specs.Table.{TellsApart}
use Rattle.rbc_ids.proofs.Tables.{has-value}
use Rattle.rbc_ids.proofs.Once.{apart-marked}
use Rattle.rbc_ids.proofs.identifier_table.IdTable.ack_id.Goals as goal

pub free-requires : goal.free-requires
free-requires g c = (omega arith, has-value c.args.id c.in-Some-Used.field-0 c.args.self.now (sym c.slot.ensures.value ∙ c.in-Some-Used.is))

pub put-requires : goal.put-requires
put-requires g c =
    let slots = c.args.self.now in
    let table = c.slot.ensures.sound in
    let there : value_of slots c.args.id ≡ Some (Used c.in-Some-Used.used) = sym c.slot.ensures.value ∙ c.in-Some-Used.is ∙ ap (λ (slot : Slot). Some slot) c.in-Some-Used.field-0-is in (
      omega arith,
      (
        has-value c.args.id (Used c.in-Some-Used.used) slots there,
        subst (λ (slot : Slot). TellsApart c.args.id slot slots) (sym c.marked.ensures) (apart-marked c.args.id c.in-Some-Used.used slots table.ascending table.once there),
      ),
    )
