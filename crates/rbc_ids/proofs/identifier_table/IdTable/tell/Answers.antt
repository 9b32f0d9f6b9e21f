use Rattle.std.proofs.Common.{◌≡◌, ◌≤◌, length, sym, subst, arith}
use Rattle.rbc_maps.specs.Maps.{with_value}
use Rattle.rbc_ids.specs.declared.slot.Slot.{Slot}
use Rattle.rbc_ids.specs.Table.{IsTable, TellsApart}
use Rattle.rbc_ids.proofs.Tables.{place_within, told_there, told_stays}
use Rattle.rbc_ids.proofs.Once.{apart-told}
use Rattle.rbc_ids.proofs.identifier_table.IdTable.tell.Goals as goal

pub insert-requires : goal.insert-requires
insert-requires g c =
    let same : c.self.inside.held.items ≡ c.args.self.now = c.self.view_is in
    let within : c.index_of-at.result ≤ length c.self.inside.held.items = place_within g.row.N c.self.inside.held.items c.args.self.now same (subst (IsTable g.row.N) same c.self.invariant) c.args.id c.index_of-at.result c.index_of-at.ensures in
    omega (arith, c.self.inside.held.ok.0)

pub invariant_of-self-2 : goal.invariant_of-self-2
invariant_of-self-2 g c =
    let same : c.self.inside.held.items ≡ c.args.self.now = c.self.view_is in
    let apart : TellsApart c.args.id c.told_now.result c.args.self.now =
    subst (λ (slot : Slot). TellsApart c.args.id slot c.args.self.now) (sym c.told_now.ensures) (apart-told c.args.id c.args.number c.args.stamp c.args.kind c.args.self.now c.requires.untold) in
    told_stays g.row.N c.self.inside.held.items c.args.self.now same (subst (IsTable g.row.N) same c.self.invariant) c.args.id c.index_of-at.result c.index_of-at.ensures c.requires.free c.requires.below
    c.told_now.result apart c.insert.new.self.items c.in_ok-insert.ensures.items

pub returns-clause-ok : goal.returns-clause-ok
returns-clause-ok g c =
    let same : c.self.inside.held.items ≡ c.args.self.now = c.self.view_is in
    subst (λ (slot : Slot). c.insert.new.self.items ≡ with_value c.args.id slot c.args.self.now) c.told_now.ensures
    (told_there g.row.N c.self.inside.held.items c.args.self.now same (subst (IsTable g.row.N) same c.self.invariant) c.args.id c.index_of-at.result c.index_of-at.ensures c.requires.free
    c.told_now.result c.insert.new.self.items c.in_ok-insert.ensures.items)
