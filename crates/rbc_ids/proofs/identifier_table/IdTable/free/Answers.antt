use Rattle.std.proofs.Common.{◌≡◌, ◌<◌, length, subst, arith}
use Rattle.rbc_ids.specs.Table.{IsTable}
use Rattle.rbc_ids.proofs.Tables.{there, removed_there, removed_stays}
use Rattle.rbc_ids.proofs.identifier_table.IdTable.free.Goals as goal

pub remove-requires : goal.remove-requires
remove-requires g c =
    let same : c.self.inside.held.items ≡ c.args.self.now = c.self.view_is in
    let within : c.index_of-at.result < length c.self.inside.held.items = there g.row.N c.self.inside.held.items c.args.self.now same (subst (IsTable g.row.N) same c.self.invariant) c.args.id c.index_of-at.result c.index_of-at.ensures c.requires in
    omega (arith, c.self.inside.held.ok.0)

pub invariant_of-self : goal.invariant_of-self
invariant_of-self g c =
    let same : c.self.inside.held.items ≡ c.args.self.now = c.self.view_is in
    removed_stays g.row.N c.self.inside.held.items c.args.self.now same (subst (IsTable g.row.N) same c.self.invariant) c.args.id c.index_of-at.result c.index_of-at.ensures c.requires c.remove.result c.remove.new.self.items c.remove.ensures.items

pub returns : goal.returns
returns g c =
    let same : c.self.inside.held.items ≡ c.args.self.now = c.self.view_is in
    removed_there g.row.N c.self.inside.held.items c.args.self.now same (subst (IsTable g.row.N) same c.self.invariant) c.args.id c.index_of-at.result c.index_of-at.ensures c.requires c.remove.result c.remove.new.self.items c.remove.ensures.items
