use Rattle.std.proofs.Common.{◌≡◌, ◌<◌, length, subst, arith}
use Rattle.rbc_ids.specs.Table.{IsTable}
use Rattle.rbc_ids.proofs.Tables.{there, put_there, put_stays}
use Rattle.rbc_ids.proofs.identifier_table.IdTable.put.Goals as goal

pub index_mut-requires : goal.index_mut-requires
index_mut-requires g c =
    let same : c.self.inside.held.items ≡ c.args.self.now = c.self.view_is in
    let within : c.index_of-at.result < length c.self.inside.held.items = there g.row.N c.self.inside.held.items c.args.self.now same (subst (IsTable g.row.N) same c.self.invariant) c.args.id c.index_of-at.result c.index_of-at.ensures c.requires.held in
    omega (arith, c.self.inside.held.ok.0)

pub invariant_of-self : goal.invariant_of-self
invariant_of-self g c =
    let same : c.self.inside.held.items ≡ c.args.self.now = c.self.view_is in
    put_stays g.row.N c.self.inside.held.items c.args.self.now same (subst (IsTable g.row.N) same c.self.invariant) c.args.id c.index_of-at.result c.index_of-at.ensures c.requires.held c.args.slot c.requires.once c.index_mut.result.now c.index_mut.ensures.value

pub returns : goal.returns
returns g c =
    let same : c.self.inside.held.items ≡ c.args.self.now = c.self.view_is in
    put_there g.row.N c.self.inside.held.items c.args.self.now same (subst (IsTable g.row.N) same c.self.invariant) c.args.id c.index_of-at.result c.index_of-at.ensures c.requires.held c.args.slot c.index_mut.result.now c.index_mut.ensures.value
