use Rattle.std.proofs.Common.{◌≤◌, length, arith}
use Rattle.rbc_ids.proofs.Tables.{few}
use Rattle.rbc_ids.proofs.identifier_table.IdTable.held.Goals as goal

pub returns-clause-most : goal.returns-clause-most
returns-clause-most g c =
    let most : length c.self.inside.held.items ≤ g.row.N = few g.row.N c.self.inside.held.items c.self.invariant in
    omega (arith, c.len.ensures, c.self.inside.held.ok.0)
