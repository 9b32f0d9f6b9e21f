use Rattle.std.proofs.Common.{◌≤◌, length, arith}
use Rattle.rbc_settle.proofs.NumberLists.{at_within, added, added_rises}
use Rattle.rbc_settle.proofs.numbers.Numbers.add.Goals as goal

pub insert-requires : goal.insert-requires
insert-requires c =
    let within : c.index_of-at.result ≤ length c.self.inside.all.items = at_within c.args.n c.index_of-at.result c.self.inside.all.items c.args.self.now c.self.view_is c.self.invariant c.index_of-at.ensures in
    omega (arith, c.self.inside.all.ok.0)

pub invariant_of-self-2 : goal.invariant_of-self-2
invariant_of-self-2 c = added_rises c.args.n c.index_of-at.result c.self.inside.all.items c.args.self.now c.self.view_is c.self.invariant c.index_of-at.ensures c.requires c.insert.new.self.items c.in_ok-insert.ensures.items

pub returns-clause-ok : goal.returns-clause-ok
returns-clause-ok c = added c.args.n c.index_of-at.result c.self.inside.all.items c.args.self.now c.self.view_is c.self.invariant c.index_of-at.ensures c.requires c.insert.new.self.items c.in_ok-insert.ensures.items
