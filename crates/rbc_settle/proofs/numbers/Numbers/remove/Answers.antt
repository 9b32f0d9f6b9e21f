use Rattle.std.proofs.Common.{◌<◌, ◌∙◌, length, sym, arith}
use Rattle.rbc_settle.proofs.NumberLists.{at_there, taken_out, taken_out_rises, without-absent}
use Rattle.rbc_settle.proofs.numbers.Numbers.remove.Goals as goal

pub remove-requires : goal.remove-requires
remove-requires c =
    let within : c.index_of-at.result < length c.self.inside.all.items = at_there c.args.n c.index_of-at.result c.self.inside.all.items c.args.self.now c.self.view_is c.self.invariant c.index_of-at.ensures (sym c.has-found.ensures ∙ c.if-found.true) in
    omega (arith, c.self.inside.all.ok.0)

pub invariant_of-self : goal.invariant_of-self
invariant_of-self c = taken_out_rises c.args.n c.index_of-at.result c.self.inside.all.items c.args.self.now c.self.view_is c.self.invariant c.index_of-at.ensures (sym c.has-found.ensures ∙ c.if-found.true) c.remove.new.self.items c.remove.ensures.items

pub returns-then-found-clause-numbers : goal.returns-then-found-clause-numbers
returns-then-found-clause-numbers c = taken_out c.args.n c.index_of-at.result c.self.inside.all.items c.args.self.now c.self.view_is c.self.invariant c.index_of-at.ensures (sym c.has-found.ensures ∙ c.if-found.true) c.remove.new.self.items c.remove.ensures.items

pub returns-else-found-clause-numbers : goal.returns-else-found-clause-numbers
returns-else-found-clause-numbers c = sym (without-absent c.args.n c.args.self.now (sym c.has-found.ensures ∙ c.if-found.false))
