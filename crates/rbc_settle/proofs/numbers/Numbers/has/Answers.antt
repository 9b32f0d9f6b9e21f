use Rattle.std.proofs.Common.{◌≤◌, ◌<◌, ◌∙◌, length, sym, arith}
use Rattle.std.proofs.lemmas.Bool.{le-ltb}
use Rattle.rbc_settle.proofs.NumberLists.{read_there, none_past}
use Rattle.rbc_settle.proofs.numbers.Numbers.has.Goals as goal

pub returns-then-at-len : goal.returns-then-at-len
returns-then-at-len c =
    let within : c.index_of-at.result < length c.self.inside.all.items = omega (arith, c.self.inside.all.ok.0) in
    read_there c.args.n c.index_of-at.result c.self.inside.all.items c.args.self.now c.self.view_is c.self.invariant c.index_of-at.ensures c.index.result.now within c.index.ensures

pub returns-else-at-len : goal.returns-else-at-len
returns-else-at-len c =
    let past : length c.self.inside.all.items ≤ c.index_of-at.result = omega (arith, c.self.inside.all.ok.0) in
    le-ltb _ _ c.if-at-len.false ∙ sym (none_past c.args.n c.index_of-at.result c.self.inside.all.items c.args.self.now c.self.view_is c.self.invariant c.index_of-at.ensures past)
