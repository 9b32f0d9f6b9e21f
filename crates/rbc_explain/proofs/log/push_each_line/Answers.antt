use Rattle.std.proofs.Common.{rules, ◌≡◌, length}
use Rattle.rbc_explain.proofs.Marking.{one_line_less, no_line_left}
use Rattle.rbc_explain.proofs.log.push_each_line.Goals as goal

-- one line more
pub loop-rest-preserved : goal.loop-rest-preserved
loop-rest-preserved c =
    one_line_less c.args.log.now.items c.args.text.now c.loop-rest.log.items c.loop-rest.rest.now c.first_line.result.0.now c.first_line.result.1.now c.push_other.new.log.items
    c.loop-rest.invariant c.first_line.ensures.line c.in_ok-push_other.ensures

-- all of them
pub returns : goal.returns
returns c =
    let none : length c.loop-rest.rest.now ≡ 0 = search rules in
    no_line_left c.args.log.now.items c.args.text.now c.loop-rest.log.items c.loop-rest.rest.now c.loop-rest.invariant none
