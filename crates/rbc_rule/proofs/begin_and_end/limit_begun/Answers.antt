use Rattle.std.proofs.Common.{rules, ap, ◌∙◌}
use Rattle.rbc_settle.specs.Numbers.{AreNumbers, has_number}
use Rattle.rbc_rule.specs.Touching.{limit_of}
use Rattle.rbc_rule.specs.Lists.{engines_at}
use Rattle.rbc_rule.proofs.Worlds.{may_have_been}
use Rattle.rbc_rule.proofs.Deciding.{made}
use Rattle.rbc_rule.proofs.Concerned.{limit_enough}
use Rattle.rbc_rule.proofs.begin_and_end.limit_begun.Goals as goal

pub settled_with_limits-requires-clause-enough : goal.settled_with_limits-requires-clause-enough
settled_with_limits-requires-clause-enough g c = λ w m.
    let plan = c.args.track.now in
    let engines = c.in_ok-engines.engines in
    let begun = c.requires.begun w (may_have_been c.fetch_list.ensures.reads.extends m) in
    let numbers : AreNumbers engines = search rules in
    limit_enough plan w m.well_formed c.args.limits c.args.new.now.number (limit_of c.args.new.now) engines begun numbers
    (λ n. c.in_ok-engines.ensures.engines plan w m n ∙ ap (λ list. has_number (engines_at w list) n) c.line_of.ensures.line)

pub returns : goal.returns
returns g c = made c.settled_with_limits.result c.settled_with_limits.ensures c.fetch_list.ensures.reads.extends c.in_ok-engines.ensures.reads.failed
