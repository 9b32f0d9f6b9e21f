use Rattle.std.proofs.Common.{rules}
use Rattle.rbc_settle.specs.Numbers.{AreNumbers}
use Rattle.rbc_rule.proofs.Worlds.{may_have_been}
use Rattle.rbc_rule.proofs.Deciding.{made}
use Rattle.rbc_rule.proofs.Concerned.{limit_end_enough}
use Rattle.rbc_rule.proofs.begin_and_end.limit_ended.Goals as goal

pub settled_with_limits-requires-clause-enough : goal.settled_with_limits-requires-clause-enough
settled_with_limits-requires-clause-enough g c = λ w m.
    let plan = c.args.track.now in
    let engines = c.in_ok-engines.engines in
    let ended = c.requires.ended w (may_have_been c.fetch_told.ensures.reads.extends m) in
    let numbers : AreNumbers engines = search rules in
    limit_end_enough plan w m.well_formed c.args.limits c.args.number engines ended numbers (c.in_ok-engines.ensures.sought plan w m)

pub returns : goal.returns
returns g c = made c.settled_with_limits.result c.settled_with_limits.ensures c.fetch_told.ensures.reads.extends c.in_ok-engines.ensures.reads.failed
