use Rattle.rbc_live.specs.declared.alarm.Alarm.TheVariants.{NoPlace}
use Rattle.rbc_live.proofs.Changing.{one_more_changed}
use Rattle.rbc_live.proofs.alarm.push_changes.Goals as goal

pub loop-stood-preserved : goal.loop-stood-preserved
loop-stood-preserved c =
    one_more_changed c.args.input c.args.engine c.args.old.now c.loop-stood.stood-index _ NoPlace c.loop-stood.text.items c.push_until.new.text.items c.loop-stood.left.now c.in_ok-left.left.now
    c.loop-stood-test.true c.in_ok-left.ensures c.loop-stood.invariant
