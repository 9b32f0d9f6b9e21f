use Rattle.rbc_json.proofs.Ends.{none_more, one_more}
use Rattle.rbc_json.proofs.end_object.push_trains.Goals as goal

pub loop-index-init : goal.loop-index-init
loop-index-init c = none_more c.args.log.now.items

pub loop-index-preserved : goal.loop-index-preserved
loop-index-preserved c = one_more c.args.log.now.items c.loop-index.log.items c.push_train.new.log.items c.loop-index.invariant c.in_ok-push_train.ensures
