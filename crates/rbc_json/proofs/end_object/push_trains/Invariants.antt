use Rattle.rbc_account.specs.LogSections.{IsPushed}
use Rattle.rbc_json.specs.Lists.{IsAny}
use Rattle.rbc_json.proofs.end_object.push_trains.Given as goal

-- some text was added
abbrev pub invariant-loop-index : goal.invariant-loop-index
invariant-loop-index l = IsPushed IsAny l.fn.log.items l.log.items
