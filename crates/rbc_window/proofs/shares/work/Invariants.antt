use Rattle.rbc_records.specs.Notes.{record_in}
use Rattle.rbc_window.specs.Hearing.{setting}
use Rattle.rbc_window.specs.Shares.{HaveTakenIfDone}
use Rattle.rbc_window.proofs.shares.work.Given as goal

-- the shares so far have taken their messages in
abbrev pub invariant-loop : goal.invariant-loop
invariant-loop g l = HaveTakenIfDone (setting l.scene) (record_in l.store) l.inputs l.done.items
