use Rattle.rbc_records.specs.Notes.{record_in}
use Rattle.rbc_window.specs.Hearing.{setting}
use Rattle.rbc_window.proofs.Taking.{IsUnderWay}
use Rattle.rbc_window.proofs.share.take_in_each.Given as goal

-- the messages so far are taken in
abbrev pub invariant-loop-input : goal.invariant-loop-input
invariant-loop-input l = IsUnderWay (setting l.scene) l.share (record_in l.store) l.inputs l.input-index l.trains l.kept.items
