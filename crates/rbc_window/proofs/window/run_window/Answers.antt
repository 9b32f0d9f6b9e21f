use Rattle.std.proofs.Common.{List, subst}
use Rattle.rbc_records.specs.declared.record.Key.{Key}
use Rattle.rbc_records.specs.declared.record.Rec.{Rec}
use Rattle.rbc_records.specs.Notes.{record_in}
use Rattle.rbc_desk.specs.Held.{standing}
use Rattle.rbc_window.specs.Answers.{AreDoneInAny}
use Rattle.rbc_window.proofs.Done.{taken_over}
use Rattle.rbc_window.proofs.window.run_window.Goals as goal

pub returns-clause-ok : goal.returns-clause-ok
returns-clause-ok g c =
    let track = c.args.track.now in
    let inputs = c.args.inputs.now in
    let answers = c.in_ok-answers.answers.items in
    let writes = c.in_ok-answers.writes in
    taken_over track inputs (standing c.args.desk.now) (standing c.take_over_all.new.self) answers writes c.keeps.ensures c.keeps_order.ensures.0
    (subst (λ (records : List (Key × Rec)). AreDoneInAny track (record_in records) inputs answers writes) c.store.ensures.records c.in_ok-answers.ensures.done)
    c.in_ok-take_over_all.ensures.ok
