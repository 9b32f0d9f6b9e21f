use Rattle.std.proofs.Common.{rules, All}
use Rattle.std.proofs.lemmas.Result.{IfOk-weaker}
use Rattle.rbc_records.specs.Notes.{record_in}
use Rattle.rbc_window.specs.Hearing.{setting}
use Rattle.rbc_window.specs.Shares.{HaveTakenIfDone}
use Rattle.rbc_window.proofs.shares.taken_in.Goals as goal

-- what each worker did is right
pub returns : goal.returns
returns g c =
    let s = setting c.args.scene.now in
    let records = record_in c.args.store.now in
    let inputs = c.args.inputs.now in
    let each : All (λ worker. HaveTakenIfDone s records inputs worker.items) c.in_ok-workers.workers.items = search rules in
    IfOk-weaker c.in_order.result _ _ (λ all right. right s records inputs each) c.in_order.ensures
