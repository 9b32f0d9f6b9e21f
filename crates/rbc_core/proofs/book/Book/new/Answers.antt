use Rattle.std.proofs.Common.{◌≡◌, ap, ◌∙◌, List, length}
use Rattle.std.specs.Prelude.{replicate}
use Rattle.rbc_records.specs.declared.record.Key.{Key}
use Rattle.rbc_records.specs.declared.record.Rec.{Rec}
use Rattle.rbc_records.specs.Notes.{record_in}
use Rattle.rbc_rule.specs.declared.input.Input.{Input}
use Rattle.rbc_versions.specs.Entries.{StandIn}
use Rattle.rbc_core.specs.declared.stage.Stage.TheVariants.{Free}
use Rattle.rbc_core.specs.Books.{record_now}
use Rattle.rbc_core.proofs.Presents.{opens_book}
use Rattle.rbc_core.proofs.Bounding.{bound_free}
use Rattle.rbc_core.proofs.book.Book.new.Goals as goal

pub invariant_of-result : goal.invariant_of-result
invariant_of-result g c =
    let run = g.N.RunName.run in
    let tickets = c.in-Ok-of_store.present.tickets in
    let stages : c.in-Ok.stages.items ≡ replicate (length run.inputs) Free = c.in-Ok.ensures ∙ ap (λ (all : List Input). replicate (length all) Free) c.requires.inputs in
    let stand : StandIn g.N.RunName.log tickets = rw c.requires.log at c.in-Ok-of_store.ensures.here in
    let show : (k : Key) → record_now tickets k ≡ record_in c.args.desk.records k = λ k. c.in-Ok-of_store.ensures.records k ∙ ap (λ (all : List (Key × Rec)). record_in all k) c.store.ensures.records in (
      c.requires.log,
      c.requires.inputs,
      opens_book run g.N.RunName.log c.args.desk tickets c.in-Ok.stages.items c.requires.good c.requires.desk stages stand show,
      bound_free _ _ _ stages,
    )

pub returns-clause-book : goal.returns-clause-book
returns-clause-book g c = (invariant_of-result g c).2
