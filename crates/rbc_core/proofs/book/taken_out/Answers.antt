use Rattle.std.proofs.Common.{Some, length, refl, sym, ap, ◌∙◌}
use Rattle.std.proofs.lemmas.Option.{slice_get_read}
use Rattle.rbc_core.proofs.book.taken_out.Goals as goal

pub returns-clause-stage : goal.returns-clause-stage
returns-clause-stage g c =
    let stages = c.args.stages.now.items in
    slice_get_read stages (length stages) c.args.front c.index_mut.result.now refl c.requires c.index_mut.ensures.value ∙ ap Some (sym c.replace.ensures.value)
