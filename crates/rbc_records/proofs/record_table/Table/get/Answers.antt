use Rattle.std.proofs.Common.{ap, ◌∙◌}
use Rattle.rbc_records.specs.Columns.{Kept}
use Rattle.rbc_records.specs.Notes.{record_in}
use Rattle.rbc_records.proofs.Keys.{lookup_is}
use Rattle.rbc_records.proofs.record_table.Table.get.Goals as goal

pub returns : goal.returns
returns c = c.get.ensures.value ∙ lookup_is c.self.inside.entries.entries c.args.key ∙ ap (λ (kept : Kept). record_in kept.entries c.args.key) c.self.view_is
