use Rattle.std.proofs.Common.{◌≡◌, drop}
use Rattle.toml.specs.View.{items_view}
use Rattle.rbc_track.specs.Document.{length_in, in_each}
use Rattle.rbc_track.proofs.Rows.{behind}
use Rattle.rbc_track.proofs.document.lengths_in.Given as goal

abbrev pub invariant-loop-row : goal.invariant-loop-row
invariant-loop-row l =
    behind l.lengths.items (in_each length_in (items_view (drop l.row-index l.rows))) ≡ in_each length_in (items_view l.rows)
