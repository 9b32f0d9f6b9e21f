use Rattle.std.proofs.Common.{◌≡◌, drop}
use Rattle.toml.specs.View.{items_view}
use Rattle.rbc_track.specs.Document.{site_in, in_each}
use Rattle.rbc_track.proofs.Rows.{behind}
use Rattle.rbc_track.proofs.document.sites_in.Given as goal

abbrev pub invariant-loop-row : goal.invariant-loop-row
invariant-loop-row l =
    behind l.sites.items (in_each site_in (items_view (drop l.row-index l.rows))) ≡ in_each site_in (items_view l.rows)
