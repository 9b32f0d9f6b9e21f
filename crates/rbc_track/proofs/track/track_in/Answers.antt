use Rattle.std.proofs.Common.{◌≤◌, subst, sym}
use Rattle.std.specs.List.{All}
use Rattle.toml.specs.View.{table_view}
use Rattle.rbc_track.specs.declared.document.Site.{Site}
use Rattle.rbc_track.proofs.Bounds.{sites_numbered}
use Rattle.rbc_track.proofs.track.track_in.Goals as goal

pub new-requires-clause-numbers : goal.new-requires-clause-numbers
new-requires-clause-numbers c =
    subst (All (λ (site : Site). site.nid ≤ 16777214)) (sym c.as_slice.ensures.value) (sites_numbered (table_view c.args.document.now) c.in_ok-sites.sites.items c.in_ok-sites.ensures.ok)
