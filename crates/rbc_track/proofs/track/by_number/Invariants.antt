use Rattle.std.proofs.Common.{◌≡◌, [], drop, nat_cmp}
use Rattle.std.specs.BTreeMap.{IsOrdered}
use Rattle.rbc_track.proofs.Numbered.{numbered}
use Rattle.rbc_track.proofs.track.by_number.Given as goal

abbrev pub invariant-loop-site : goal.invariant-loop-site
invariant-loop-site l = record {
  so_far : numbered l.groups.entries (drop l.site-index l.sites) ≡ numbered [] l.sites;
  ascending : IsOrdered nat_cmp l.groups;
}
