use Rattle.std.proofs.Common.{◌≡◌}
use Rattle.std.specs.List.{filter_map}
use Rattle.rbc_live.specs.Known.{engines_in}
use Rattle.rbc_account.specs.Standings.{owed_by, waiting_of, waiting_told, waiting_everywhere}
use Rattle.rbc_account.specs.Totals.{owed_told}
use Rattle.rbc_account.proofs.Listing.{made_and_left}
use Rattle.rbc_account.proofs.state.standings.Given as goal

-- what is told so far, with what is left, is all
abbrev pub invariant-loop-engine : goal.invariant-loop-engine
invariant-loop-engine l = record {
  waits : made_and_left (waiting_of l.desk.track.horizon l.desk.records) waiting_told l.engine-items 0 l.all.items l.engine-index ≡ waiting_everywhere l.desk.track.horizon l.desk.records;
  owed : made_and_left (owed_by l.desk.records) owed_told l.engine-items 0 l.all.items l.engine-index ≡ filter_map (owed_by l.desk.records) (engines_in l.desk.records);
}
