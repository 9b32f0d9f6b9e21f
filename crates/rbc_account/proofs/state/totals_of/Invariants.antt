use Rattle.std.proofs.Common.{◌≡◌, take}
use Rattle.rbc_account.specs.Totals.{total, owed_told, untold_told, again_told}
use Rattle.rbc_account.proofs.state.totals_of.Given as goal

-- the sums are those of the trains so far
abbrev pub invariant-loop-train : goal.invariant-loop-train
invariant-loop-train l = record {
  owed : l.totals.acknowledgements ≡ total owed_told (take l.train-index l.trains);
  untold : l.totals.untold ≡ total untold_told (take l.train-index l.trains);
  again : l.totals.untold_again ≡ total again_told (take l.train-index l.trains);
}
