use Rattle.rbc_live.proofs.Runs.{each_history_is_serial}
use Rattle.rbc_account.proofs.Adding.{all_counted}
use Rattle.rbc_account.proofs.law.account_law.Goals as goal

pub returns : goal.returns
returns c = λ plan taken records sums few is. record {
  serial = each_history_is_serial plan taken records is.history;
  all_counted = all_counted taken sums few is.counts;
}
