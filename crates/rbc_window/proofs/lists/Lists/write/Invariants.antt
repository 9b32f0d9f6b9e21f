use Rattle.std.proofs.Common.{◌≡◌, vec_len}
use Rattle.rbc_records.specs.declared.record.Key.{Key}
use Rattle.rbc_records.specs.Writes.{written}
use Rattle.rbc_window.specs.Messages.{Records}
use Rattle.rbc_window.specs.Moving.{list_or}
use Rattle.rbc_window.proofs.lists.Lists.write.Given as goal

-- the lists that are left, over what is written already, are all lists over what was written before
abbrev pub invariant-loop-key : goal.invariant-loop-key
invariant-loop-key l =
    (records : Records) (k : Key)
    → list_or l.all.items (written l.writes records) k ≡ list_or l.fn.self (written l.fn.writes records) k

abbrev pub decreases-loop-key : goal.decreases-loop-key
decreases-loop-key l = vec_len l.all
