use Rattle.std.proofs.Common.{◌≡◌, ◌≤◌, ◌-◌, length, drop, Option}
use Rattle.indexmap.specs.IndexMap.{spare}
use Rattle.rbc_records.specs.declared.record.Key.{Key}
use Rattle.rbc_records.specs.declared.record.Rec.{Rec}
use Rattle.rbc_records.specs.Notes.{IsNotedOnce}
use Rattle.rbc_records.specs.Writes.{written}
use Rattle.rbc_versions.specs.Entries.{AreKeyedOf, shown, CountsAll}
use Rattle.rbc_versions.proofs.published.publish_into.Given as goal

-- there is room for the writes that are left, behind the entries those do what all do, and the weight counts what
-- the entries show
abbrev pub invariant-loop-index : goal.invariant-loop-index
invariant-loop-index g l = record {
  room : length l.writes - l.index ≤ spare l.all;
  here : AreKeyedOf l.log l.all.entries;
  once : IsNotedOnce (shown l.all.entries);
  rest : (records : Key → Option Rec) (k : Key) → written (drop l.index l.writes) (written (shown l.all.entries) records) k ≡ written l.writes records k;
  weight : CountsAll l.weight (shown l.all.entries);
}
