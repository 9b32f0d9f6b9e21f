use Rattle.std.proofs.Common.{◌≡◌, ◌≤◌, ◌-◌, ◌++◌, length, take, drop, vec_len}
use Rattle.rbc_records.specs.declared.record.Key.{Key}
use Rattle.rbc_records.specs.Notes.{record_in}
use Rattle.rbc_records.specs.Writes.{written, replaced}
use Rattle.rbc_records.proofs.store.exchange.Given as goal

-- there is room for the writes that are left, those give what all give, and behind what was replaced they leave what all leave
abbrev pub invariant-loop-index : goal.invariant-loop-index
invariant-loop-index l = record {
  all : vec_len l.writes-inside.all ≡ length l.fn.writes;
  room : vec_len l.writes-inside.all - l.index ≤ l.store-inside.records.room;
  rest : (k : Key) → written (drop l.index l.writes-inside.all.items) (record_in l.store-inside.records.entries) k ≡ written l.fn.writes (record_in l.fn.store) k;
  left : take l.index l.writes-inside.all.items ++ replaced (drop l.index l.writes-inside.all.items) (record_in l.store-inside.records.entries) ≡ replaced l.fn.writes (record_in l.fn.store);
}
