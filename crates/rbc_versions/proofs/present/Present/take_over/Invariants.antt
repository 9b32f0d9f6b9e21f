use Rattle.std.proofs.Common.{◌≡◌, ◌≤◌, ◌-◌, length, drop}
use Rattle.indexmap.specs.IndexMap.{spare}
use Rattle.rbc_records.specs.declared.record.Key.{Key}
use Rattle.rbc_versions.specs.Entries.{ticket_in, tickets_after}
use Rattle.rbc_versions.proofs.present.Present.take_over.Given as goal

-- there is room for the entries that are left, and those give what all give
abbrev pub invariant-loop-index : goal.invariant-loop-index
invariant-loop-index l = record {
  room : length l.published - l.index ≤ spare l.self-inside.tickets;
  rest : (k : Key) → tickets_after (drop l.index l.published) (ticket_in l.self-inside.tickets.entries) k ≡ tickets_after l.fn.published (ticket_in l.fn.self.tickets) k;
}
