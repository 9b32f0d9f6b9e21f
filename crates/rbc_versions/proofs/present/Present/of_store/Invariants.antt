use Rattle.std.proofs.Common.{◌≡◌, ◌≤◌, drop}
use Rattle.std.specs.Option.{option_map}
use Rattle.indexmap.specs.IndexMap.{spare}
use Rattle.rbc_records.specs.declared.record.Key.{Key}
use Rattle.rbc_records.specs.Notes.{record_in}
use Rattle.rbc_versions.specs.Entries.{StandIn, ticket_in, record_of}
use Rattle.rbc_versions.proofs.present.Present.of_store.Given as goal

-- there is room for the records that are left, and those behind are in
abbrev pub invariant-loop-index : goal.invariant-loop-index
invariant-loop-index g l = record {
  room : l.index ≤ spare l.tickets;
  here : StandIn l.log l.tickets.entries;
  records : (k : Key) → option_map record_of (ticket_in l.tickets.entries k) ≡ record_in (drop l.index l.store) k;
}
