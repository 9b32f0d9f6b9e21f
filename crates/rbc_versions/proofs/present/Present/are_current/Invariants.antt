use Rattle.std.proofs.Common.{take}
use Rattle.std.specs.List.{All}
use Rattle.std.specs.Option.{option_map}
use Rattle.rbc_versions.specs.Log.{number_of}
use Rattle.rbc_versions.specs.Entries.{ticket_in, record_of}
use Rattle.rbc_versions.proofs.Standing.{HasNumber, ShowsRecord}
use Rattle.rbc_versions.proofs.present.Present.are_current.Given as goal

-- the notes that were passed have the present numbers, and so show the present records
abbrev pub invariant-loop-index : goal.invariant-loop-index
invariant-loop-index l = record {
  numbers : All (HasNumber (λ k. number_of (ticket_in l.self.tickets k))) (take l.index l.notes);
  records : All (ShowsRecord (λ k. option_map record_of (ticket_in l.self.tickets k))) (take l.index l.notes);
}
