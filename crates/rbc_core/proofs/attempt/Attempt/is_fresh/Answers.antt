use Rattle.std.proofs.Common.{sym, subst}
use Rattle.std.specs.Prelude.{◌↔◌, IsTrue}
use Rattle.rbc_records.specs.Notes.{AreNow}
use Rattle.rbc_versions.specs.Log.{LogName}
use Rattle.rbc_versions.specs.Entries.{AreOf, AreCurrent, records_of}
use Rattle.rbc_core.specs.Books.{number_now, record_now}
use Rattle.rbc_core.specs.Core.{Try}
use Rattle.rbc_core.proofs.attempt.Attempt.is_fresh.Goals as goal

pub are_current-requires-clause-notes : goal.are_current-requires-clause-notes
are_current-requires-clause-notes g c = subst (λ (log : LogName). AreOf log c.self.inside.notes) (sym c.requires.log) c.self.invariant.1

pub are_current-requires-clause-here : goal.are_current-requires-clause-here
are_current-requires-clause-here g c = c.requires.present

pub returns-clause-numbers : goal.returns-clause-numbers
returns-clause-numbers g c =
    subst (λ (a : Try). IsTrue c.are_current.result ↔ AreCurrent a.notes (number_now c.args.present.now.tickets)) c.self.view_is c.are_current.ensures.numbers

pub returns-clause-records : goal.returns-clause-records
returns-clause-records g c =
    subst (λ (a : Try). IsTrue c.are_current.result → AreNow (records_of a.notes) (record_now c.args.present.now.tickets)) c.self.view_is c.are_current.ensures.records
