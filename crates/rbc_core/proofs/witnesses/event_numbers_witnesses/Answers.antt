use Rattle.std.proofs.Common.{◌≡◌, [], None, refl, ap, arith}
use Rattle.std.proofs.lemmas.List.Elements.{All-head}
use Rattle.rbc_records.specs.declared.record.Key.{Key}
use Rattle.rbc_records.specs.declared.record.Key.TheVariants as key
use Rattle.rbc_versions.specs.Entries.{NumberedRec}
use Rattle.rbc_rule_laws.proofs.WitnessSays.{differ}
use Rattle.rbc_core.specs.Core.{Try}
use Rattle.rbc_core.specs.Events.{record_at}
use Rattle.rbc_core.specs.Witnesses.{engines, under, enrolled, enrolled_numbers, stale_try, one_stale, published_again, second_enrols}
use Rattle.rbc_core.proofs.WitnessEvents.{third_is_stale, again_by_number}
use Rattle.rbc_core.proofs.witnesses.event_numbers_witnesses.Goals as goal

pub returns-clause-own_numbers : goal.returns-clause-own_numbers
returns-clause-own_numbers c = (again_by_number second_enrols enrolled enrolled_numbers refl refl (omega arith) refl refl).0

pub returns-clause-record_under_zero : goal.returns-clause-record_under_zero
returns-clause-record_under_zero c meaning all =
    let none = All-head (λ (entry : Key × NumberedRec). record_at meaning entry.1.number ≡ entry.1.rec) (key.Roster, under 0 engines) [] all in
    absurd (cc none)

pub returns-clause-one_stale_note : goal.returns-clause-one_stale_note
returns-clause-one_stale_note c (opened, (a, at, current, same, numbers)) =
    let is : stale_try ≡ a = let x = at.at in cc x in differ 2 0 refl (third_is_stale a.notes one_stale.present (ap (λ (t : Try). t.notes) is) current)

pub returns-clause-same_record : goal.returns-clause-same_record
returns-clause-same_record c (opened, (a, at, current, same, numbers)) =
    let is : stale_try ≡ a = let x = at.at in cc x in differ 2 4 refl (third_is_stale a.notes published_again.present (ap (λ (t : Try). t.notes) is) current)

pub returns-clause-dropped_numbers : goal.returns-clause-dropped_numbers
returns-clause-dropped_numbers c may = let one = may.3 (λ k. None) key.Roster in absurd (cc one)
