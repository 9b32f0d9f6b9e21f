use Rattle.std.proofs.Common.{[], ◌∷◌, refl, sym}
use Rattle.rbc_records.specs.declared.record.Key.TheVariants as key
use Rattle.rbc_rule_laws.specs.Witnesses.{three_trains}
use Rattle.rbc_rule_laws.proofs.WitnessWorlds.{own_records_agree, there_or_not, two_or_one}
use Rattle.rbc_rule_laws.proofs.witnesses.records_witnesses.Goals as goal

pub returns-clause-all_lists : goal.returns-clause-all_lists
returns-clause-all_lists c = own_records_agree three_trains (key.Roster ∷ key.Line 0 ∷ key.Line 1 ∷ key.Line 2 ∷ key.Unplaced ∷ key.Train 7 ∷ [])

pub returns-clause-one_too_many : goal.returns-clause-one_too_many
returns-clause-one_too_many c h = two_or_one 7 8 7 (h (key.Line 0) refl)

pub returns-clause-line_absent : goal.returns-clause-line_absent
returns-clause-line_absent c h = there_or_not _ (sym (h (key.Line 0) refl))

pub returns-clause-other_line : goal.returns-clause-other_line
returns-clause-other_line c h = there_or_not _ (h (key.Line 1) refl)

pub returns-clause-placed_among_unplaced : goal.returns-clause-placed_among_unplaced
returns-clause-placed_among_unplaced c h = two_or_one 8 9 8 (h key.Unplaced refl)

pub returns-clause-unplaced_absent : goal.returns-clause-unplaced_absent
returns-clause-unplaced_absent c h = there_or_not _ (sym (h key.Unplaced refl))

pub returns-clause-empty_list : goal.returns-clause-empty_list
returns-clause-empty_list c h = there_or_not _ (h (key.Line 1) refl)
