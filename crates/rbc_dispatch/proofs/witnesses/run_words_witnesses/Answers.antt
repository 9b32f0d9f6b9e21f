use Rattle.rbc_dispatch.proofs.WitnessWords.{alarms_from_seven, alarms_of_four, alarms_unasked, below_zero, by_train_of_four, by_train_unasked, figures, figures_of_four, figures_twice, figures_unasked, from_seven, from_seven_alarms, from_zero, leading_zeros, live_alarms_twice, live_alarms_unasked, no_number, one, one_whatever_is_named, sixteen, too_great, twice, two_by_default, zero}
use Rattle.rbc_dispatch.proofs.witnesses.run_words_witnesses.Goals as goal

pub returns-clause-one : goal.returns-clause-one
returns-clause-one c = one

pub returns-clause-sixteen : goal.returns-clause-sixteen
returns-clause-sixteen c = sixteen

pub returns-clause-leading_zeros : goal.returns-clause-leading_zeros
returns-clause-leading_zeros c = leading_zeros

pub returns-clause-zero : goal.returns-clause-zero
returns-clause-zero c = zero

pub returns-clause-two_by_default : goal.returns-clause-two_by_default
returns-clause-two_by_default c = two_by_default

pub returns-clause-one_whatever_is_named : goal.returns-clause-one_whatever_is_named
returns-clause-one_whatever_is_named c = one_whatever_is_named

pub returns-clause-too_great : goal.returns-clause-too_great
returns-clause-too_great c = too_great

pub returns-clause-below_zero : goal.returns-clause-below_zero
returns-clause-below_zero c = below_zero

pub returns-clause-no_number : goal.returns-clause-no_number
returns-clause-no_number c = no_number

pub returns-clause-twice : goal.returns-clause-twice
returns-clause-twice c = twice

pub returns-clause-figures : goal.returns-clause-figures
returns-clause-figures c = figures

pub returns-clause-figures_unasked : goal.returns-clause-figures_unasked
returns-clause-figures_unasked c = figures_unasked

pub returns-clause-figures_of_four : goal.returns-clause-figures_of_four
returns-clause-figures_of_four c = figures_of_four

pub returns-clause-figures_twice : goal.returns-clause-figures_twice
returns-clause-figures_twice c = figures_twice

pub returns-clause-by_train_of_four : goal.returns-clause-by_train_of_four
returns-clause-by_train_of_four c = by_train_of_four

pub returns-clause-by_train_unasked : goal.returns-clause-by_train_unasked
returns-clause-by_train_unasked c = by_train_unasked

pub returns-clause-alarms_of_four : goal.returns-clause-alarms_of_four
returns-clause-alarms_of_four c = alarms_of_four

pub returns-clause-alarms_unasked : goal.returns-clause-alarms_unasked
returns-clause-alarms_unasked c = alarms_unasked

pub returns-clause-from_seven : goal.returns-clause-from_seven
returns-clause-from_seven c = from_seven

pub returns-clause-from_zero : goal.returns-clause-from_zero
returns-clause-from_zero c = from_zero

pub returns-clause-alarms_from_seven : goal.returns-clause-alarms_from_seven
returns-clause-alarms_from_seven c = alarms_from_seven

pub returns-clause-from_seven_alarms : goal.returns-clause-from_seven_alarms
returns-clause-from_seven_alarms c = from_seven_alarms

pub returns-clause-live_alarms_unasked : goal.returns-clause-live_alarms_unasked
returns-clause-live_alarms_unasked c = live_alarms_unasked

pub returns-clause-live_alarms_twice : goal.returns-clause-live_alarms_twice
returns-clause-live_alarms_twice c = live_alarms_twice
