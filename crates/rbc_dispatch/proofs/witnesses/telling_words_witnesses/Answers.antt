use Rattle.rbc_dispatch.proofs.WitnessWords.{all_for_a_train, all_for_the_end, all_for_the_first, at_first, at_last, before_first, busy, busy_train, end, end_as_object, ended_before, falling, from_last, from_zero_telling, no_line, part, refused, refused_end, to_nine, to_nine_from_nine, train, two_lines}
use Rattle.rbc_dispatch.proofs.witnesses.telling_words_witnesses.Goals as goal

pub returns-clause-from_last : goal.returns-clause-from_last
returns-clause-from_last c = from_last

pub returns-clause-from_zero : goal.returns-clause-from_zero
returns-clause-from_zero c = from_zero_telling

pub returns-clause-to_nine : goal.returns-clause-to_nine
returns-clause-to_nine c = to_nine

pub returns-clause-to_nine_from_nine : goal.returns-clause-to_nine_from_nine
returns-clause-to_nine_from_nine c = to_nine_from_nine

pub returns-clause-ended_before : goal.returns-clause-ended_before
returns-clause-ended_before c = ended_before

pub returns-clause-refused : goal.returns-clause-refused
returns-clause-refused c = refused

pub returns-clause-end : goal.returns-clause-end
returns-clause-end c = end

pub returns-clause-end_as_object : goal.returns-clause-end_as_object
returns-clause-end_as_object c = end_as_object

pub returns-clause-refused_end : goal.returns-clause-refused_end
returns-clause-refused_end c = refused_end

pub returns-clause-all_for_the_end : goal.returns-clause-all_for_the_end
returns-clause-all_for_the_end c = all_for_the_end

pub returns-clause-at_first : goal.returns-clause-at_first
returns-clause-at_first c = at_first

pub returns-clause-at_last : goal.returns-clause-at_last
returns-clause-at_last c = at_last

pub returns-clause-before_first : goal.returns-clause-before_first
returns-clause-before_first c = before_first

pub returns-clause-all_for_the_first : goal.returns-clause-all_for_the_first
returns-clause-all_for_the_first c = all_for_the_first

pub returns-clause-two_lines : goal.returns-clause-two_lines
returns-clause-two_lines c = two_lines

pub returns-clause-part : goal.returns-clause-part
returns-clause-part c = part

pub returns-clause-falling : goal.returns-clause-falling
returns-clause-falling c = falling

pub returns-clause-no_line : goal.returns-clause-no_line
returns-clause-no_line c = no_line

pub returns-clause-train : goal.returns-clause-train
returns-clause-train c = train

pub returns-clause-busy : goal.returns-clause-busy
returns-clause-busy c = busy

pub returns-clause-busy_train : goal.returns-clause-busy_train
returns-clause-busy_train c = busy_train

pub returns-clause-all_for_a_train : goal.returns-clause-all_for_a_train
returns-clause-all_for_a_train c = all_for_a_train
