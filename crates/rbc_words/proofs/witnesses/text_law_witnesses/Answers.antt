use Rattle.rbc_words.proofs.TextCases as cases
use Rattle.rbc_words.proofs.witnesses.text_law_witnesses.Goals as goal

pub returns-clause-report : goal.returns-clause-report
returns-clause-report c = cases.report

pub returns-clause-report_of_two_groups : goal.returns-clause-report_of_two_groups
returns-clause-report_of_two_groups c = cases.report_of_two_groups

pub returns-clause-acknowledgement : goal.returns-clause-acknowledgement
returns-clause-acknowledgement c = cases.acknowledgement

pub returns-clause-stop_acknowledgement : goal.returns-clause-stop_acknowledgement
returns-clause-stop_acknowledgement c = cases.stop_acknowledgement

pub returns-clause-stop_at : goal.returns-clause-stop_at
returns-clause-stop_at c = cases.stop_at

pub returns-clause-stop : goal.returns-clause-stop
returns-clause-stop c = cases.stop

pub returns-clause-revoke : goal.returns-clause-revoke
returns-clause-revoke c = cases.revoke

pub returns-clause-restrict : goal.returns-clause-restrict
returns-clause-restrict c = cases.restrict

pub returns-clause-lift : goal.returns-clause-lift
returns-clause-lift c = cases.lift

pub returns-clause-word_too_many : goal.returns-clause-word_too_many
returns-clause-word_too_many c = cases.word_too_many

pub returns-clause-out_of_range : goal.returns-clause-out_of_range
returns-clause-out_of_range c = cases.out_of_range

pub returns-clause-leading_zero : goal.returns-clause-leading_zero
returns-clause-leading_zero c = cases.leading_zero

pub returns-clause-without_speed : goal.returns-clause-without_speed
returns-clause-without_speed c = cases.without_speed

pub returns-clause-previous_in_packet_0 : goal.returns-clause-previous_in_packet_0
returns-clause-previous_in_packet_0 c = cases.previous_in_packet_0

pub returns-clause-unknown_message : goal.returns-clause-unknown_message
returns-clause-unknown_message c = cases.unknown_message

pub returns-clause-two_spaces : goal.returns-clause-two_spaces
returns-clause-two_spaces c = cases.two_spaces

pub returns-clause-fill_bits_of_1 : goal.returns-clause-fill_bits_of_1
returns-clause-fill_bits_of_1 c = cases.fill_bits_of_1

pub returns-clause-level_2 : goal.returns-clause-level_2
returns-clause-level_2 c = cases.level_2

pub returns-clause-moving : goal.returns-clause-moving
returns-clause-moving c = cases.moving

pub returns-clause-stop_for_revocation : goal.returns-clause-stop_for_revocation
returns-clause-stop_for_revocation c = cases.stop_for_revocation
