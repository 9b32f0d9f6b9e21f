use Rattle.rbc_settle.proofs.WitnessTrains as case
use Rattle.rbc_settle.proofs.witnesses.settle_law_witnesses.Goals as goal

pub returns-clause-told_stays : goal.returns-clause-told_stays
returns-clause-told_stays c = case.told_stays

pub returns-clause-told_is_up_to_date : goal.returns-clause-told_is_up_to_date
returns-clause-told_is_up_to_date c = case.told_is_up_to_date

pub returns-clause-told_is_well_formed : goal.returns-clause-told_is_well_formed
returns-clause-told_is_well_formed c = case.told_is_well_formed

pub returns-clause-placed_is_well_formed : goal.returns-clause-placed_is_well_formed
returns-clause-placed_is_well_formed c = case.placed_is_well_formed

pub returns-clause-one_message_is_well_formed : goal.returns-clause-one_message_is_well_formed
returns-clause-one_message_is_well_formed c = case.one_message_is_well_formed

pub returns-clause-untold_changes : goal.returns-clause-untold_changes
returns-clause-untold_changes c = case.untold_changes

pub returns-clause-untold_is_behind : goal.returns-clause-untold_is_behind
returns-clause-untold_is_behind c = case.untold_is_behind

pub returns-clause-stop_not_active_changes : goal.returns-clause-stop_not_active_changes
returns-clause-stop_not_active_changes c = case.stop_not_active_changes

pub returns-clause-stop_not_active_is_behind : goal.returns-clause-stop_not_active_is_behind
returns-clause-stop_not_active_is_behind c = case.stop_not_active_is_behind

pub returns-clause-limit_passed_changes : goal.returns-clause-limit_passed_changes
returns-clause-limit_passed_changes c = case.limit_passed_changes

pub returns-clause-limit_passed_is_behind : goal.returns-clause-limit_passed_is_behind
returns-clause-limit_passed_is_behind c = case.limit_passed_is_behind

pub returns-clause-two_identifiers : goal.returns-clause-two_identifiers
returns-clause-two_identifiers c = case.two_identifiers

pub returns-clause-identifier_15 : goal.returns-clause-identifier_15
returns-clause-identifier_15 c = case.identifier_15

pub returns-clause-one_stamp_twice : goal.returns-clause-one_stamp_twice
returns-clause-one_stamp_twice c = case.one_stamp_twice

pub returns-clause-stamp_of_a_restriction : goal.returns-clause-stamp_of_a_restriction
returns-clause-stamp_of_a_restriction c = case.stamp_of_a_restriction

pub returns-clause-stamp_above_the_trains : goal.returns-clause-stamp_above_the_trains
returns-clause-stamp_above_the_trains c = case.stamp_above_the_trains

pub returns-clause-restriction_among_stops : goal.returns-clause-restriction_among_stops
returns-clause-restriction_among_stops c = case.restriction_among_stops

pub returns-clause-number_never_given : goal.returns-clause-number_never_given
returns-clause-number_never_given c = case.number_never_given

pub returns-clause-group_at_another_position : goal.returns-clause-group_at_another_position
returns-clause-group_at_another_position c = case.group_at_another_position

pub returns-clause-group_of_another_direction : goal.returns-clause-group_of_another_direction
returns-clause-group_of_another_direction c = case.group_of_another_direction
