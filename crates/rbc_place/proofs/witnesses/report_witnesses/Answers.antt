use Rattle.rbc_place.proofs.ReportCases.{at_the_group_told, facing_down_told, least_number_told, in_metres_told, no_group_told, beyond_told, no_line_told, group_ahead, farther_group, higher_number, scale_too_great, direction_turned, side_turned, doubt_rounded_down, rest_left_out}
use Rattle.rbc_place.proofs.witnesses.report_witnesses.Goals as goal

pub returns-clause-at_the_group : goal.returns-clause-at_the_group
returns-clause-at_the_group c = at_the_group_told

pub returns-clause-facing_down : goal.returns-clause-facing_down
returns-clause-facing_down c = facing_down_told

pub returns-clause-least_number : goal.returns-clause-least_number
returns-clause-least_number c = least_number_told

pub returns-clause-in_metres : goal.returns-clause-in_metres
returns-clause-in_metres c = in_metres_told

pub returns-clause-no_group : goal.returns-clause-no_group
returns-clause-no_group c = no_group_told

pub returns-clause-beyond : goal.returns-clause-beyond
returns-clause-beyond c = beyond_told

pub returns-clause-no_line : goal.returns-clause-no_line
returns-clause-no_line c = no_line_told

pub returns-clause-group_ahead : goal.returns-clause-group_ahead
returns-clause-group_ahead c = group_ahead

pub returns-clause-farther_group : goal.returns-clause-farther_group
returns-clause-farther_group c = farther_group

pub returns-clause-higher_number : goal.returns-clause-higher_number
returns-clause-higher_number c = higher_number

pub returns-clause-scale_too_great : goal.returns-clause-scale_too_great
returns-clause-scale_too_great c = scale_too_great

pub returns-clause-direction_turned : goal.returns-clause-direction_turned
returns-clause-direction_turned c = direction_turned

pub returns-clause-side_turned : goal.returns-clause-side_turned
returns-clause-side_turned c = side_turned

pub returns-clause-doubt_rounded_down : goal.returns-clause-doubt_rounded_down
returns-clause-doubt_rounded_down c = doubt_rounded_down

pub returns-clause-rest_left_out : goal.returns-clause-rest_left_out
returns-clause-rest_left_out c = rest_left_out
