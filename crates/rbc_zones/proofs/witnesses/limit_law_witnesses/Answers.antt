use Rattle.rbc_zones.proofs.WitnessLimits as cases
use Rattle.rbc_zones.proofs.witnesses.limit_law_witnesses.Goals as goal

pub returns-clause-told : goal.returns-clause-told
returns-clause-told c = cases.told

pub returns-clause-told_in_metres : goal.returns-clause-told_in_metres
returns-clause-told_in_metres c = cases.told_in_metres

pub returns-clause-told_at_the_group : goal.returns-clause-told_at_the_group
returns-clause-told_at_the_group c = cases.told_at_the_group

pub returns-clause-told_facing_down : goal.returns-clause-told_facing_down
returns-clause-told_facing_down c = cases.told_facing_down

pub returns-clause-too_long : goal.returns-clause-too_long
returns-clause-too_long c = cases.too_long

pub returns-clause-length_rounded_down : goal.returns-clause-length_rounded_down
returns-clause-length_rounded_down c = cases.length_rounded_down

pub returns-clause-start_rounded_up : goal.returns-clause-start_rounded_up
returns-clause-start_rounded_up c = cases.start_rounded_up

pub returns-clause-too_coarse : goal.returns-clause-too_coarse
returns-clause-too_coarse c = cases.too_coarse

pub returns-clause-counted_from_the_front : goal.returns-clause-counted_from_the_front
returns-clause-counted_from_the_front c = cases.counted_from_the_front

pub returns-clause-the_part_behind_told : goal.returns-clause-the_part_behind_told
returns-clause-the_part_behind_told c = cases.the_part_behind_told

pub returns-clause-turned_round : goal.returns-clause-turned_round
returns-clause-turned_round c = cases.turned_round
