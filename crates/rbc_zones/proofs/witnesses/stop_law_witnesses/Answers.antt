use Rattle.rbc_zones.proofs.WitnessStops as cases
use Rattle.rbc_zones.proofs.witnesses.stop_law_witnesses.Goals as goal

pub returns-clause-told_in_metres : goal.returns-clause-told_in_metres
returns-clause-told_in_metres c = cases.told_in_metres

pub returns-clause-told_facing_down : goal.returns-clause-told_facing_down
returns-clause-told_facing_down c = cases.told_facing_down

pub returns-clause-no_such_scale : goal.returns-clause-no_such_scale
returns-clause-no_such_scale c = cases.no_such_scale

pub returns-clause-beyond_the_edge : goal.returns-clause-beyond_the_edge
returns-clause-beyond_the_edge c = cases.beyond_the_edge

pub returns-clause-too_coarse : goal.returns-clause-too_coarse
returns-clause-too_coarse c = cases.too_coarse

pub returns-clause-below_the_line : goal.returns-clause-below_the_line
returns-clause-below_the_line c = cases.below_the_line

pub returns-clause-counted_from_the_front : goal.returns-clause-counted_from_the_front
returns-clause-counted_from_the_front c = cases.counted_from_the_front

pub returns-clause-the_farther_edge : goal.returns-clause-the_farther_edge
returns-clause-the_farther_edge c = cases.the_farther_edge

pub returns-clause-the_far_end : goal.returns-clause-the_far_end
returns-clause-the_far_end c = cases.the_far_end

pub returns-clause-on_another_line : goal.returns-clause-on_another_line
returns-clause-on_another_line c = cases.on_another_line
