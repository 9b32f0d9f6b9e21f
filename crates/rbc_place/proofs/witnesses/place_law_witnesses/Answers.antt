use Rattle.rbc_place.proofs.WitnessPlaces.{facing_up_holds, metres_hold, unequal_doubts_hold, facing_down_holds, doubts_swapped, length_ahead, no_doubts, doubts_not_scaled, on_the_other_side}
use Rattle.rbc_place.proofs.witnesses.place_law_witnesses.Goals as goal

pub returns-clause-holds : goal.returns-clause-holds
returns-clause-holds c = facing_up_holds

pub returns-clause-holds_in_metres : goal.returns-clause-holds_in_metres
returns-clause-holds_in_metres c = metres_hold

pub returns-clause-holds_unequal_doubts : goal.returns-clause-holds_unequal_doubts
returns-clause-holds_unequal_doubts c = unequal_doubts_hold

pub returns-clause-holds_facing_down : goal.returns-clause-holds_facing_down
returns-clause-holds_facing_down c = facing_down_holds

pub returns-clause-doubts_swapped : goal.returns-clause-doubts_swapped
returns-clause-doubts_swapped c = doubts_swapped

pub returns-clause-length_ahead : goal.returns-clause-length_ahead
returns-clause-length_ahead c = length_ahead

pub returns-clause-no_doubts : goal.returns-clause-no_doubts
returns-clause-no_doubts c = no_doubts

pub returns-clause-doubts_not_scaled : goal.returns-clause-doubts_not_scaled
returns-clause-doubts_not_scaled c = doubts_not_scaled

pub returns-clause-on_the_other_side : goal.returns-clause-on_the_other_side
returns-clause-on_the_other_side c = on_the_other_side
