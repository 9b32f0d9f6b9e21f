use Rattle.rbc_place.proofs.Reports.{cannot, tens_of_metres}
use Rattle.rbc_place.proofs.reporting.least_scale.Goals as goal

pub returns-else-can_be_told-2 : goal.returns-else-can_be_told-2
returns-else-can_be_told-2 c =
    tens_of_metres c.args.distance c.args.doubt c.requires.distance c.requires.doubt
    (cannot _ _ _ c.told_at.ensures c.can_be_told.ensures c.if-can_be_told.false)
    (cannot _ _ _ c.told_at-else-can_be_told.ensures c.can_be_told-else-can_be_told.ensures c.if-can_be_told-2.false)
