use Rattle.rbc_zones.proofs.ToldLimits.{told_rightly_by}
use Rattle.rbc_zones.proofs.restricted_stretch.limit_fields.Goals as goal

pub returns-clause-told : goal.returns-clause-told
returns-clause-told c =
    told_rightly_by c.args.limit.now c.args.place.now c.segment.result _ _ _ c.segment.ensures.sound c.requires.ends_beyond
    c.segment.ensures.value c.distances-begin.ensures.begin c.distances-begin.ensures.end c.distances-begin.ensures.within
    c.told_of_part.ensures
