use Rattle.std.proofs.Common.{map, take, refl}
use Rattle.rbc_json.specs.Effects.{affected_object}
use Rattle.rbc_json.proofs.Listing.{mapped_more}
use Rattle.rbc_json.proofs.effect.affected_text.Goals as goal

pub loop-index-preserved : goal.loop-index-preserved
loop-index-preserved c =
    mapped_more affected_object c.args.all.now c.loop-index.index c.element.result _ c.element.ensures
    (c.in_ok-add.ensures (map affected_object (take c.loop-index.index c.args.all.now)) (affected_object c.element.result) c.loop-index.invariant refl)
