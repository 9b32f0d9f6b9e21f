use Rattle.std.proofs.Common.{map, take, refl}
use Rattle.rbc_json.specs.Shapes.{segment_object}
use Rattle.rbc_json.proofs.Listing.{mapped_more}
use Rattle.rbc_json.proofs.effect.segments_text.Goals as goal

pub loop-index-preserved : goal.loop-index-preserved
loop-index-preserved c =
    mapped_more segment_object c.args.segments.now c.loop-index.index c.element.result _ c.element.ensures
    (c.in_ok-add.ensures (map segment_object (take c.loop-index.index c.args.segments.now)) (segment_object c.element.result) c.loop-index.invariant refl)
