use Rattle.std.proofs.Common.{map, take, refl}
use Rattle.rbc_json.specs.Objects.{not_told_at}
use Rattle.rbc_json.proofs.Listing.{mapped_more}
use Rattle.rbc_json.proofs.input_object.not_told_text.Goals as goal

pub loop-index-preserved : goal.loop-index-preserved
loop-index-preserved c =
    mapped_more not_told_at c.args.all.now c.loop-index.index c.element-engine.result _ c.element-engine.ensures
    (c.in_ok-add.ensures (map not_told_at (take c.loop-index.index c.args.all.now)) (not_told_at c.element-engine.result) c.loop-index.invariant refl)
