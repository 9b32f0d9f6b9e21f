use Rattle.std.proofs.Common.{map, take, refl}
use Rattle.rbc_json.specs.Json.{number}
use Rattle.rbc_json.proofs.Listing.{mapped_more}
use Rattle.rbc_json.proofs.refused.numbers_text.Goals as goal

pub loop-index-preserved : goal.loop-index-preserved
loop-index-preserved c =
    mapped_more number c.args.numbers.now c.loop-index.index c.element.result _ c.element.ensures
    (c.in_ok-add.ensures (map number (take c.loop-index.index c.args.numbers.now)) (number c.element.result) c.loop-index.invariant refl)
