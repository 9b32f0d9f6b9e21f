use Rattle.std.proofs.Common.{◌∙◌, sym}
use Rattle.std.proofs.lemmas.Bool.{le-ltb}
use Rattle.rbc_maps.proofs.MapPlaces.{has_here, has_past}
use Rattle.rbc_maps.proofs.lookup.has.Goals as goal

pub returns-then-at-pairs : goal.returns-then-at-pairs
returns-then-at-pairs g c = has_here c.args.key c.args.pairs.now c.index_for-at.result c.index-pairs-at.result c.requires c.index_for-at.ensures c.if-at-pairs.true

pub returns-else-at-pairs : goal.returns-else-at-pairs
returns-else-at-pairs g c = le-ltb _ _ c.if-at-pairs.false ∙ sym (has_past c.args.key c.args.pairs.now c.index_for-at.result c.requires c.index_for-at.ensures c.if-at-pairs.false)
