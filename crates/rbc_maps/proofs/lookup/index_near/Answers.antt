use Rattle.rbc_maps.proofs.MapValues.{place_at}
use Rattle.rbc_maps.proofs.lookup.index_near.Goals as goal

pub returns-then-pairs-near : goal.returns-then-pairs-near
returns-then-pairs-near g c = place_at 0 c.args.pairs.now c.requires c.args.near c.index-pairs-near.result c.if-near-pairs.true c.args.key c.if-pairs-near.true
