use Rattle.std.proofs.Common.{rules, ltb}
use Rattle.std.proofs.lemmas.List.Sorted.{IsPartitionPoint-from_clause, IsPartitionedBy-ltb}
use Rattle.rbc_maps.proofs.MapPlaces.{non_decreasing, place_is}
use Rattle.rbc_maps.proofs.lookup.index_for.Goals as goal

pub returns : goal.returns
returns g c =
    place_is c.args.key c.args.pairs.now c.partition_point.result c.partition_point.ensures.bound
    (IsPartitionPoint-from_clause (λ pair. ltb pair.0 c.args.key) c.args.pairs.now c.partition_point.result c.partition_point.ensures.partitioned
    (IsPartitionedBy-ltb (λ pair. pair.0) c.args.pairs.now c.args.key (non_decreasing 0 c.args.pairs.now c.requires))
    (λ a r f called. search rules))
