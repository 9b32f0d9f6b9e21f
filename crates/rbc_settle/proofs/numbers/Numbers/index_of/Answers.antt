use Rattle.std.proofs.Common.{◌≡◌, ◌∙◌, rules, ltb, ap}
use Rattle.std.proofs.lemmas.List.Sorted.{IsPartitionPoint-from_clause, IsPartitionedBy-ltb}
use Rattle.rbc_settle.proofs.NumberLists.{place, non_decreasing, place_is}
use Rattle.rbc_settle.proofs.numbers.Numbers.index_of.Goals as goal

pub returns : goal.returns
returns c =
    let same : c.deref.result.now ≡ c.self.inside.all.items = c.deref.ensures.value in
    place_is c.args.n c.deref.result.now c.partition_point.result c.partition_point.ensures.bound
    (IsPartitionPoint-from_clause (λ x. ltb x c.args.n) c.deref.result.now c.partition_point.result c.partition_point.ensures.partitioned
    (IsPartitionedBy-ltb (λ x. x) c.deref.result.now c.args.n (non_decreasing 0 c.deref.result.now (rw same c.self.invariant)))
    (λ a r f called. search rules))
    ∙ ap (place c.args.n) (same ∙ c.self.view_is)
