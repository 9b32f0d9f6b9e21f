use Rattle.std.proofs.Common.{rules}
use Rattle.std.proofs.lemmas.List.Sorted.{answers_always}
use Rattle.rbc_track_report.proofs.named_document.put_in_order.Goals as goal

pub returns-clause-sorted : goal.returns-clause-sorted
returns-clause-sorted c =
    c.in_ok-sort_by_key.ensures.sorted (λ group. (group.line, group.at, group.nid)) (answers_always _ _ _ (λ f a r g h. search rules))
