use Rattle.std.proofs.Common.{sym, ap, ◌∙◌, drop, ◌+◌, arith}
use Rattle.std.specs.Option.{unwrap_or}
use Rattle.rbc_account.proofs.Nearest.{nearest_from, from_start, one_more, all_seen}
use Rattle.rbc_account.proofs.reason.nearest_edge.Goals as goal

pub loop-segment-init : goal.loop-segment-init
loop-segment-init c = from_start c.args.place.now c.args.segments.now

pub loop-segment-preserved : goal.loop-segment-preserved
loop-segment-preserved c =
    ap (λ found. nearest_from c.args.place.now found (drop (c.loop-segment.segment-index + 1) c.args.segments.now)) c.nearer-nearest.ensures
    ∙ sym (one_more c.args.place.now c.loop-segment.nearest c.args.segments.now c.loop-segment.segment-index c.loop-segment-test.true)
    ∙ c.loop-segment.invariant

pub returns : goal.returns
returns c =
    c.unwrap_or.ensures
    ∙ ap (λ found. unwrap_or found 0)
    (sym (all_seen c.args.place.now c.loop-segment.nearest c.args.segments.now c.loop-segment.segment-index (omega arith)) ∙ c.loop-segment.invariant)
