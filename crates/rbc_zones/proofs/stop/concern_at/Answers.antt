use Rattle.std.proofs.Common.{sym, ap, ◌∙◌, drop, ◌+◌, arith}
use Rattle.rbc_zones.proofs.Concerned.{concern_from, from_start, elsewhere_more, met_now, passed_more, all_passed}
use Rattle.rbc_zones.proofs.stop.concern_at.Goals as goal

pub loop-segment-init : goal.loop-segment-init
loop-segment-init c = from_start c.args.place.now c.args.segments.now

pub loop-segment-preserved-then-segment-line : goal.loop-segment-preserved-then-segment-line
loop-segment-preserved-then-segment-line c =
    let line = c.from-line.ensures ∙ c.line.ensures in
    sym (elsewhere_more c.args.place.now c.loop-segment.nearest c.args.segments.now c.loop-segment.segment-index c.loop-segment-test.true (λ same. c.if-segment-line.true (same ∙ sym line)))
    ∙ c.loop-segment.invariant

pub returns-then-meets : goal.returns-then-meets
returns-then-meets c =
    let line = c.from-line.ensures ∙ c.line.ensures in
    let met = sym c.meets.ensures ∙ c.if-meets.true in
    sym (met_now c.args.place.now c.loop-segment.nearest c.args.segments.now c.loop-segment.segment-index c.loop-segment-test.true (c.if-segment-line.false ∙ line) met)
    ∙ c.loop-segment.invariant

pub loop-segment-preserved : goal.loop-segment-preserved
loop-segment-preserved c =
    let line = c.from-line.ensures ∙ c.line.ensures in
    let passed = sym c.meets.ensures ∙ c.if-meets.false in
    ap (λ found. concern_from c.args.place.now found (drop (c.loop-segment.segment-index + 1) c.args.segments.now)) c.nearer-nearest.ensures
    ∙ sym (passed_more c.args.place.now c.loop-segment.nearest c.args.segments.now c.loop-segment.segment-index c.loop-segment-test.true (c.if-segment-line.false ∙ line) passed)
    ∙ c.loop-segment.invariant

pub returns : goal.returns
returns c =
    c.concern_by_edge.ensures
    ∙ sym (all_passed c.args.place.now c.loop-segment.nearest c.args.segments.now c.loop-segment.segment-index (omega arith))
    ∙ c.loop-segment.invariant
