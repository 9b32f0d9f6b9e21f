use Rattle.std.proofs.Common.{◌≡◌, ◌<◌, ◌≤◌, ◌∙◌, true, false, length, ap, sym, below_more, arith}
use Rattle.rbc_window.proofs.ChangedLists.{place_is, looked_at}
use Rattle.rbc_window.proofs.lists.Lists.place_of.Goals as goal

pub loop-index-preserved : goal.loop-index-preserved
loop-index-preserved c =
    let within : c.loop-index.index < length c.self.inside.all.items = omega (arith, c.self.inside.all.ok.0) in
    below_more _ _ c.loop-index.invariant
    (looked_at c.self.inside.all.items c.args.self.now c.args.key c.loop-index.index c.index.result.now false
    c.self.view_is within c.index.ensures (sym c.eq.ensures ∙ c.if-eq.false))

pub returns-then-eq : goal.returns-then-eq
returns-then-eq c =
    let within : c.loop-index.index < length c.self.inside.all.items = omega (arith, c.self.inside.all.ok.0) in
    let most : c.loop-index.index ≤ length c.args.self.now = omega (arith, within, ap length c.self.view_is) in
    place_is c.args.self.now c.args.key c.loop-index.index most c.loop-index.invariant
    (λ _. looked_at c.self.inside.all.items c.args.self.now c.args.key c.loop-index.index c.index.result.now true
    c.self.view_is within c.index.ensures (sym c.eq.ensures ∙ c.if-eq.true))

pub returns : goal.returns
returns c =
    let count : c.len.result ≡ length c.args.self.now =
    c.len.ensures ∙ c.self.inside.all.ok.0 ∙ ap length c.self.view_is
    in
    let done : c.loop-index.index ≡ length c.args.self.now =
    omega (arith, count, c.len.ensures, c.len-index-end.ensures)
    in
    count ∙ sym done
    ∙ place_is c.args.self.now c.args.key c.loop-index.index (omega (arith, done)) c.loop-index.invariant
    (λ below. absurd (omega (arith, done, below)))
