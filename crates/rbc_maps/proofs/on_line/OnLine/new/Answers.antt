use Rattle.std.proofs.Common.{◌<◌, sym, ap, ◌∙◌, subst, arith}
use Rattle.std.proofs.Math.Nat.{mod-lt}
use Rattle.rbc_maps.specs.OnLines.{marked}
use Rattle.rbc_maps.proofs.Marked.{starts}
use Rattle.rbc_maps.proofs.on_line.OnLine.new.Goals as goal

pub invariant_of-result : goal.invariant_of-result
invariant_of-result g c =
    let line : c.mark_of-mark.result < 64 = subst (λ m. m < 64) (sym c.mark_of-mark.ensures) (mod-lt c.args.line (omega arith)) in
    (starts g.V.OnLines.marks g.row.N c.mark_of-mark.result c.first_of.result c.args.pairs.now c.args.marks.now c.args.next.now c.args.first.now line c.requires.kept c.requires.chained c.first_of.ensures).0

pub returns : goal.returns
returns g c =
    let line : c.mark_of-mark.result < 64 = subst (λ m. m < 64) (sym c.mark_of-mark.ensures) (mod-lt c.args.line (omega arith)) in
    (starts g.V.OnLines.marks g.row.N c.mark_of-mark.result c.first_of.result c.args.pairs.now c.args.marks.now c.args.next.now c.args.first.now line c.requires.kept c.requires.chained c.first_of.ensures).1
    ∙ ap (λ mark. marked g.V.OnLines.marks mark c.args.pairs.now) c.mark_of-mark.ensures
