use Rattle.std.proofs.Common.{◌≤◌, ◌∙◌, Some, None, cond, ltb, sym, ap, arith}
use Rattle.std.proofs.lemmas.Bool.{lt-ltb, le-ltb}
use Rattle.rbc_ids.proofs.Gaps.{least_free-run}
use Rattle.rbc_ids.proofs.identifier_table.IdTable.least_free.Goals as goal

pub overflow_cast-result : goal.overflow_cast-result
overflow_cast-result g c = let small : g.row.N ≤ 255 = c.gap-gap.ensures.sound.small in record { fits = omega arith }

pub returns-then-gap : goal.returns-then-gap
returns-then-gap g c =
    ap (λ b. cond b (Some c.gap-gap.result) None) (sym (lt-ltb c.gap-gap.result g.row.N c.if-gap.true))
    ∙ ap (λ n. cond (ltb n g.row.N) (Some n) None) c.gap-gap.ensures.value
    ∙ sym (least_free-run g.row.N c.args.self.now c.gap-gap.ensures.sound)

pub returns-else-gap : goal.returns-else-gap
returns-else-gap g c =
    ap (λ b. cond b (Some c.gap-gap.result) None) (sym (le-ltb c.gap-gap.result g.row.N c.if-gap.false))
    ∙ ap (λ n. cond (ltb n g.row.N) (Some n) None) c.gap-gap.ensures.value
    ∙ sym (least_free-run g.row.N c.args.self.now c.gap-gap.ensures.sound)
