use Rattle.std.proofs.Common.{◌≡◌, ℕ, ◌<◌, length, ap, sym, ◌∙◌, subst, Some, get_or}
use Rattle.rbc_maps.proofs.MapValues.{place_at, value_of-here}
use Rattle.rbc_maps.proofs.lookup.value_at.Goals as goal
use Rattle.std.proofs.lemmas.List.{get_or_default}

pub returns-then-pairs-index-clause-value : goal.returns-then-pairs-index-clause-value
returns-then-pairs-index-clause-value g c =
    let pairs = c.args.pairs.now in
    let d = c.index-pairs-index.result in
    let e = c.index-pairs-index-then-pairs-index.result in
    let is = place_at 0 pairs c.requires c.args.index d c.if-index-pairs.true c.args.key c.if-pairs-index.true in
    let within = subst (λ n. n < length pairs) is c.if-index-pairs.true in
    value_of-here c.args.key pairs d within (subst (λ n. (get_or pairs n d).0 ≡ c.args.key) is c.if-pairs-index.true)
    ∙ sym (ap (λ (pair : ℕ × g.row.V.Denot). Some pair.1) (get_or_default pairs c.args.index e d c.if-index-pairs.true ∙ ap (λ n. get_or pairs n d) is))
