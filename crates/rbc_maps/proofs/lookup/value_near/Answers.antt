use Rattle.std.proofs.Common.{◌≡◌, ℕ, ◌<◌, length, ap, sym, ◌∙◌, subst, Some, get_or}
use Rattle.rbc_maps.proofs.MapPlaces.{has_here, has_past}
use Rattle.rbc_maps.proofs.MapValues.{value_of-here, value_of-absent}
use Rattle.rbc_maps.proofs.lookup.value_near.Goals as goal
use Rattle.rbc_maps.proofs.lookup.value_near.Goals.{else-found-pairs-via-then-found-pairs+else-pairs-found, else-found-pairs-via-else-found-pairs}
use Rattle.std.proofs.lemmas.List.{get_or_default}
use Rattle.std.proofs.lemmas.Bool.{ne_eqb}

pub returns-then-pairs-found : goal.returns-then-pairs-found
returns-then-pairs-found g c =
    let pairs = c.args.pairs.now in
    let is = c.index_near-found.ensures in
    let d = c.index-pairs-found.result in
    let e = c.index-pairs-found-then-pairs-found.result in
    let within = subst (λ n. n < length pairs) is c.if-found-pairs.true in
    ap (λ (pair : ℕ × g.row.V.Denot). Some pair.1) (get_or_default pairs c.index_near-found.result e d c.if-found-pairs.true ∙ ap (λ n. get_or pairs n d) is)
    ∙ sym (value_of-here c.args.key pairs d within (subst (λ n. (get_or pairs n d).0 ≡ c.args.key) is c.if-pairs-found.true))

pub returns-else-found-pairs : goal.returns-else-found-pairs
returns-else-found-pairs g c = elim c.else-found-pairs.branch [
  | else-found-pairs-via-then-found-pairs+else-pairs-found w ↦
      sym (value_of-absent c.args.key c.args.pairs.now
      (sym (has_here c.args.key c.args.pairs.now c.index_near-found.result w.index-pairs-found.result c.requires c.index_near-found.ensures w.if-found-pairs.true) ∙ ne_eqb _ _ w.if-pairs-found.false))
  | else-found-pairs-via-else-found-pairs w ↦
      sym (value_of-absent c.args.key c.args.pairs.now (has_past c.args.key c.args.pairs.now c.index_near-found.result c.requires c.index_near-found.ensures w.if-found-pairs.false))
]
