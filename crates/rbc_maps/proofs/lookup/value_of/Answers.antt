use Rattle.std.proofs.Common.{◌≡◌, ℕ, ◌<◌, length, ap, sym, ◌∙◌, subst, Some, get_or}
use Rattle.rbc_maps.proofs.MapPlaces.{has_here, has_past}
use Rattle.rbc_maps.proofs.MapValues.{value_of-here, value_of-absent}
use Rattle.rbc_maps.proofs.lookup.value_of.Goals as goal
use Rattle.rbc_maps.proofs.lookup.value_of.Goals.{else-at-pairs-via-then-at-pairs+else-pairs-at, else-at-pairs-via-else-at-pairs}
use Rattle.std.proofs.lemmas.List.{get_or_default}
use Rattle.std.proofs.lemmas.Bool.{ne_eqb}

pub returns-then-pairs-at : goal.returns-then-pairs-at
returns-then-pairs-at g c =
    let pairs = c.args.pairs.now in
    let is = c.index_for-at.ensures in
    let d = c.index-pairs-at.result in
    let e = c.index-pairs-at-then-pairs-at.result in
    let within = subst (λ n. n < length pairs) is c.if-at-pairs.true in
    ap (λ (pair : ℕ × g.row.V.Denot). Some pair.1) (get_or_default pairs c.index_for-at.result e d c.if-at-pairs.true ∙ ap (λ n. get_or pairs n d) is)
    ∙ sym (value_of-here c.args.key pairs d within (subst (λ n. (get_or pairs n d).0 ≡ c.args.key) is c.if-pairs-at.true))

pub returns-else-at-pairs : goal.returns-else-at-pairs
returns-else-at-pairs g c = elim c.else-at-pairs.branch [
  | else-at-pairs-via-then-at-pairs+else-pairs-at w ↦
      sym (value_of-absent c.args.key c.args.pairs.now
      (sym (has_here c.args.key c.args.pairs.now c.index_for-at.result w.index-pairs-at.result c.requires c.index_for-at.ensures w.if-at-pairs.true) ∙ ne_eqb _ _ w.if-pairs-at.false))
  | else-at-pairs-via-else-at-pairs w ↦
      sym (value_of-absent c.args.key c.args.pairs.now (has_past c.args.key c.args.pairs.now c.index_for-at.result c.requires c.index_for-at.ensures w.if-at-pairs.false))
]
