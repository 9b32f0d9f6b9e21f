use Rattle.std.proofs.Common.{◌≡◌, length, true, false, arith, ap, sym, ◌∙◌}
use Rattle.std.specs.List.{remove}
use Rattle.rbc_maps.specs.Maps.{has, index_for}
use Rattle.rbc_maps.proofs.MapValues.{found_here, without-found, without-absent}
use Rattle.rbc_maps.proofs.lookup.remove.Goals as goal

pub remove-requires : goal.remove-requires
remove-requires g c =
    let there : has c.args.pairs.now.items c.args.key ≡ true = ap (λ pairs. has pairs c.args.key) (sym c.deref.ensures.value) ∙ sym c.has-found.ensures ∙ c.if-found.true in
    let is : c.index_for-at.result ≡ index_for c.args.key c.args.pairs.now.items = c.index_for-at.ensures ∙ ap (index_for c.args.key) c.deref-then-found.ensures.value in
    let within = (found_here c.args.key c.args.pairs.now.items c.requires there).0 in
    let same = ap length c.deref.ensures.value in
    let len = c.deref.ensures.len in
    omega (arith, is, within, same, len)

pub returns-then-found-clause-pairs : goal.returns-then-found-clause-pairs
returns-then-found-clause-pairs g c =
    let pairs = c.args.pairs.now.items in
    let there : has c.args.pairs.now.items c.args.key ≡ true = ap (λ pairs. has pairs c.args.key) (sym c.deref.ensures.value) ∙ sym c.has-found.ensures ∙ c.if-found.true in
    let is : c.index_for-at.result ≡ index_for c.args.key c.args.pairs.now.items = c.index_for-at.ensures ∙ ap (index_for c.args.key) c.deref-then-found.ensures.value in
    c.remove.ensures.items ∙ ap (λ n. remove c.args.pairs.now.items n) is ∙ without-found c.args.key c.args.pairs.now.items c.requires there

pub returns-else-found-clause-pairs : goal.returns-else-found-clause-pairs
returns-else-found-clause-pairs g c =
    let absent : has c.args.pairs.now.items c.args.key ≡ false = ap (λ pairs. has pairs c.args.key) (sym c.deref.ensures.value) ∙ sym c.has-found.ensures ∙ c.if-found.false in
    sym (without-absent c.args.key c.args.pairs.now.items absent)
