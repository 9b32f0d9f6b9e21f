use Rattle.std.proofs.Common.{rules, ◌≡◌, ℕ, ◌+◌, ◌<◌, ◌≤◌, List, length, true, false, sym, ap, ◌∙◌, subst, arith}
use Rattle.std.specs.List.{remove}
use Rattle.std.proofs.lemmas.List.{length-take-le}
use Rattle.std.proofs.lemmas.List.Edits.{length-remove}
use Rattle.rbc_maps.specs.Maps.{has, index_for, without, IsMap}
use Rattle.rbc_maps.specs.Numbered.{Numbered}
use Rattle.rbc_maps.specs.Chains.{AreChained, AreMarked}
use Rattle.rbc_maps.proofs.MapValues.{map_of_numbered}
use Rattle.rbc_maps.proofs.Chained.{with_hints}
use Rattle.rbc_maps.proofs.Beside.{as_many, without_one, without_none, has_marks}
use Rattle.rbc_maps.proofs.numbered.Numbered.remove.Goals as goal

pub index_for-at-requires : goal.index_for-at-requires
index_for-at-requires g c =
    subst IsMap (sym c.deref.ensures.value) (map_of_numbered (record { last = c.self.inside.last; active = c.self.inside.active.items }) c.self.invariant.numbered)

pub remove-found-requires : goal.remove-found-requires
remove-found-requires g c = map_of_numbered (record { last = c.self.inside.last; active = c.self.inside.active.items }) c.self.invariant.numbered

pub remove-requires : goal.remove-requires
remove-requires g c =
    let there : has c.self.inside.active.items c.args.number ≡ true = sym c.remove-found.ensures.found ∙ c.if-found.true in
    let is : c.index_for-at.result ≡ index_for c.args.number c.self.inside.active.items = c.index_for-at.ensures ∙ ap (index_for c.args.number) c.deref.ensures.value in
    let within = has_marks g.V.OnLines.marks g.V.OnLines.is_sound g.row.N (record { last = c.self.inside.last; active = c.self.inside.active.items }) c.self.inside.marks.items c.self.inside.next.items c.self.inside.first.items c.args.number c.self.invariant there in
    omega (arith, is, within)

pub chain-requires : goal.chain-requires
chain-requires g c =
    let few : g.row.N ≤ 8 = g.met.V.OnLines.are_few in
    let there : has c.self.inside.active.items c.args.number ≡ true = sym c.remove-found.ensures.found ∙ c.if-found.true in
    let values : Numbered g.row.V.Denot = record { last = c.self.inside.last; active = c.self.inside.active.items } in
    let counts = as_many g.V.OnLines.marks g.V.OnLines.is_sound g.row.N values c.self.inside.marks.items c.self.inside.next.items c.self.inside.first.items c.self.invariant in
    let is : c.index_for-at.result ≡ index_for c.args.number c.self.inside.active.items = c.index_for-at.ensures ∙ ap (index_for c.args.number) c.deref.ensures.value in
    let place = has_marks g.V.OnLines.marks g.V.OnLines.is_sound g.row.N values c.self.inside.marks.items c.self.inside.next.items c.self.inside.first.items c.args.number c.self.invariant there in
    let within : c.index_for-at.result < length c.self.inside.marks.items = omega (arith, is, place) in
    let one_less : length c.remove.new.self.items + 1 ≡ length c.self.inside.marks.items = ap (λ all. length all + 1) c.remove.ensures.items ∙ length-remove c.self.inside.marks.items c.index_for-at.result within in
    let lent : length c.deref-then-found.result.now ≡ length c.remove.new.self.items = ap length c.deref-then-found.ensures.value in
    let same = counts.0 in
    let count = counts.1 in
    let high : c.self.inside.last < 4294967296 = search rules in
    let beside = c.self.invariant.chained.long in
    let full : length c.self.inside.first.items ≡ 128 = c.self.invariant.chained.full (omega (arith, within)) in
    let cut : c.len.result ≡ length c.deref-then-found.result.now = c.len.ensures ∙ sym c.deref-then-found.ensures.len in
    let next : length c.truncate.new.self.items ≡ c.len.result = ap length c.truncate.ensures.items ∙ length-take-le c.len.result c.self.inside.next.items (omega (arith, cut, lent, one_less, beside)) in
    (omega (arith, few), (omega (arith, few), (omega (arith, lent, one_less, same, count, high), (full, omega (arith, next, cut)))))

pub invariant_of-self : goal.invariant_of-self
invariant_of-self g c =
    let there : has c.self.inside.active.items c.args.number ≡ true = sym c.remove-found.ensures.found ∙ c.if-found.true in
    let is : c.index_for-at.result ≡ index_for c.args.number c.self.inside.active.items = c.index_for-at.ensures ∙ ap (index_for c.args.number) c.deref.ensures.value in
    let P : List (ℕ × g.row.V.Denot) → List (List ℕ) → Type 0 = λ active column. AreMarked g.V.OnLines.marks g.V.OnLines.is_sound g.row.N (record { last = c.self.inside.last; active = active }) column c.note_hints.new.first.items c.chain.new.next.items in
    let column : c.remove.new.self.items ≡ remove c.self.inside.marks.items (index_for c.args.number c.self.inside.active.items) = c.remove.ensures.items ∙ ap (remove c.self.inside.marks.items) is in
    let chained : AreChained g.row.N (remove c.self.inside.marks.items (index_for c.args.number c.self.inside.active.items)) c.note_hints.new.first.items c.chain.new.next.items =
    subst (λ all. AreChained g.row.N all c.note_hints.new.first.items c.chain.new.next.items) (c.deref-then-found.ensures.value ∙ column) (with_hints g.row.N c.deref-then-found.result.now c.chain.new.next.items c.chain.new.first.items c.note_hints.new.first.items c.chain.ensures.chained c.note_hints.ensures.heads c.note_hints.ensures.full) in
    let one = without_one g.V.OnLines.marks g.V.OnLines.is_sound g.row.N (record { last = c.self.inside.last; active = c.self.inside.active.items }) c.self.inside.marks.items c.self.inside.next.items c.self.inside.first.items c.args.number c.self.invariant there
    c.chain.new.next.items c.note_hints.new.first.items chained in
    subst (λ active. P active c.remove.new.self.items) (sym c.remove-found.ensures.pairs) (subst (P (without c.args.number c.self.inside.active.items)) (sym column) one)

pub invariant_of-self-else-found : goal.invariant_of-self-else-found
invariant_of-self-else-found g c =
    let absent : has c.self.inside.active.items c.args.number ≡ false = sym c.remove-found.ensures.found ∙ c.if-found.false in
    subst (λ active. AreMarked g.V.OnLines.marks g.V.OnLines.is_sound g.row.N (record { last = c.self.inside.last; active = active }) c.self.inside.marks.items c.self.inside.first.items c.self.inside.next.items) (sym c.remove-found.ensures.pairs)
    (without_none g.V.OnLines.marks g.V.OnLines.is_sound g.row.N (record { last = c.self.inside.last; active = c.self.inside.active.items }) c.self.inside.marks.items c.self.inside.next.items c.self.inside.first.items c.args.number c.self.invariant absent)
