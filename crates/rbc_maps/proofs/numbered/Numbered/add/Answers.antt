use Rattle.std.proofs.Common.{◌≡◌, ℕ, ◌<◌, ◌≤◌, ◌+◌, sym, ap, ◌∙◌, subst, List, [], ◌∷◌, ◌++◌, length, arith}
use Rattle.std.proofs.lemmas.List.{length_push}
use Rattle.rbc_maps.specs.Chains.{AreChained, AreMarked}
use Rattle.rbc_maps.proofs.Chained.{with_hints}
use Rattle.rbc_maps.proofs.Beside.{as_many, with_one}
use Rattle.rbc_maps.proofs.numbered.Numbered.add.Goals as goal

pub chain-requires : goal.chain-requires
chain-requires g c =
    let few : g.row.N ≤ 8 = g.met.V.OnLines.are_few in
    let inside = c.self.inside in
    let counts = as_many g.V.OnLines.marks g.V.OnLines.is_sound g.row.N (record { last = c.self.inside.last; active = c.self.inside.active.items }) c.self.inside.marks.items c.self.inside.next.items c.self.inside.first.items c.self.invariant in
    let same = counts.0 in
    let count = counts.1 in
    let above : c.self.inside.last < c.args.number = subst (λ n. n.last < c.args.number) (sym c.self.view_is) c.requires in
    let high : c.args.number < 4294967296 = c.ranges.number.fits in
    let column : c.deref.result.now ≡ c.self.inside.marks.items ++ c.marks.result ∷ [] = c.deref.ensures.value ∙ c.push_reserved.ensures.items ∙ ap (λ all. all ++ c.marks.result ∷ []) c.reserve-2.ensures.items in
    let long : length c.deref.result.now ≡ length c.self.inside.marks.items + 1 = ap length column ∙ length_push c.self.inside.marks.items c.marks.result in
    let next : length c.push_reserved-3.new.self.items ≡ length c.self.inside.next.items + 1 = ap length c.push_reserved-3.ensures.items ∙ length_push c.reserve-3.new.self.items _ ∙ ap (λ all. length all + 1) c.reserve-3.ensures.items in
    let beside = c.self.invariant.chained.long in
    let full = c.in_ok-resize.ensures.len in
    (omega (arith, few), (omega (arith, few), (omega (arith, long, same, count, above, high), (omega (arith, full), omega (arith, long, next, beside)))))

pub invariant_of-self-2 : goal.invariant_of-self-2
invariant_of-self-2 g c =
    let marks = g.V.OnLines.marks in
    let is_sound = g.V.OnLines.is_sound in
    let column : c.push_reserved.new.self.items ≡ c.self.inside.marks.items ++ marks c.args.value ∷ [] =
    c.push_reserved.ensures.items ∙ ap (λ all. all ++ c.marks.result ∷ []) c.reserve-2.ensures.items ∙ ap (λ own. c.self.inside.marks.items ++ own ∷ []) c.marks.ensures.marks in
    let active : c.push_reserved-2.new.self.items ≡ c.self.inside.active.items ++ (c.args.number, c.args.value) ∷ [] =
    c.push_reserved-2.ensures.items ∙ ap (λ all. all ++ (c.args.number, c.args.value) ∷ []) c.reserve.ensures.items in
    let P : List (ℕ × g.row.V.Denot) → List (List ℕ) → Type 0 = λ active column. AreMarked marks is_sound g.row.N (record { last = c.args.number; active = active }) column c.note_hints.new.first.items c.chain.new.next.items in
    let above : c.self.inside.last < c.args.number = subst (λ n. n.last < c.args.number) (sym c.self.view_is) c.requires in
    let chained : AreChained g.row.N (c.self.inside.marks.items ++ marks c.args.value ∷ []) c.note_hints.new.first.items c.chain.new.next.items = subst (λ all. AreChained g.row.N all c.note_hints.new.first.items c.chain.new.next.items) (c.deref.ensures.value ∙ column) (with_hints g.row.N c.deref.result.now c.chain.new.next.items c.chain.new.first.items c.note_hints.new.first.items c.chain.ensures.chained c.note_hints.ensures.heads c.note_hints.ensures.full) in
    let one = with_one marks is_sound g.row.N (record { last = c.self.inside.last; active = c.self.inside.active.items }) c.self.inside.marks.items c.self.inside.next.items c.self.inside.first.items c.args.number c.args.value c.self.invariant above c.marks.ensures.sound
    c.chain.new.next.items c.note_hints.new.first.items chained in
    subst (λ active. P active c.push_reserved.new.self.items) (sym active) (subst (P (c.self.inside.active.items ++ (c.args.number, c.args.value) ∷ [])) (sym column) one)
