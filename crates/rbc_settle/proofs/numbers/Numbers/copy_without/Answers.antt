use Rattle.std.proofs.Common.{rules, ◌≡◌, ◌≤◌, ◌<◌, ◌+◌, length, ◌∙◌, sym, arith}
use Rattle.std.proofs.lemmas.Result.{IfOk-weaker}
use Rattle.std.specs.List.{remove}
use Rattle.rbc_settle.proofs.NumberLists.{at_there, taken_out, taken_out_rises, without-absent}
use Rattle.rbc_settle.proofs.NumberCopies.{left_out}
use Rattle.rbc_settle.proofs.numbers.Numbers.copy_without.Goals as goal

pub returns-then-not-has : goal.returns-then-not-has
returns-then-not-has c =
    let absent = without-absent c.args.n c.args.self.now (sym c.has.ensures ∙ c.if-not-has.true) in
    IfOk-weaker c.copy.result _ _ (λ copy is. is ∙ sym absent) c.copy.ensures

-- the number stands at its place, and what is behind it begins within the list
behind : (c : goal.After-deref-2) → c.index_of-at.result + 1 ≤ length c.deref-2.result.now
behind c =
    let there : c.index_of-at.result < length c.self.inside.all.items =
    at_there c.args.n c.index_of-at.result c.self.inside.all.items c.args.self.now c.self.view_is c.self.invariant
    c.index_of-at.ensures (sym c.has.ensures ∙ c.if-not-has.false)
    in
    omega (arith, c.deref-2.ensures.len, c.self.inside.all.ok.0)

pub slice_bounds-extend_from_slice-count : goal.slice_bounds-extend_from_slice-count
slice_bounds-extend_from_slice-count c = let within = behind c in omega arith

pub slice_bounds-extend_from_slice-start : goal.slice_bounds-extend_from_slice-start
slice_bounds-extend_from_slice-start c = let within = behind c in search rules

whole : (c : goal.In_ok-extend_from_slice-2) → c.extend_from_slice-2.new.self.items ≡ remove c.self.inside.all.items c.index_of-at.result
whole c =
    left_out c.index_of-at.result _ c.self.inside.all.items c.deref.result.now c.deref-2.result.now c.in_ok-all.all.items
    c.extend_from_slice.new.self.items c.extend_from_slice-2.new.self.items
    (omega arith) c.deref.ensures.value c.deref-2.ensures.value c.in_ok-all.ensures.items
    c.in_ok-extend_from_slice.ensures.items c.in_ok-extend_from_slice-2.ensures.items

pub invariant_of-result : goal.invariant_of-result
invariant_of-result c =
    taken_out_rises c.args.n c.index_of-at.result c.self.inside.all.items c.args.self.now c.self.view_is c.self.invariant
    c.index_of-at.ensures (sym c.has.ensures ∙ c.if-not-has.false) c.extend_from_slice-2.new.self.items (whole c)

pub returns : goal.returns
returns c =
    taken_out c.args.n c.index_of-at.result c.self.inside.all.items c.args.self.now c.self.view_is c.self.invariant
    c.index_of-at.ensures (sym c.has.ensures ∙ c.if-not-has.false) c.extend_from_slice-2.new.self.items (whole c)
