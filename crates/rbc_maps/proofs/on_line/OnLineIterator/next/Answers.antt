use Rattle.std.proofs.Common.{rules, ◌≡◌, ◌<◌, ◌+◌, [], ◌∷◌, length, drop, get_or, slice_index, sym, ap, ◌∙◌, subst, arith}
use Rattle.rbc_maps.specs.OnLines.{marked}
use Rattle.std.proofs.lemmas.Bool.{eqb-true}
use Rattle.rbc_maps.proofs.Marked.{inside, never, first, of_n, goes_on, rest}
use Rattle.rbc_maps.proofs.on_line.OnLineIterator.next.Goals as goal

pub returns-in_err-slot-clause-steps : goal.returns-in_err-slot-clause-steps
returns-in_err-slot-clause-steps g c =
    let it = c.self.inside in
    let within : c.self.inside.at < length c.self.inside.pairs.now = search rules in
    absurd (never g.V.OnLines.marks it.mark g.row.N it.at it.pairs.now it.marks.now it.next.now c.self.invariant within c.in_err-slot.ensures)

pub offset_bounds-self-inside-self-inside-2 : goal.offset_bounds-self-inside-self-inside-2
offset_bounds-self-inside-self-inside-2 g c =
    let within : c.self.inside.at < length c.self.inside.pairs.now = search rules in
    let it = c.self.inside in
    let kept = inside g.V.OnLines.marks it.mark g.row.N it.at it.pairs.now it.marks.now it.next.now c.self.invariant within in
    let long = c.self.invariant.long in
    let there : c.self.inside.at < length c.self.inside.next.now = omega (arith, kept, long) in
    search rules

pub invariant_of-self : goal.invariant_of-self
invariant_of-self g c =
    let it = c.self.inside in
    let within : c.self.inside.at < length c.self.inside.pairs.now = search rules in
    let long = of_n g.V.OnLines.marks it.mark g.row.N it.at it.pairs.now it.marks.now it.next.now c.self.invariant within c.in_ok-found.found.now g.met.V.OnLines.are_all in
    let below : c.in_ok-slot.slot < g.row.N = subst (λ m. c.in_ok-slot.slot < m) long c.in_ok-slot.ensures.0.high in
    let is : slice_index (get_or c.self.inside.marks.now c.self.inside.at []) c.in_ok-slot.slot ≡ c.self.inside.mark = eqb-true _ _ c.in_ok-slot.ensures.1 in
    goes_on g.V.OnLines.marks it.mark g.row.N it.at it.pairs.now it.marks.now it.next.now c.self.invariant within c.in_ok-slot.slot below is

pub returns-clause-steps : goal.returns-clause-steps
returns-clause-steps g c =
    let it = c.self.inside in
    let within : c.self.inside.at < length c.self.inside.pairs.now = search rules in
    let long = of_n g.V.OnLines.marks it.mark g.row.N it.at it.pairs.now it.marks.now it.next.now c.self.invariant within c.in_ok-found.found.now g.met.V.OnLines.are_all in
    let below : c.in_ok-slot.slot < g.row.N = subst (λ m. c.in_ok-slot.slot < m) long c.in_ok-slot.ensures.0.high in
    let is : slice_index (get_or c.self.inside.marks.now c.self.inside.at []) c.in_ok-slot.slot ≡ c.self.inside.mark = eqb-true _ _ c.in_ok-slot.ensures.1 in
    let found : get_or c.self.inside.pairs.now c.self.inside.at c.in_ok-found.found.now ≡ c.in_ok-found.found.now = search rules in
    sym c.self.view_is ∙ first g.V.OnLines.marks it.mark g.row.N it.at it.pairs.now it.marks.now it.next.now c.self.invariant within c.in_ok-found.found.now
    ∙ ap (λ pair. pair ∷ marked g.V.OnLines.marks it.mark (drop (it.at + 1) it.pairs.now)) found
    ∙ ap (λ left. c.in_ok-found.found.now ∷ left) (sym (rest g.V.OnLines.marks it.mark g.row.N it.at it.pairs.now it.marks.now it.next.now c.self.invariant within c.in_ok-slot.slot below is))

pub returns-clause-goes : goal.returns-clause-goes
returns-clause-goes g c =
    let it = c.self.inside in
    let within : c.self.inside.at < length c.self.inside.pairs.now = search rules in
    let long = of_n g.V.OnLines.marks it.mark g.row.N it.at it.pairs.now it.marks.now it.next.now c.self.invariant within c.in_ok-found.found.now g.met.V.OnLines.are_all in
    let below : c.in_ok-slot.slot < g.row.N = subst (λ m. c.in_ok-slot.slot < m) long c.in_ok-slot.ensures.0.high in
    let is : slice_index (get_or c.self.inside.marks.now c.self.inside.at []) c.in_ok-slot.slot ≡ c.self.inside.mark = eqb-true _ _ c.in_ok-slot.ensures.1 in
    let found : get_or c.self.inside.pairs.now c.self.inside.at c.in_ok-found.found.now ≡ c.in_ok-found.found.now = search rules in
    let steps = ap length (
    sym c.self.view_is ∙ first g.V.OnLines.marks it.mark g.row.N it.at it.pairs.now it.marks.now it.next.now c.self.invariant within c.in_ok-found.found.now
    ∙ ap (λ pair. pair ∷ marked g.V.OnLines.marks it.mark (drop (it.at + 1) it.pairs.now)) found
    ∙ ap (λ left. c.in_ok-found.found.now ∷ left) (sym (rest g.V.OnLines.marks it.mark g.row.N it.at it.pairs.now it.marks.now it.next.now c.self.invariant within c.in_ok-slot.slot below is))) in
    search rules
