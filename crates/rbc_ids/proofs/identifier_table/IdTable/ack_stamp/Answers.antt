use Rattle.std.proofs.Common.{rules, ℕ, ◌≡◌, ◌≤◌, ◌∙◌, refl, ap, sym, subst, arith}
use Rattle.std.specs.Option.{option_map}
use Rattle.rbc_ids.specs.declared.slot.Slot.{Slot}
use Rattle.rbc_ids.specs.Table.{IsTable, is_freed_by, is_marked_by, acked_slot, acked_slots}
use Rattle.rbc_ids.proofs.Tables.{stays_acked}
use Rattle.rbc_ids.proofs.Acked.{retained, counted, answered, none_answered}
use Rattle.rbc_ids.proofs.identifier_table.IdTable.ack_stamp.Given as given
use Rattle.rbc_ids.proofs.identifier_table.IdTable.ack_stamp.Goals as goal

pub overflow_cast-result : goal.overflow_cast-result
overflow_cast-result g c =
    let few : c.answered_by-freed.result.0 ≤ 255 = counted g.row.N c.args.self.now c.slots.ensures.sound (λ held. is_freed_by c.args.stamp held.1) c.answered_by-freed.result.0 (search rules) in
    record { fits = omega arith }

pub overflow_cast-result-2 : goal.overflow_cast-result-2
overflow_cast-result-2 g c =
    let few : c.answered_by-freed.result.1 ≤ 255 = counted g.row.N c.args.self.now c.slots.ensures.sound (λ held. is_marked_by c.args.stamp held.1) c.answered_by-freed.result.1 (search rules) in
    record { fits = omega arith }

-- what is left of the slots
left : (g : given.Over) (c : goal.After-retain_mut g) → c.retain_mut.new.self.items ≡ acked_slots c.args.stamp c.self.inside.held.items
left g c =
    retained _ (λ s. s.0.now ≡ c.args.stamp) (λ held. option_map {U = ℕ × Slot} (λ slot. (held.0, slot)) (acked_slot c.args.stamp held.1))
    (λ s x b t y is h. let met = h.called.met in (search rules, search rules)) _ _ _ refl c.retain_mut.ensures.filtered

pub invariant_of-self : goal.invariant_of-self
invariant_of-self g c = subst (IsTable g.row.N) (sym (left g c)) (stays_acked g.row.N c.self.inside.held.items c.self.invariant c.args.stamp)

pub returns-clause-answer : goal.returns-clause-answer
returns-clause-answer g c =
    (answered c.args.stamp c.args.self.now c.answered_by-freed.result.0 c.answered_by-freed.result.1 c.retain_mut.new.self.items (search rules) (search rules)
    (left g c ∙ ap (acked_slots c.args.stamp) c.self.view_is) c.else-freed-eq0.either).0

pub returns-clause-after : goal.returns-clause-after
returns-clause-after g c =
    (answered c.args.stamp c.args.self.now c.answered_by-freed.result.0 c.answered_by-freed.result.1 c.retain_mut.new.self.items (search rules) (search rules)
    (left g c ∙ ap (acked_slots c.args.stamp) c.self.view_is) c.else-freed-eq0.either).1

pub returns-then-marked-eq0-clause-after : goal.returns-then-marked-eq0-clause-after
returns-then-marked-eq0-clause-after g c =
    (none_answered c.args.stamp c.args.self.now c.answered_by-freed.result.0 c.answered_by-freed.result.1 (search rules) (search rules) (search rules) (search rules)).1
