use Rattle.std.proofs.Common.{◌≡◌, ◌≤◌, ◌∙◌, length, sym, ap, subst, arith, refl}
use Rattle.rbc_maps.specs.Maps.{with_value}
use Rattle.rbc_ids.specs.declared.slot.Slot.{Slot}
use Rattle.rbc_ids.specs.Table.{TellsApart}
use Rattle.rbc_ids.proofs.Gaps.{run, run_within, run_below, run_is_all, all_from_run, least_at, inserted_there, inserted_stays, full_only_where}
use Rattle.rbc_ids.proofs.Once.{apart-told}
use Rattle.rbc_ids.proofs.identifier_table.IdTable.issue.Goals as goal

pub returns-then-gap-clause-full : goal.returns-then-gap-clause-full
returns-then-gap-clause-full g c =
    (λ _. all_from_run g.row.N c.args.self.now c.gap-gap.ensures.sound (sym c.gap-gap.ensures.value ∙ c.if-gap.true), λ _. refl)

pub overflow_cast-id : goal.overflow_cast-id
overflow_cast-id g c =
    let small : g.row.N ≤ 255 = c.gap-gap.ensures.sound.small in
    let below : run 0 c.args.self.now ≤ g.row.N = run_below g.row.N c.args.self.now c.gap-gap.ensures.sound in
    let is : c.gap-gap.result ≡ run 0 c.args.self.now = c.gap-gap.ensures.value in
    record { fits = omega arith }

pub insert-requires : goal.insert-requires
insert-requires g c =
    let same : c.self.inside.held.items ≡ c.args.self.now = c.self.view_is in
    let within : run 0 c.args.self.now ≤ length c.args.self.now = run_within 0 c.args.self.now in
    let is : c.gap-gap.result ≡ run 0 c.args.self.now = c.gap-gap.ensures.value in
    omega (arith, ap length same, c.self.inside.held.ok.0)

pub returns-in_err-insert-clause-full : goal.returns-in_err-insert-clause-full
returns-in_err-insert-clause-full g c =
    full_only_where (length c.args.self.now ≡ g.row.N) (λ full. c.if-gap.false (c.gap-gap.ensures.value ∙ run_is_all g.row.N c.args.self.now c.gap-gap.ensures.sound full)) c.from_residual.result c.from_residual.ensures.1

pub invariant_of-self-2 : goal.invariant_of-self-2
invariant_of-self-2 g c =
    let same : c.self.inside.held.items ≡ c.args.self.now = c.self.view_is in
    let apart : TellsApart c.gap-gap.result c.told_now.result c.args.self.now =
    subst (λ (slot : Slot). TellsApart c.gap-gap.result slot c.args.self.now) (sym c.told_now.ensures) (apart-told c.gap-gap.result c.args.number c.args.stamp c.args.kind c.args.self.now c.requires) in
    inserted_stays g.row.N c.args.self.now c.gap-gap.ensures.sound c.self.inside.held.items same c.gap-gap.result c.gap-gap.ensures.value c.if-gap.false c.told_now.result apart c.insert.new.self.items c.in_ok-insert.ensures.items

pub returns-clause-issued : goal.returns-clause-issued
returns-clause-issued g c =
    let same : c.self.inside.held.items ≡ c.args.self.now = c.self.view_is in
    record {
      least = least_at g.row.N c.args.self.now c.gap-gap.ensures.sound c.self.inside.held.items same c.gap-gap.result c.gap-gap.ensures.value c.if-gap.false;
      slots =
          subst (λ (slot : Slot). c.insert.new.self.items ≡ with_value c.gap-gap.result slot c.args.self.now) c.told_now.ensures
          (inserted_there g.row.N c.args.self.now c.gap-gap.ensures.sound c.self.inside.held.items same c.gap-gap.result c.gap-gap.ensures.value c.if-gap.false c.told_now.result c.insert.new.self.items c.in_ok-insert.ensures.items);
    }
