use Rattle.std.proofs.Common.{◌≡◌, false, [], ◌∷◌, Some, refl, sym, ◌∙◌, arith}
use Rattle.std.specs.List.{AllByRecursion}
use Rattle.rbc_settle.specs.declared.change.LimitChange.TheVariants as limit_change
use Rattle.rbc_rule.specs.Saying.{Stretch, Restricts, RevokesLimit, IsStretchTold}
use Rattle.rbc_rule_laws.specs.Witnesses.{track_a, facing_up, on_line_0, train_7, limit_80, restriction_1, told_1, two_changes, lift_0, restrict_1}
use Rattle.rbc_rule_laws.proofs.Packets.{CanBePacked, restrict_packed, lift_packed}
use Rattle.rbc_rule_laws.proofs.Sendable as sendable
use Rattle.rbc_rule_laws.proofs.WitnessSays.{group_5, at_5, first_says, as_many, stretch_from_5, stretch_right, told_as_part, differ}
use Rattle.rbc_rule_laws.proofs.said_witnesses.packets_witnesses.Goals as goal

pub returns-clause-both : goal.returns-clause-both
returns-clause-both c =
    let stretch : Stretch = stretch_from_5 1050 2050 in
    let counted : IsStretchTold track_a 5 1 0 1050 1000 stretch = record {
      counts = record { group = group_5; known = refl; on_line = refl; from_group = refl; one_way = refl; in_units = refl };
      begins = refl;
      ends = refl;
    } in
    let packed : AllByRecursion CanBePacked (lift_0 ∷ restrict_1 ∷ []) = (lift_packed 2 0 (omega arith) (omega arith), (restrict_packed 1 0 1 1050 1000 16 false (omega arith) (omega arith) (omega arith) (omega arith) (omega arith) (omega arith), tt)) in
    record {
      said = RevokesLimit 0 ∷ Restricts 1 stretch false 80 ∷ [];
      says = ((refl, refl), ((stretch, (counted, refl)), tt));
      is_for = (
        refl,
        (
          record {
            limit = limit_80 (on_line_0 11050 12050);
            active = refl;
            p = facing_up;
            placed = refl;
            stretch = stretch;
            is_for = stretch_right 11050 12050 1050 1000 (told_as_part 11050 12050 (omega arith) (omega arith) refl);
            is_said = refl;
          },
          tt,
        ),
      );
      next_stamp = refl;
      known_time = omega arith;
      by_its_kind = refl;
      by_its_group = refl;
      sendable = sendable.general (at_5 1000) (omega arith) (omega arith) (lift_0 ∷ restrict_1 ∷ []) (omega arith) (omega arith) packed;
    }

pub returns-clause-last_dropped : goal.returns-clause-last_dropped
returns-clause-last_dropped c h =
    let count = as_many track_a (restriction_1 (on_line_0 11050 12050)) (train_7 (Some facing_up) 1000 []) 5 (lift_0 ∷ []) two_changes h.said h.says h.is_for in
    differ 1 2 refl count

pub returns-clause-first_dropped : goal.returns-clause-first_dropped
returns-clause-first_dropped c h =
    let count = as_many track_a (restriction_1 (on_line_0 11050 12050)) (train_7 (Some facing_up) 1000 []) 5 (restrict_1 ∷ []) two_changes h.said h.says h.is_for in
    differ 1 2 refl count

pub returns-clause-doubled : goal.returns-clause-doubled
returns-clause-doubled c h =
    let count = as_many track_a (restriction_1 (on_line_0 11050 12050)) (train_7 (Some facing_up) 1000 []) 5 (lift_0 ∷ restrict_1 ∷ restrict_1 ∷ []) two_changes h.said h.says h.is_for in
    differ 3 2 refl count

pub returns-clause-other_order : goal.returns-clause-other_order
returns-clause-other_order c h =
    let first = first_says track_a (restriction_1 (on_line_0 11050 12050)) (train_7 (Some facing_up) 1000 []) 5 restrict_1 (lift_0 ∷ []) (limit_change.Revoke 0) (limit_change.Tell 1 1 told_1 ∷ []) h.said h.says h.is_for in
    let same : Restricts 1 first.says.0 false 80 ≡ RevokesLimit 0 = sym first.says.1.1 ∙ first.is_for in
    absurd (cc same)

pub returns-clause-of_another_train : goal.returns-clause-of_another_train
returns-clause-of_another_train c h = differ 6 5 refl h.by_its_group
