use Rattle.std.proofs.Common.{◌≡◌, ◌+◌, ◌*◌, ◌<◌, ◌≤◌, pos, [], ◌∷◌, refl, arith}
use Rattle.rbc_track.specs.declared.group.Way.TheVariants.{Up, Down}
use Rattle.rbc_zones.proofs.ToldStops.{told_rightly}
use Rattle.rbc_rule.specs.Saying.{StopsAtOnce, StopsBefore}
use Rattle.rbc_rule_laws.specs.Witnesses.{facing_up, short_of_5, on_line_0}
use Rattle.rbc_rule_laws.proofs.Sendable as sendable
use Rattle.rbc_rule_laws.proofs.WitnessSays.{at_5, stop_before_sendable, right_stop, stop_seen, under_stop_id, not_at_once, under_edge_id, not_before, no_reference, differ, from_5, counted_from_5, from_6}
use Rattle.rbc_rule_laws.proofs.said_witnesses.stop_witnesses.Goals as goal

pub returns-clause-at_once : goal.returns-clause-at_once
returns-clause-at_once c = (
  refl,
  (
    (
      record {
        said = StopsAtOnce 0 ∷ [];
        says = refl;
        is_for = record { one = StopsAtOnce 0; is = record { area = on_line_0 12100 13000 ∷ []; active = refl; concern = refl }; alone = refl };
        next_stamp = refl;
        known_time = omega arith;
        by_its_kind = refl;
        by_its_group = refl;
        sendable = sendable.stop_at_once (at_5 1000) (omega arith) (omega arith) 0 1 (omega arith);
      },
      tt,
    ),
    tt,
  ),
)

pub returns-clause-at_the_group : goal.returns-clause-at_the_group
returns-clause-at_the_group c =
    let can_be_sent = stop_before_sendable 1 0 0 (omega arith) (omega arith) (omega arith) in
    let one = right_stop short_of_5 (on_line_0 10000 11000) 1 0 0 _ 10000 (from_5 Up 10000 1) refl can_be_sent refl (counted_from_5 1 0 0 Up 10000 1 refl refl refl)
    (record { scale = 0; units = 0; told = told_rightly 0 (omega arith); on_line = refl; from_group = refl; faces = refl; in_units = refl; ahead = refl }) in
    (refl, ((one, tt), tt))

pub returns-clause-by_place : goal.returns-clause-by_place
returns-clause-by_place c = record {
  said = StopsBefore 0 from_6 ∷ [];
  wanted = StopsBefore 0 (from_5 Up 50000 10) ∷ [];
  says = (
    refl,
    (
      from_6,
      (
        record {
          counts = record { group = record { line = 0; at = 200000; nominal = Down }; known = refl; on_line = refl; from_group = refl; one_way = refl; in_units = refl };
          ahead = refl;
        },
        refl,
      ),
    ),
  );
  is_for = record {
    one = StopsBefore 0 (from_5 Up 50000 10);
    is = record {
      area = on_line_0 50005 60000 ∷ [];
      active = refl;
      concern = record {
        p = facing_up;
        placed = refl;
        spot = from_5 Up 50000 10;
        is_for = record { scale = 1; units = 4000; told = told_rightly 40005 (omega arith); on_line = refl; from_group = refl; faces = refl; in_units = refl; ahead = refl };
        is_said = refl;
      };
    };
    alone = refl;
  };
  same = refl;
}

pub returns-clause-one_short : goal.returns-clause-one_short
returns-clause-one_short c h =
    let one = stop_seen facing_up (on_line_0 20000 21000) 1 0 9999 _ 20000 Up 1 refl refl refl h.1.0.0 in
    let counted : one.place ≡ 10000 + 9999 * 1 = one.counted in
    let ahead : one.place ≡ 10000 + one.units * 1 = one.ahead in
    let near : 10000 < one.units * 1 + 1 = one.near in
    absurd (omega arith)

pub returns-clause-one_far : goal.returns-clause-one_far
returns-clause-one_far c h =
    let one = stop_seen facing_up (on_line_0 20000 21000) 1 0 10001 _ 20000 Up 1 refl refl refl h.1.0.0 in
    let counted : one.place ≡ 10000 + 10001 * 1 = one.counted in
    let ahead : one.place ≡ 10000 + one.units * 1 = one.ahead in
    let not_beyond : one.units * 1 ≤ 10000 = one.not_beyond in
    absurd (omega arith)

pub returns-clause-turned_at_the_group : goal.returns-clause-turned_at_the_group
returns-clause-turned_at_the_group c h =
    let one = stop_seen short_of_5 (on_line_0 10000 11000) 0 0 0 _ 10000 Down 1 refl refl refl h.1.0.0 in
    let faces : Down ≡ Up = one.faces in
    cc

pub returns-clause-other_group : goal.returns-clause-other_group
returns-clause-other_group c h = differ 6 5 refl h.1.0.0.by_its_group

pub returns-clause-same_place : goal.returns-clause-same_place
returns-clause-same_place c h = differ 6 5 refl h.1.0.0.by_its_group

pub returns-clause-at_once_other_group : goal.returns-clause-at_once_other_group
returns-clause-at_once_other_group c h = differ 6 5 refl h.1.0.0.by_its_group

pub returns-clause-other_identifier : goal.returns-clause-other_identifier
returns-clause-other_identifier c h =
    differ 1 0 refl (under_edge_id _ _ _ _ _ _ _ 1 _ (on_line_0 20000 21000 ∷ []) refl _ _ _ _ h.1.0.0 20000 refl)

pub returns-clause-at_once_other_identifier : goal.returns-clause-at_once_other_identifier
returns-clause-at_once_other_identifier c h =
    differ 2 1 refl (under_stop_id _ _ _ _ _ _ _ 2 _ (on_line_0 40000 41000 ∷ []) refl refl h.1.0.1.0)

pub returns-clause-with_reference : goal.returns-clause-with_reference
returns-clause-with_reference c h =
    let same : pos 1 ≡ pos 0 = no_reference _ _ _ _ _ _ _ _ _ _ _ _ _ h.1.0.0 in
    absurd (cc same)

pub returns-clause-before_for_at_once : goal.returns-clause-before_for_at_once
returns-clause-before_for_at_once c h = not_before _ _ _ _ _ _ _ 1 _ (on_line_0 12100 13000 ∷ []) refl _ _ _ _ h.1.0.0 refl

pub returns-clause-at_once_for_before : goal.returns-clause-at_once_for_before
returns-clause-at_once_for_before c h = not_at_once _ _ _ _ _ _ _ 1 _ (on_line_0 20000 21000 ∷ []) refl 20000 refl h.1.0.0
