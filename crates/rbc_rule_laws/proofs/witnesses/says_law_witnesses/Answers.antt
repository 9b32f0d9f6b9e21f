use Rattle.std.proofs.Common.{◌≡◌, ◌+◌, ◌*◌, ◌/◌, ◌^◌, ◌<◌, ◌≤◌, [], ◌∷◌, refl, ap, arith}
use Rattle.rbc_track.specs.declared.group.Way.TheVariants.{Up, Down}
use Rattle.rbc_zones.specs.Limits.{IsNearOne}
use Rattle.rbc_zones.proofs.ToldStops.{told_rightly}
use Rattle.rbc_rule.specs.Saying.{Spot, StopsAtOnce, StopsBefore, RevokesStop}
use Rattle.rbc_rule_laws.specs.Witnesses.{track_a, facing_up, facing_down, on_line_0, limit_80, stop_before, spot_at}
use Rattle.rbc_rule_laws.proofs.OneSaid.{says_one_thing}
use Rattle.rbc_rule_laws.proofs.WitnessSays.{stop_before_sendable, stop_now_sendable, revoke_sendable, restrict_sendable, told_as_part, right_stop, right_limit, stop_seen, limit_seen, not_spare, has_way, revokes_right, differ, tens, from_5, counted_from_5, before_20000}
use Rattle.rbc_rule_laws.proofs.witnesses.says_law_witnesses.Goals as goal

pub returns-clause-edge_at_20000 : goal.returns-clause-edge_at_20000
returns-clause-edge_at_20000 c =
    let can_be_sent = stop_before_sendable 1 0 10000 (omega arith) (omega arith) (omega arith) in
    let one = right_stop facing_up (on_line_0 20000 21000) 1 0 10000 _ 20000 (from_5 Up 20000 1) refl can_be_sent refl (counted_from_5 1 0 10000 Up 20000 1 refl refl refl)
    (record { scale = 0; units = 10000; told = told_rightly 10000 (omega arith); on_line = refl; from_group = refl; faces = refl; in_units = refl; ahead = refl }) in
    (refl, ((one, tt), tt))

pub returns-clause-edge_at_50005 : goal.returns-clause-edge_at_50005
returns-clause-edge_at_50005 c =
    let can_be_sent = stop_before_sendable 1 1 4000 (omega arith) (omega arith) (omega arith) in
    let one = right_stop facing_up (on_line_0 50005 60000) 1 1 4000 _ 50005 (from_5 Up 50000 10) refl can_be_sent refl (counted_from_5 1 1 4000 Up 50000 10 refl refl refl)
    (record { scale = 1; units = 4000; told = told_rightly 40005 (omega arith); on_line = refl; from_group = refl; faces = refl; in_units = refl; ahead = refl }) in
    (refl, ((one, tt), tt))

pub returns-clause-edge_at_3000 : goal.returns-clause-edge_at_3000
returns-clause-edge_at_3000 c =
    let can_be_sent = stop_before_sendable 0 0 7000 (omega arith) (omega arith) (omega arith) in
    let one = right_stop facing_down (on_line_0 1000 3000) 0 0 7000 _ 3000 (from_5 Down 3000 1) refl can_be_sent refl (counted_from_5 0 0 7000 Down 3000 1 refl refl refl)
    (record { scale = 0; units = 7000; told = told_rightly 7000 (omega arith); on_line = refl; from_group = refl; faces = refl; in_units = refl; ahead = refl }) in
    (refl, ((one, tt), tt))

pub returns-clause-part_ahead : goal.returns-clause-part_ahead
returns-clause-part_ahead c =
    let can_be_sent = restrict_sendable 1 0 0 1000 16 (omega arith) (omega arith) (omega arith) (omega arith) (omega arith) in
    let one = right_limit 9000 11000 0 1000 16 (told_as_part 9000 11000 (omega arith) (omega arith) refl) refl can_be_sent _ in
    (refl, ((one, tt), tt))

pub returns-clause-both_told : goal.returns-clause-both_told
returns-clause-both_told c = (
  refl,
  (
    (
      record {
        said = StopsAtOnce 0 ∷ [];
        says = refl;
        is_for = record { one = StopsAtOnce 0; is = record { area = on_line_0 20000 21000 ∷ []; active = refl; concern = refl }; alone = refl };
        next_stamp = refl;
        known_time = omega arith;
        by_its_kind = refl;
        by_its_group = refl;
        sendable = stop_now_sendable 0 0 (omega arith) (omega arith);
      },
      (
        record {
          said = StopsAtOnce 1 ∷ [];
          says = refl;
          is_for = record { one = StopsAtOnce 1; is = record { area = on_line_0 40000 41000 ∷ []; active = refl; concern = refl }; alone = refl };
          next_stamp = refl;
          known_time = omega arith;
          by_its_kind = refl;
          by_its_group = refl;
          sendable = stop_now_sendable 1 1 (omega arith) (omega arith);
        },
        tt,
      ),
    ),
    tt,
  ),
)

pub returns-clause-revoked : goal.returns-clause-revoked
returns-clause-revoked c = (refl, ((record { said = RevokesStop 0 ∷ []; says = refl; is_for = refl; next_stamp = refl; known_time = omega arith; by_its_kind = refl; by_its_group = refl; sendable = revoke_sendable 0 (omega arith) }, tt), tt))

pub returns-clause-refused : goal.returns-clause-refused
returns-clause-refused c = refl

pub returns-clause-place_read : goal.returns-clause-place_read
returns-clause-place_read c = before_20000

pub returns-clause-spare_scale : goal.returns-clause-spare_scale
returns-clause-spare_scale c h = not_spare _ _ _ _ _ _ _ _ _ _ _ _ _ h.1.0.0 refl

pub returns-clause-too_short : goal.returns-clause-too_short
returns-clause-too_short c h =
    let one = stop_seen facing_up (on_line_0 20000 21000) 1 0 0 _ 20000 Up 1 refl refl refl h.1.0.0 in
    let counted : one.place ≡ 10000 + 0 * 1 = one.counted in
    let ahead : one.place ≡ 10000 + one.units * 1 = one.ahead in
    let near : 10000 < one.units * 1 + 1 = one.near in
    absurd (omega arith)

pub returns-clause-whole_hundreds : goal.returns-clause-whole_hundreds
returns-clause-whole_hundreds c h =
    let one = limit_seen facing_up (on_line_0 11050 12050) 1 0 1000 1100 16 _ Up 1 refl refl h.1.0.0 in
    let near : IsNearOne (limit_80 (on_line_0 11050 12050)) facing_up 1 1000 = one.no_longer 1000 (omega arith) (omega arith) in
    let ahead : near.of.place ≡ 10000 + near.other = near.of.ahead in
    let from : 11050 ≤ near.of.place = near.of.from in
    let not_below : near.other < 1000 + 1 = near.near.not_below in
    absurd (omega arith)

pub returns-clause-speed_in_ones : goal.returns-clause-speed_in_ones
returns-clause-speed_in_ones c h =
    let one = limit_seen facing_up (on_line_0 11050 12050) 1 0 1050 1000 80 _ Up 1 refl refl h.1.0.0 in
    let speed : 80 ≡ 5 * 80 = one.speed_is in
    absurd (omega arith)

pub returns-clause-wrong_way : goal.returns-clause-wrong_way
returns-clause-wrong_way c h =
    let one = limit_seen facing_up (on_line_0 11050 12050) 0 0 1050 1000 16 _ Down 1 refl refl h.1.0.0 in
    let way : Up ≡ Down = one.way_is in
    cc

pub returns-clause-off_the_line : goal.returns-clause-off_the_line
returns-clause-off_the_line c h =
    let one = stop_seen facing_down (on_line_0 0 0) 0 0 12000 _ 0 Down 1 refl refl refl h.1.0.0 in
    let counted : 10000 ≡ one.place + 12000 * 1 = one.counted in
    absurd (omega arith)

pub returns-clause-both_ways : goal.returns-clause-both_ways
returns-clause-both_ways c h = has_way _ _ _ _ _ _ _ _ _ _ _ _ _ h.1.0.0 (λ nominal. refl)

pub returns-clause-rounded_up : goal.returns-clause-rounded_up
returns-clause-rounded_up c h =
    let one = stop_seen facing_up (on_line_0 50005 60000) 1 1 4001 _ 50005 Up 10 refl refl refl h.1.0.0 in
    let counted : one.place ≡ 10000 + 4001 * 10 = one.counted in
    let ahead : one.place ≡ 10000 + one.units * 10 = one.ahead in
    let not_beyond : one.units * 10 ≤ 40005 = one.not_beyond in
    absurd (omega arith)

pub returns-clause-too_coarse : goal.returns-clause-too_coarse
returns-clause-too_coarse c h =
    let one = stop_seen facing_up (on_line_0 50005 60000) 1 2 400 _ 50005 Up 100 refl refl refl h.1.0.0 in
    let finest : 32766 < 40005 / 10 ^ 1 = one.told.finest 1 (tens one.scale one.told.not_spare one.unit_is) in
    absurd (omega arith)

pub returns-clause-dropped : goal.returns-clause-dropped
returns-clause-dropped c h = h.1.0.1

pub returns-clause-sent_twice : goal.returns-clause-sent_twice
returns-clause-sent_twice c h = h.1.0.1

pub returns-clause-other_train : goal.returns-clause-other_train
returns-clause-other_train c h = differ 8 7 refl h.0

pub returns-clause-other_identifier : goal.returns-clause-other_identifier
returns-clause-other_identifier c h = differ 1 0 refl (revokes_right _ _ _ _ _ _ _ h.1.0.0)

pub returns-clause-sent_though_refused : goal.returns-clause-sent_though_refused
returns-clause-sent_though_refused c h = cc

pub returns-clause-other_place : goal.returns-clause-other_place
returns-clause-other_place c h =
    let same : StopsBefore 0 (spot_at 20000) ∷ [] ≡ StopsBefore 0 (spot_at 20001) ∷ [] =
    says_one_thing track_a (stop_before 1 0 10000) (StopsBefore 0 (spot_at 20000) ∷ []) (StopsBefore 0 (spot_at 20001) ∷ []) before_20000 h in
    let spots : spot_at 20000 ≡ spot_at 20001 = cc in
    differ 20000 20001 refl (ap (λ (s : Spot). s.place) spots)
