use Rattle.std.proofs.Common.{◌≡◌, ◌⊎◌, ◌+◌, ◌*◌, ◌<◌, ◌≤◌, true, false, inl, inr, refl, arith}
use Rattle.rbc_track.specs.declared.group.Way.TheVariants.{Up}
use Rattle.rbc_zones.specs.Limits.{IsNearOne}
use Rattle.rbc_rule_laws.specs.Witnesses.{facing_up, on_line_0, limit_80}
use Rattle.rbc_rule_laws.proofs.WitnessSays.{restrict_sendable, told_as_part, right_limit, limit_seen, front_seen, under_limit_id, not_ones, differ}
use Rattle.rbc_rule_laws.proofs.said_witnesses.restriction_witnesses.Goals as goal

pub returns-clause-told : goal.returns-clause-told
returns-clause-told c =
    let can_be_sent = restrict_sendable 1 0 1050 1000 16 (omega arith) (omega arith) (omega arith) (omega arith) (omega arith) in
    let one = right_limit 11050 12050 1050 1000 16 (told_as_part 11050 12050 (omega arith) (omega arith) refl) refl can_be_sent _ in
    (refl, ((one, tt), tt))

pub returns-clause-begins_before : goal.returns-clause-begins_before
returns-clause-begins_before c h =
    let one = limit_seen facing_up (on_line_0 11050 12050) 1 0 1049 1000 16 _ Up 1 refl refl h.1.0.0 in
    let near : IsNearOne (limit_80 (on_line_0 11050 12050)) facing_up 1 1049 = one.no_longer 1049 (omega arith) (omega arith) in
    let ahead : near.of.place ≡ 10000 + near.other = near.of.ahead in
    let from : 11050 ≤ near.of.place = near.of.from in
    let not_below : near.other < 1049 + 1 = near.near.not_below in
    absurd (omega arith)

pub returns-clause-begins_behind : goal.returns-clause-begins_behind
returns-clause-begins_behind c h =
    let one = limit_seen facing_up (on_line_0 11050 12050) 1 0 1051 1000 16 _ Up 1 refl refl h.1.0.0 in
    let begun : 1051 * 1 ≤ 1050 = (one.covers 1050 (record { place = 11050; ahead = refl; from = omega arith; to = omega arith })).0 in
    absurd (omega arith)

pub returns-clause-too_short : goal.returns-clause-too_short
returns-clause-too_short c h =
    let one = limit_seen facing_up (on_line_0 11050 12050) 1 0 1050 999 16 _ Up 1 refl refl h.1.0.0 in
    let not_ended : 2050 ≤ (1050 + 999) * 1 = (one.covers 2050 (record { place = 12050; ahead = refl; from = omega arith; to = omega arith })).1 in
    absurd (omega arith)

pub returns-clause-too_long : goal.returns-clause-too_long
returns-clause-too_long c h =
    let one = limit_seen facing_up (on_line_0 11050 12050) 1 0 1050 1001 16 _ Up 1 refl refl h.1.0.0 in
    let near : IsNearOne (limit_80 (on_line_0 11050 12050)) facing_up 1 2051 = one.no_longer 2051 (omega arith) (omega arith) in
    let ahead : near.of.place ≡ 10000 + near.other = near.of.ahead in
    let to : near.of.place ≤ 12050 = near.of.to in
    let not_above : 2051 < near.other + 1 = near.near.not_above in
    absurd (omega arith)

pub returns-clause-too_coarse : goal.returns-clause-too_coarse
returns-clause-too_coarse c h =
    let one = limit_seen facing_up (on_line_0 11050 12050) 1 1 105 100 16 _ Up 10 refl refl h.1.0.0 in
    let no_room : (32766 < 1050) ⊎ (32766 < 1000) = one.finest 0 (not_ones one.scale one.unit_is) in
    elim no_room [ inl start ↦ absurd (omega (arith, start)) | inr length ↦ absurd (omega (arith, length)) ]

pub returns-clause-rounded_down : goal.returns-clause-rounded_down
returns-clause-rounded_down c h =
    let one = limit_seen facing_up (on_line_0 11055 51055) 1 1 105 4000 16 _ Up 10 refl refl h.1.0.0 in
    let not_ended : 41055 ≤ (105 + 4000) * 10 = (one.covers 41055 (record { place = 51055; ahead = refl; from = omega arith; to = omega arith })).1 in
    absurd (omega arith)

pub returns-clause-too_slow : goal.returns-clause-too_slow
returns-clause-too_slow c h =
    let one = limit_seen facing_up (on_line_0 11050 12050) 1 0 1050 1000 15 _ Up 1 refl refl h.1.0.0 in
    let speed : 80 ≡ 5 * 15 = one.speed_is in
    absurd (omega arith)

pub returns-clause-too_fast : goal.returns-clause-too_fast
returns-clause-too_fast c h =
    let one = limit_seen facing_up (on_line_0 11050 12050) 1 0 1050 1000 17 _ Up 1 refl refl h.1.0.0 in
    let speed : 80 ≡ 5 * 17 = one.speed_is in
    absurd (omega arith)

pub returns-clause-other_identifier : goal.returns-clause-other_identifier
returns-clause-other_identifier c h = differ 1 0 refl (under_limit_id _ _ _ _ _ _ _ _ _ _ _ _ _ _ _ h.1.0.0)

pub returns-clause-front_turned : goal.returns-clause-front_turned
returns-clause-front_turned c h =
    let front : false ≡ true = front_seen true _ h.1.0.0 in
    absurd (cc front)

pub returns-clause-other_group : goal.returns-clause-other_group
returns-clause-other_group c h = differ 6 5 refl h.1.0.0.by_its_group
