use Rattle.std.proofs.Common.{◌≡◌, ℕ, ◌-◌, ◌*◌, List, Vec, Global, vec_len, length, take, ap, ◌∙◌, arith}
use Rattle.rbc_settle.specs.declared.change.StopChange.{StopChange}
use Rattle.rbc_settle.specs.declared.change.LimitChange.{LimitChange}
use Rattle.rbc_settle.specs.Settling.{last_stamp, escalated, stops_revoked, stops_told, limits_revoked, limits_told, stop_changes, limit_changes}
use Rattle.rbc_settle.proofs.Stamped.{with_stamps, cut_of_both}
use Rattle.rbc_settle.proofs.judge.changes.Goals as goal

counted : (changes : Vec StopChange Global) → vec_len changes ≡ length changes.items
counted changes = omega (arith, changes.ok.0)

pub returns-clause-actions : goal.returns-clause-actions
returns-clause-actions c =
    let train = c.args.train.now in
    let horizon = c.args.track.now.horizon in
    let active = c.args.stops.now in
    let stops : List StopChange = stop_changes active train in
    let limits : List LimitChange = limit_changes horizon c.args.limits.now train in
    let room : ℕ = last_stamp - train.stamp in
    let forced = c.in_ok-forced_now.ensures in
    let first : c.truncate.new.self.items ≡ take room stops =
    cut_of_both c.saturating_sub-room.result room c.in_ok-of_stops.of_stops.items c.in_ok-stops_told.field-0.items
    (stops_revoked (escalated active train) active train) (stops_told (escalated active train) active train) c.put_behind.new.changes.items c.truncate.new.self.items
    (c.in_ok-of_stops.ensures.actions ∙ ap (λ (numbers : List ℕ). stops_revoked numbers active train) (c.deref.ensures.value ∙ forced))
    (c.in_ok-stops_told.ensures.actions ∙ ap (λ (numbers : List ℕ). stops_told numbers active train) (c.deref-2.ensures.value ∙ forced))
    c.in_ok-put_behind.ensures c.truncate.ensures.items c.saturating_sub-room.ensures in
    let left : ℕ = (room - length (take room stops)) * 100 in
    let count : (c.saturating_sub-room.result - c.len.result) * 100 ≡ left =
    ap (λ n. (n - c.len.result) * 100) c.saturating_sub-room.ensures ∙ ap (λ n. (room - n) * 100) (c.len.ensures ∙ counted c.truncate.new.self ∙ ap length first) in
    let then : c.truncate-2.new.self.items ≡ take left limits =
    cut_of_both ((c.saturating_sub-room.result - c.len.result) * 100) left c.in_ok-of_limits.of_limits.items c.in_ok-limits_told.field-0.items
    (limits_revoked c.args.limits.now train) (limits_told horizon c.args.limits.now train) c.put_behind-2.new.changes.items c.truncate-2.new.self.items
    c.in_ok-of_limits.ensures.actions
    (c.in_ok-limits_told.ensures.actions ∙ ap (λ far. limits_told far c.args.limits.now train) c.horizon.ensures.value)
    c.in_ok-put_behind-2.ensures c.truncate-2.ensures.items count in
    with_stamps room stops c.truncate.new.self.items limits c.truncate-2.new.self.items first then
