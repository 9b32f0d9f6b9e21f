use Rattle.std.proofs.Common.{rules, ◌≡◌, ◌<◌, ◌∷◌, ◌++◌, [], length, true, ◌∙◌}
use Rattle.rbc_zones.specs.Limits.{Limit, is_good_limit}
use Rattle.rbc_rule.specs.Bounds.{max_limits}
use Rattle.rbc_rule.proofs.Changes.{added}
use Rattle.rbc_rule.proofs.active_lists.limits_after.Goals as goal

pub returns : goal.returns
returns c =
    let limits = c.args.limits.now in
    let plan = c.args.track.now in
    let new = c.args.new.now in
    let value : Limit = record { segment = new.segment; dirs = new.dirs; speed = new.speed; front = new.front } in
    let above : limits.last < new.number = search rules in
    let few : length limits.active < max_limits = search rules in
    let good : is_good_limit plan new.segment new.speed ≡ true = search rules in
    let copy : c.in_ok-after.after ≡ limits = c.in_ok-after.ensures in
    let limit : c.in-Ok.limit ≡ value = c.in-Ok.ensures.limit in
    let after : c.add.new.self ≡ record { last = new.number; active = limits.active ++ (new.number, value) ∷ [] } =
    c.in_ok-add.ensures.ok ∙ (λ i. record { last = new.number; active = (copy i).active ++ (new.number, limit i) ∷ [] }) in
    record { ok = added max_limits new.number (is_good_limit plan new.segment new.speed) value limits c.add.new.self c.last.ensures.sound above good few after; err = tt }
