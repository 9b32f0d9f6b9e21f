use Rattle.std.proofs.Common.{rules, ◌≡◌, ◌<◌, ◌∷◌, ◌++◌, [], length, true, ◌∙◌}
use Rattle.rbc_zones.specs.Segments.{is_good_area}
use Rattle.rbc_rule.specs.Bounds.{max_stops}
use Rattle.rbc_rule.proofs.Changes.{added}
use Rattle.rbc_rule.proofs.active_lists.stops_after.Goals as goal

pub returns : goal.returns
returns c =
    let stops = c.args.stops.now in
    let plan = c.args.track.now in
    let number = c.args.number in
    let segments = c.args.segments.now in
    let above : stops.last < number = search rules in
    let few : length stops.active < max_stops = search rules in
    let good : is_good_area plan segments ≡ true = search rules in
    let copy : c.in_ok-after.after ≡ stops = c.in_ok-after.ensures in
    let area : c.in-Ok.area ≡ segments = c.in-Ok.ensures.area ∙ c.as_slice.ensures in
    let new : c.add.new.self ≡ record { last = number; active = stops.active ++ (number, segments) ∷ [] } =
    c.in_ok-add.ensures.ok ∙ (λ i. record { last = number; active = (copy i).active ++ (number, area i) ∷ [] }) in
    record { ok = added max_stops number (is_good_area plan segments) segments stops c.add.new.self c.last.ensures.sound above good few new; err = tt }
