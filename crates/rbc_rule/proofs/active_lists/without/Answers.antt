use Rattle.std.proofs.Common.{ap, ◌∙◌}
use Rattle.rbc_maps.specs.Maps.{without}
use Rattle.rbc_rule.proofs.Changes.{not_there, removed}
use Rattle.rbc_rule.proofs.active_lists.without.Goals as goal

pub returns-then-is_none : goal.returns-then-is_none
returns-then-is_none g c = record { ok = tt; err = not_there c.args.number c.is_none.result c.get.result c.args.active.now c.is_none.ensures c.get.ensures c.if-is_none.true }

pub returns : goal.returns
returns g c =
    let copy = c.in_ok-after.ensures in
    record {
      ok = removed c.args.number c.is_none.result c.get.result c.args.active.now c.is_none.ensures c.get.ensures c.remove.new.self c.if-is_none.false
          (c.remove.ensures.active ∙ ap (λ n. record { last = n.last; active = without c.args.number n.active }) copy);
      err = tt;
    }
