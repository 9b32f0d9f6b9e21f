use Rattle.std.proofs.Common.{◌≡◌, true, false, Option, Some, option_map, option_copied, sym, ap, ◌∙◌}
use Rattle.rbc_ids.specs.Table.{is_told}
use Rattle.rbc_zones.specs.Placing.{Place}
use Rattle.rbc_settle.specs.Told.{Part}
use Rattle.rbc_settle.specs.Settling.{limit_told_to}
use Rattle.rbc_settle.proofs.ToTell.{limit_told_already, limit_not_told}
use Rattle.rbc_settle.proofs.telling.limit_to_tell.Goals as goal

pub returns-then-tells : goal.returns-then-tells
returns-then-tells c =
    let train = c.args.train.now in
    let is : is_told train.limits c.args.number ≡ true = sym c.tells.ensures ∙ c.if-tells.true in
    sym (limit_told_already c.args.horizon train (c.args.number, c.args.limit.now) is)

pub returns : goal.returns
returns c =
    let train = c.args.train.now in
    let is : is_told train.limits c.args.number ≡ false = sym c.tells.ensures ∙ c.if-tells.false in
    let place : train.place ≡ Some c.in_ok-place.place.now = sym c.as_ref.ensures.value ∙ ap option_copied c.in_ok-place.was in
    let told : limit_told_to c.args.horizon train.place c.args.limit.now ≡ Some c.in_ok-told.told =
    ap (λ (p : Option Place). limit_told_to c.args.horizon p c.args.limit.now) place ∙ sym c.told_limit.ensures ∙ c.in_ok-told.was in
    sym (limit_not_told c.args.horizon train (c.args.number, c.args.limit.now) is ∙ ap (option_map (λ (told : Part). (c.args.number, told))) told)
