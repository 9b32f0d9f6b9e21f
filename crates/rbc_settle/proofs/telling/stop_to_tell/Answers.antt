use Rattle.std.proofs.Common.{◌≡◌, true, false, Option, Some, option_map, option_copied, sym, ap, ◌∙◌}
use Rattle.rbc_zones.specs.Placing.{Place}
use Rattle.rbc_zones.specs.Concerns.{concern_of}
use Rattle.rbc_ids.specs.Table.{is_told}
use Rattle.rbc_settle.specs.Numbers.{has_number}
use Rattle.rbc_settle.specs.declared.change.ToldStop.{ToldStop}
use Rattle.rbc_settle.specs.Settling.{told_stop}
use Rattle.rbc_settle.proofs.ToTell.{stop_told_already, stop_not_told}
use Rattle.rbc_settle.proofs.telling.stop_to_tell.Goals as goal

pub returns-then-tells : goal.returns-then-tells
returns-then-tells c =
    let train = c.args.train.now in
    let is : is_told train.stops c.args.number ≡ true = sym c.tells.ensures ∙ c.if-tells.true in
    sym (stop_told_already train (c.args.number, c.args.area.now) is)

pub returns : goal.returns
returns c =
    let train = c.args.train.now in
    let is : is_told train.stops c.args.number ≡ false = sym c.tells.ensures ∙ c.if-tells.false in
    let area = c.args.area.now in
    let place : option_copied c.as_ref-place.result ≡ train.place = c.as_ref-place.ensures.value in
    let told : told_stop train.place (concern_of area (has_number train.forced c.args.number) train.place) ≡ Some c.in_ok-told.told =
    ap (λ forced. told_stop train.place (concern_of area forced train.place)) (sym c.has.ensures)
    ∙ ap (λ (p : Option Place). told_stop p (concern_of area c.has.result p)) (sym place)
    ∙ ap (told_stop (option_copied c.as_ref-place.result)) (sym c.concern.ensures.value)
    ∙ sym c.told_stop.ensures
    ∙ c.in_ok-told.was in
    sym (stop_not_told train (c.args.number, c.args.area.now) is ∙ ap (option_map (λ (told : ToldStop). (c.args.number, told))) told)
