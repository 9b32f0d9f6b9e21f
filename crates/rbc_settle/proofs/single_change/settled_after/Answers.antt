use Rattle.std.proofs.Common.{rules, ◌≡◌, ◌<◌, [], List, Option, Some, option_map, sym, ap, subst, ◌∙◌}
use Rattle.std.specs.List.{cons_option}
use Rattle.rbc_ids.specs.Table.{least_free}
use Rattle.rbc_settle.specs.declared.change.StopChange.{StopChange}
use Rattle.rbc_settle.specs.declared.change.LimitChange.{LimitChange}
use Rattle.rbc_settle.specs.declared.single_change.Change.{Change}
use Rattle.rbc_settle.specs.declared.single_change.Change.TheVariants as change
use Rattle.rbc_settle.specs.Actions.{Action, ChangesStop}
use Rattle.rbc_settle.specs.Settling.{limit_to_tell, tell_limit}
use Rattle.rbc_settle.specs.SingleChange.{both_of, in_one_packet, action_for, actions_for, IsCarriedOut}
use Rattle.rbc_settle.proofs.SingleChange.{one_taken}
use Rattle.rbc_settle.proofs.single_change.settled_after.Goals as goal

pub returns-in-Stop-default-Some : goal.returns-in-Stop-default-Some
returns-in-Stop-default-Some c =
    let plan = c.args.track.now in
    let train = c.args.train.now in
    let left : train.stamp < 4294967294 = search rules in
    let changed : c.args.change ≡ change.Stop c.in-Stop-default-Some.number (Some c.in-Stop-default-Some.area) = search rules in
    let told : cons_option (option_map ChangesStop c.stop_told.result) [] ≡ cons_option (action_for plan (change.Stop c.in-Stop-default-Some.number (Some c.in-Stop-default-Some.area)) train) [] =
    ap (λ (o : Option StopChange). cons_option (option_map ChangesStop o) []) c.stop_told.ensures.value in
    subst (λ (acts : List Action). IsCarriedOut train acts c.args.sent.now.items c.with_stop_change.result c.with_stop_change.new.sent.items)
    (told ∙ one_taken train.stamp _ left ∙ ap (λ (ch : Change). actions_for plan ch train) (sym changed)) c.with_stop_change.ensures

pub returns-in-Limit-default-Some : goal.returns-in-Limit-default-Some
returns-in-Limit-default-Some c =
    let plan = c.args.track.now in
    let train = c.args.train.now in
    let left : train.stamp < 4294967294 = search rules in
    let limit = c.in-Limit-default-Some.limit in
    let number = c.in-Limit-default-Some.number in
    let changed : c.args.change ≡ change.Limit number (Some limit) = search rules in
    let told : cons_option (option_map in_one_packet c.limit_told-told.result) [] ≡ cons_option (action_for plan (change.Limit number (Some limit)) train) [] =
    ap (λ (o : Option LimitChange). cons_option (option_map in_one_packet o) [])
    (c.limit_told-told.ensures.value ∙ ap (λ far. option_map tell_limit (both_of (limit_to_tell far train (number, limit.now)) (least_free 255 train.limits))) c.horizon.ensures.value) in
    subst (λ (acts : List Action). IsCarriedOut train acts c.args.sent.now.items c.with_limit_change.result c.with_limit_change.new.sent.items)
    (told ∙ one_taken train.stamp _ left ∙ ap (λ (ch : Change). actions_for plan ch train) (sym changed)) c.with_limit_change.ensures
