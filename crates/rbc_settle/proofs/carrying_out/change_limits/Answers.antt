use Rattle.std.proofs.Common.{◌≡◌, ◌<◌, min, length, take, drop, rules, ap, ◌∙◌, arith}
use Rattle.std.proofs.lemmas.Grind.{common_steps}
use Rattle.rbc_settle.specs.declared.train.TrainRec.{TrainRec}
use Rattle.rbc_settle.specs.declared.sent.Sent.{Sent}
use Rattle.rbc_settle.specs.Actions.{ChangesLimits}
use Rattle.rbc_settle.proofs.SettleLoop.{sets_out, next_group, cut_first, cut_behind, is_allowed, same_engine, goes_on, are_behind}
use Rattle.rbc_settle.proofs.carrying_out.change_limits.Goals as goal

pub loop-rest-init : goal.loop-rest-init
loop-rest-init c = sets_out _ _ _ c.requires

pub change_group-requires-clause-allowed : goal.change_group-requires-clause-allowed
change_group-requires-clause-allowed c =
    let rest = c.loop-rest.rest.now in
    let some : 0 < length rest = grind (arith, common_steps) in
    let cut : c.min.result ≡ min (length rest) 100 = search rules in
    let group : c.split_at.result.0.now ≡ take 100 rest = c.split_at.ensures.front ∙ cut_first c.min.result rest cut in
    let behind : c.split_at.result.1.now ≡ drop 100 rest = c.split_at.ensures.back ∙ cut_behind c.min.result rest cut in
    is_allowed _ _ _ _ _ _ _ (next_group _ _ _ _ _ rest _ _ some group behind c.loop-rest.invariant)

pub loop-rest-preserved : goal.loop-rest-preserved
loop-rest-preserved c =
    let now = c.loop-rest.train in
    let rest = c.loop-rest.rest.now in
    let some : 0 < length rest = grind (arith, common_steps) in
    let cut : c.min.result ≡ min (length rest) 100 = search rules in
    let group : c.split_at.result.0.now ≡ take 100 rest = c.split_at.ensures.front ∙ cut_first c.min.result rest cut in
    let behind : c.split_at.result.1.now ≡ drop 100 rest = c.split_at.ensures.back ∙ cut_behind c.min.result rest cut in
    let after = c.in_ok-change_group.ensures in
    let one : Sent = record { engine = c.change_group.new.train.engine; message = c.in_ok-message.message } in
    let engine = ap (λ (train : TrainRec). train.engine) after ∙ same_engine now (ChangesLimits c.split_at.result.0.now) in
    let way = next_group _ _ _ _ _ rest _ _ some group behind c.loop-rest.invariant in
    goes_on _ _ _ _ _ _ _ way _ after one engine c.in_ok-message.ensures.message c.in_ok-message.ensures.fits _ c.in_ok-push.ensures.items

pub returns-clause-behind : goal.returns-clause-behind
returns-clause-behind c = are_behind _ _ _ _ _ _ c.loop-rest.invariant
