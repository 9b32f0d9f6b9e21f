use Rattle.std.proofs.Common.{ap, ◌∙◌}
use Rattle.rbc_settle.specs.declared.train.TrainRec.{TrainRec}
use Rattle.rbc_settle.specs.declared.sent.Sent.{Sent}
use Rattle.rbc_settle.specs.Actions.{ChangesStop}
use Rattle.rbc_settle.proofs.SettleLoop.{sets_out, next_stop, is_allowed, has_stamp, same_engine, goes_on, are_behind}
use Rattle.rbc_settle.proofs.carrying_out.change_stops.Goals as goal

pub loop-change-init : goal.loop-change-init
loop-change-init c = sets_out _ _ _ c.requires

pub stop_message-message-requires-clause-stamp : goal.stop_message-message-requires-clause-stamp
stop_message-message-requires-clause-stamp c = has_stamp _ _ _ _ _ _ _ (next_stop _ _ _ _ _ _ _ c.loop-change-test.true c.change-item.is c.loop-change.invariant)

pub stop_message-message-requires-clause-tables : goal.stop_message-message-requires-clause-tables
stop_message-message-requires-clause-tables c = c.loop-change.invariant.can.tables

pub stop_message-message-requires-clause-allowed : goal.stop_message-message-requires-clause-allowed
stop_message-message-requires-clause-allowed c = is_allowed _ _ _ _ _ _ _ (next_stop _ _ _ _ _ _ _ c.loop-change-test.true c.change-item.is c.loop-change.invariant)

pub change_stop-requires-clause-stamp : goal.change_stop-requires-clause-stamp
change_stop-requires-clause-stamp c = has_stamp _ _ _ _ _ _ _ (next_stop _ _ _ _ _ _ _ c.loop-change-test.true c.change-item.is c.loop-change.invariant)

pub change_stop-requires-clause-allowed : goal.change_stop-requires-clause-allowed
change_stop-requires-clause-allowed c = is_allowed _ _ _ _ _ _ _ (next_stop _ _ _ _ _ _ _ c.loop-change-test.true c.change-item.is c.loop-change.invariant)

pub returns-in_err-change_stop-clause-behind : goal.returns-in_err-change_stop-clause-behind
returns-in_err-change_stop-clause-behind c = are_behind _ _ _ _ _ _ c.loop-change.invariant

pub loop-change-preserved : goal.loop-change-preserved
loop-change-preserved c =
    let now = c.loop-change.train in
    let after = c.in_ok-change_stop.ensures in
    let one : Sent = record { engine = c.change_stop.new.self.engine; message = c.stop_message-message.result } in
    let engine = ap (λ (train : TrainRec). train.engine) after ∙ same_engine now (ChangesStop c.change-item.result) in
    let way = next_stop _ _ _ _ _ _ _ c.loop-change-test.true c.change-item.is c.loop-change.invariant in
    goes_on _ _ _ _ _ _ _ way _ after one engine c.stop_message-message.ensures.message c.stop_message-message.ensures.fits _ c.in_ok-push.ensures.items

pub returns-clause-behind : goal.returns-clause-behind
returns-clause-behind c = are_behind _ _ _ _ _ _ c.loop-change.invariant
