use Rattle.std.proofs.Common.{rules, ◌≡◌, ◌++◌, ◌∷◌, [], Option, Some, Ok, option_map, sym, ap, subst, ◌∙◌}
use Rattle.std.specs.List.{cons_option}
use Rattle.rbc_settle.specs.declared.train.TrainRec.{TrainRec}
use Rattle.rbc_settle.specs.declared.change.StopChange.{StopChange}
use Rattle.rbc_settle.specs.declared.sent.Sent.{Sent}
use Rattle.rbc_settle.specs.Actions.{ChangesStop}
use Rattle.rbc_settle.specs.Settling.{carried_out, message_of}
use Rattle.rbc_settle.specs.Following.{Allows}
use Rattle.rbc_settle.specs.UpToDate.{HasTables}
use Rattle.rbc_settle.specs.SingleChange.{IsCarriedOut}
use Rattle.rbc_settle.proofs.SettleLoop.{same_engine}
use Rattle.rbc_settle.proofs.SingleChange.{one_done}
use Rattle.rbc_settle.proofs.single_change.with_stop_change.Goals as goal

pub returns : goal.returns
returns c =
    let train = c.args.train.now in
    let before = c.args.sent.now.items in
    let change = c.in-Some.change in
    let action = ChangesStop change in
    let copy = c.in_ok-after.ensures in
    let tables : HasTables c.in_ok-after.after = search rules in
    let allowed : Allows train action = search rules in
    let is : c.change_stop.new.self ≡ carried_out train action = c.in_ok-change_stop.ensures ∙ ap (λ (t : TrainRec). carried_out t action) copy in
    let engine : c.change_stop.new.self.engine ≡ train.engine = ap (λ (t : TrainRec). t.engine) is ∙ same_engine train action in
    let message : c.stop_message-message.result ≡ message_of train action = c.stop_message-message.ensures.message ∙ ap (λ (t : TrainRec). message_of t action) copy in
    let one : Sent = record { engine = c.change_stop.new.self.engine; message = c.stop_message-message.result } in
    let pushed : c.push.new.self.items ≡ before ++ one ∷ [] = c.in_ok-push.ensures.items in
    subst (λ (o : Option StopChange). IsCarriedOut train (cons_option (option_map ChangesStop o) []) before (Ok (Some c.change_stop.new.self)) c.push.new.self.items) (sym c.in-Some.is)
    (one_done train before action c.change_stop.new.self one c.push.new.self.items (subst HasTables copy tables) allowed c.requires.stamp is engine message c.stop_message-message.ensures.fits pushed)
