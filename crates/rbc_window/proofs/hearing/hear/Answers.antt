use Rattle.std.proofs.Common.{rules, ◌≡◌, ℕ, suc, List, [], ◌∷◌, ◌∙◌, ap, refl, length}
use Rattle.ertms_codec.specs.declared.to_train.ToTrain.{ToTrain}
use Rattle.rbc_settle.specs.Settling.{messages_of, to_engine}
use Rattle.rbc_settle.proofs.Addressed.{sent_is}
use Rattle.rbc_rule.specs.declared.outcome.Reply.TheVariants.{Done}
use Rattle.rbc_window.proofs.hearing.hear.Goals as goal

count : (engine : ℕ) (messages : List ToTrain) → length (to_engine engine messages) ≡ length messages
count engine [] = refl
count engine (message ∷ messages) = ap suc (count engine messages)

pub returns-clause-ok : goal.returns-clause-ok
returns-clause-ok c =
    let plan = c.args.scene.now.track.now in
    let stops = c.args.scene.now.stops.now in
    let limits = c.args.scene.now.limits.now in
    let train = c.in_ok-train.train in
    let messages : c.in_ok-messages.messages.items ≡ to_engine train.engine (messages_of plan stops limits train) =
    sent_is train.engine (messages_of plan stops limits train) c.in_ok-messages.messages.items c.in_ok-messages.ensures.messages c.in_ok-messages.ensures.engine in
    let counted : c.len.result ≡ length c.in_ok-messages.messages.items = search rules in
    record {
      train = train;
      was_heard = c.in_ok-train.ensures.ok;
      settled_is = c.in_ok-messages.ensures.train;
      result = ap Done (counted ∙ ap length messages ∙ count train.engine (messages_of plan stops limits train));
      messages = messages;
      sendable = c.in_ok-messages.ensures.fit;
      left_is = c.list_of-left.ensures.list;
      entered_is = c.list_of-entered.ensures.list;
      left = c.list_of-left.ensures.is_list;
      entered = c.list_of-entered.ensures.is_list;
    }
