use Rattle.std.proofs.Common.{◌≡◌, List, ◌++◌, map, ap, sym, subst, ◌∙◌}
use Rattle.std.proofs.lemmas.List.Elements.{All-same}
use Rattle.rbc_settle.specs.declared.sent.Sent.{Sent}
use Rattle.rbc_settle.specs.Settling.{settled, messages_of, to_engine, most_messages}
use Rattle.rbc_settle.specs.UpToDate.{IsUpToDateOrAtTheEnd}
use Rattle.rbc_settle.proofs.Addressed.{messages_are, all_to, none_to_fit, few_in_all}
use Rattle.rbc_settle.proofs.SettleLoop.{found_settled, stays_settled}
use Rattle.rbc_settle.proofs.settling.settle.Goals as goal
use Rattle.rbc_settle.proofs.settling.settle.Goals.{in-Some, in_default}

pub returns-clause-messages : goal.returns-clause-messages
returns-clause-messages c =
    let engine = c.args.train.now.engine in
    let messages = messages_of c.args.track.now c.args.stops.now c.args.limits.now c.args.train.now in
    let sent : c.settled.new.sent.items ≡ to_engine engine messages =
    c.in_ok-after.ensures.messages ∙ ap (λ (before : List Sent). before ++ to_engine engine messages) c.new-sent.ensures.items in
    ap (λ (all : List Sent). map (λ (one : Sent). one.message) all) sent ∙ messages_are engine messages

pub returns-clause-engine : goal.returns-clause-engine
returns-clause-engine c =
    let engine = c.args.train.now.engine in
    let messages = messages_of c.args.track.now c.args.stops.now c.args.limits.now c.args.train.now in
    let sent : c.settled.new.sent.items ≡ to_engine engine messages =
    c.in_ok-after.ensures.messages ∙ ap (λ (before : List Sent). before ++ to_engine engine messages) c.new-sent.ensures.items in
    All-same (λ (one : Sent). one.engine ≡ engine) c.settled.new.sent.items (to_engine engine messages) sent (all_to engine messages)

-- the train is the one that was found, or stays as it is where nothing has to be done
now : (c : goal.Joined-branch-2) → c.match-branch-2.train ≡ settled c.args.track.now c.args.stops.now c.args.limits.now c.args.train.now
now c =
    let ensures = c.in_ok-after.ensures in
    elim c.match-branch-2.branch [
      | in-Some w ↦ found_settled c.args.track.now c.args.stops.now c.args.limits.now c.args.train.now _ _ _ w.in-Some.is w.train-is ensures.train
      | in_default w ↦ stays_settled c.args.track.now c.args.stops.now c.args.limits.now c.args.train.now _ _ w.in_default.is w.train-is ensures.none
    ]

pub returns-clause-train : goal.returns-clause-train
returns-clause-train c = now c

pub returns-clause-fit : goal.returns-clause-fit
returns-clause-fit c = c.in_ok-after.ensures.fit (none_to_fit c.new-sent.result.items c.new-sent.ensures.items)

pub returns-clause-few : goal.returns-clause-few
returns-clause-few c = few_in_all c.new-sent.result.items c.settled.new.sent.items most_messages c.new-sent.ensures.items c.in_ok-after.ensures.few

pub returns-clause-up_to_date : goal.returns-clause-up_to_date
returns-clause-up_to_date c =
    subst (IsUpToDateOrAtTheEnd c.args.track.now c.args.stops.now c.args.limits.now) (sym (now c)) c.in_ok-after.ensures.up_to_date
