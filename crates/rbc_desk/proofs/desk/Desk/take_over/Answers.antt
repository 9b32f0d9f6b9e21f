use Rattle.std.proofs.Common.{◌≡◌, ◌+◌, ◌≤◌, List, sym, ap, ◌∙◌, subst, length, take, drop, rules, arith}
use Rattle.std.proofs.lemmas.List.{take_all, take_at}
use Rattle.rbc_settle.specs.declared.sent.Sent.{Sent}
use Rattle.rbc_desk.specs.Held.{AreOutboxes, AreToTheEnginesOf, post_each, max_results}
use Rattle.rbc_desk.proofs.TakesBack.{as_many}
use Rattle.rbc_desk.proofs.desk.Desk.take_over.Goals as goal

-- where the writes are refused, the messages are taken back
unposted : (c : goal.After-drop-messages-in_default) → c.take_back_all.new.outboxes.items ≡ c.self.inside.outboxes.items
unposted c =
    let messages : List Sent = c.into_vec-messages.result.items in
    let moved = c.post_all.new.messages in
    let len : length messages ≡ c.into_vec-messages.result.len = sym c.into_vec-messages.result.ok.0 in
    let engines : AreToTheEnginesOf messages moved = subst (λ (sent : List Sent). AreToTheEnginesOf sent moved) c.deref_mut.ensures.value c.in_ok-post_all.ensures.engines in
    let there : c.deref.result.now ≡ moved = c.deref.ensures.value ∙ take_at moved (drop (length moved) messages) c.into_vec-messages.result.len (as_many messages moved engines ∙ len) in
    let all : take c.len-in_default.result messages ≡ messages = take_all c.len-in_default.result messages (omega (arith, len, c.len-in_default.ensures)) in
    c.take_back_all.ensures.back (c.len.result + 1) c.self.inside.outboxes.items messages c.self.invariant.0 (subst (AreToTheEnginesOf messages) (sym there) engines)
    (c.in_ok-post_all.ensures.posted ∙ ap (post_each (c.len.result + 1) c.self.inside.outboxes.items) (c.deref_mut.ensures.value ∙ sym all))

pub invariant_of-self-in_default : goal.invariant_of-self-in_default
invariant_of-self-in_default c =
    let few : length c.reserve.new.self.items ≤ max_results = search rules in
    (subst AreOutboxes (sym (unposted c)) c.self.invariant.0, few)

pub returns-in_default-clause-err : goal.returns-in_default-clause-err
returns-in_default-clause-err c =
    let boxes = unposted c in
    let store : c.exchange.new.store ≡ c.self.inside.records = search rules in
    let results : c.reserve.new.self.items ≡ c.self.inside.results.items = search rules in
    (λ i. record { records = store i; results = results i; outboxes = boxes i }) ∙ c.self.view_is
