use Rattle.std.proofs.Common.{rules, arith, ◌≡◌, ◌∙◌, ap, ℕ, ◌+◌, ◌<◌, length, get_or, take, ◌≤◌, List}
use Rattle.std.specs.List.{sum_by}
use Rattle.std.proofs.lemmas.List.{take_all}
use Rattle.std.proofs.lemmas.List.Sums.{sum_by_more}
use Rattle.rbc_rule.specs.declared.outcome.Reply.{Reply}
use Rattle.rbc_dispatch.specs.Replies.{messages_of}
use Rattle.rbc_dispatch.proofs.replies.messages.Goals as goal

pub loop-reply-init : goal.loop-reply-init
loop-reply-init c = search rules

-- a desk has at most 4,000,000,000 results
pub overflow_add-sent : goal.overflow_add-sent
overflow_add-sent c =
    let few : length c.args.desk.now.results ≤ 4000000000 = c.results-reply-items.ensures.in_order.1 in
    let same = ap (λ (xs : List Reply). length xs) c.results-reply-items.ensures.results in
    let so_far = c.loop-reply.invariant.1 in
    let one = c.messages_of.type_inv in
    let is = c.from-sent.ensures in
    let within = c.loop-reply-test.true in
    omega (arith, few, same, so_far, one, is, within)

-- one reply more
one_more : (replies : List Reply) (i : ℕ) (d : Reply) (sent more : ℕ) → i < length replies → sent ≡ sum_by messages_of (take i replies) → more ≡ messages_of (get_or replies i d)
    → sent + more ≡ sum_by messages_of (take (i + 1) replies)
one_more replies i d sent more within so_far is =
    let all = sum_by_more messages_of replies i d within in
    omega (arith, so_far, is, all)

pub loop-reply-preserved : goal.loop-reply-preserved
loop-reply-preserved c =
    let so_far = c.loop-reply.invariant.1 in
    let one = c.messages_of.type_inv in
    let is = c.from-sent.ensures in
    (one_more c.results-reply-items.result.now c.loop-reply.reply-index _ c.loop-reply.sent c.from-sent.result c.loop-reply-test.true c.loop-reply.invariant.0 (is ∙ c.messages_of.ensures), omega (arith, so_far, one, is))

pub returns : goal.returns
returns c =
    c.loop-reply.invariant.0 ∙ ap (λ (xs : List Reply). sum_by messages_of xs) (take_all c.loop-reply.reply-index c.results-reply-items.result.now c.loop-reply-test.false)
    ∙ ap (λ (xs : List Reply). sum_by messages_of xs) c.results-reply-items.ensures.results
