use Rattle.std.proofs.Common.{◌≡◌, ◌<◌, get_or, length, ap, sym, ◌∙◌, subst, rules, arith}
use Rattle.std.proofs.lemmas.List.{get_or-set_other}
use Rattle.std.proofs.lemmas.Option.{slice_get-get_or}
use Rattle.rbc_desk.specs.Held.{AreOutboxes, post_one}
use Rattle.rbc_desk.proofs.TakesBack.{posted_last, one_moved}
use Rattle.rbc_desk.proofs.outbox.post_all.Goals as goal

pub loop-index-preserved : goal.loop-index-preserved
loop-index-preserved c =
    let so_far = c.loop-index.invariant in
    let input = c.args.input in
    let sent = c.args.messages.now in
    let index = c.loop-index.index in
    let one = c.index-messages-index.result in
    let posted : c.post_moved.new.outboxes.items ≡ post_one input c.loop-index.outboxes.items (get_or c.loop-index.messages index one) = search rules in
    let own = get_or sent index one in
    let within : index < length sent = omega arith in
    record {
      posted = posted ∙ ap (post_one input c.loop-index.outboxes.items) (so_far.rest index one (omega arith)) ∙ ap (λ boxes. post_one input boxes own) so_far.posted
          ∙ sym (posted_last input c.args.outboxes.now.items sent index own (slice_get-get_or sent index one within));
      outboxes = c.post_moved.ensures.outboxes;
      engines = one_moved sent c.loop-index.messages index one c.post_moved.new.sent so_far.engines c.post_moved.ensures.engine;
      rest = λ k d on. get_or-set_other c.loop-index.messages index k c.post_moved.new.sent d (λ is. absurd (omega (arith, is, on))) ∙ so_far.rest k d (omega (arith, on));
    }

pub returns-then-is_err-clause-engines : goal.returns-then-is_err-clause-engines
returns-then-is_err-clause-engines c =
    one_moved c.args.messages.now c.loop-index.messages c.loop-index.index c.index-messages-index.result c.post_moved.new.sent c.loop-index.invariant.engines c.post_moved.ensures.engine

pub returns-then-is_err-clause-err : goal.returns-then-is_err-clause-err
returns-then-is_err-clause-err c =
    let unchanged : c.post_moved.new.outboxes.items ≡ c.loop-index.outboxes.items = search rules in
    c.take_back_all.ensures.back c.args.input c.args.outboxes.now.items c.args.messages.now c.requires.outboxes (returns-then-is_err-clause-engines c) (unchanged ∙ c.loop-index.invariant.posted)

pub returns-then-is_err-clause-outboxes : goal.returns-then-is_err-clause-outboxes
returns-then-is_err-clause-outboxes c = subst AreOutboxes (sym (returns-then-is_err-clause-err c)) c.requires.outboxes
