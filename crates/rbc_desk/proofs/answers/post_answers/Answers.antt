use Rattle.std.proofs.Common.{◌≡◌, ◌<◌, ◌+◌, get_or, length, ap, sym, ◌∙◌, subst, rules, arith}
use Rattle.std.proofs.Math.Seq.{map-set_same}
use Rattle.std.proofs.lemmas.List.{get_or-set_other}
use Rattle.std.proofs.lemmas.Option.{slice_get-get_or}
use Rattle.rbc_desk.specs.declared.answer.Answer.{Answer}
use Rattle.rbc_desk.specs.Held.{AreOutboxes, post_each}
use Rattle.rbc_desk.specs.Answers.{left_of}
use Rattle.rbc_desk.proofs.PostsAnswers.{answers_more}
use Rattle.rbc_desk.proofs.answers.post_answers.Goals as goal

pub loop-index-preserved : goal.loop-index-preserved
loop-index-preserved c =
    let so_far = c.loop-index.invariant in
    let number = c.args.first + c.loop-index.index in
    let given = c.args.answers.now in
    let index = c.loop-index.index in
    let one = c.index-answers-index.result in
    let posted : c.post_answer.new.outboxes.items ≡ post_each number c.loop-index.outboxes.items (get_or c.loop-index.answers index one).messages.items = search rules in
    let own = get_or given index one in
    let within : index < length given = omega arith in
    record {
      posted = posted ∙ ap (λ (a : Answer). post_each number c.loop-index.outboxes.items a.messages.items) (so_far.rest index one (omega arith)) ∙ ap (λ boxes. post_each number boxes own.messages.items) so_far.posted
          ∙ sym (answers_more c.args.first c.args.outboxes.now.items given index own (slice_get-get_or given index one within));
      outboxes = c.post_answer.ensures.outboxes;
      left = map-set_same left_of c.loop-index.answers index c.post_answer.new.answer one c.post_answer.ensures.left ∙ so_far.left;
      rest = λ k d on. get_or-set_other c.loop-index.answers index k c.post_answer.new.answer d (λ is. absurd (omega (arith, is, on))) ∙ so_far.rest k d (omega (arith, on));
    }

pub returns-then-is_err-clause-left : goal.returns-then-is_err-clause-left
returns-then-is_err-clause-left c =
    map-set_same left_of c.loop-index.answers c.loop-index.index c.post_answer.new.answer c.index-answers-index.result c.post_answer.ensures.left ∙ c.loop-index.invariant.left

pub returns-then-is_err-clause-err : goal.returns-then-is_err-clause-err
returns-then-is_err-clause-err c =
    let unchanged : c.post_answer.new.outboxes.items ≡ c.loop-index.outboxes.items = search rules in
    c.take_back_answers.ensures.back c.args.first c.args.outboxes.now.items c.args.answers.now c.requires.outboxes (returns-then-is_err-clause-left c) (unchanged ∙ c.loop-index.invariant.posted)

pub returns-then-is_err-clause-outboxes : goal.returns-then-is_err-clause-outboxes
returns-then-is_err-clause-outboxes c = subst AreOutboxes (sym (returns-then-is_err-clause-err c)) c.requires.outboxes
