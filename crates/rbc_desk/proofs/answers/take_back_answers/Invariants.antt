use Rattle.std.proofs.Common.{◌≡◌, ◌-◌, ℕ, List, take}
use Rattle.rbc_desk.specs.declared.answer.Answer.{Answer}
use Rattle.rbc_desk.specs.declared.outbox.Mail.{Mail}
use Rattle.rbc_desk.specs.Held.{AreOutboxes}
use Rattle.rbc_desk.specs.Answers.{AreLeftOf, post_answers}
use Rattle.rbc_desk.proofs.answers.take_back_answers.Given as goal

-- of answers that were posted, the last ones are taken back so far
abbrev pub invariant-loop-done : goal.invariant-loop-done
invariant-loop-done l = record {
  back : (number : ℕ) (boxes : List (ℕ × List Mail)) (given : List Answer) → AreOutboxes boxes → AreLeftOf given l.answers → l.fn.outboxes.items ≡ post_answers number boxes (take l.count given)
      → l.outboxes.items ≡ post_answers number boxes (take (l.count - l.done) given);
  outboxes : AreOutboxes l.outboxes.items;
}
