use Rattle.std.proofs.Common.{◌≡◌, ◌≤◌, ℕ, take, get_or}
use Rattle.rbc_desk.specs.declared.answer.Answer.{Answer}
use Rattle.rbc_desk.specs.Held.{AreOutboxes}
use Rattle.rbc_desk.specs.Answers.{AreLeftOf, post_answers}
use Rattle.rbc_desk.proofs.answers.post_answers.Given as goal

-- the answers so far are posted, and the others stand there as before
abbrev pub invariant-loop-index : goal.invariant-loop-index
invariant-loop-index l = record {
  posted : l.outboxes.items ≡ post_answers l.first l.fn.outboxes.items (take l.index l.fn.answers);
  outboxes : AreOutboxes l.outboxes.items;
  left : AreLeftOf l.fn.answers l.answers;
  rest : (k : ℕ) (d : Answer) → l.index ≤ k → get_or l.answers k d ≡ get_or l.fn.answers k d;
}
