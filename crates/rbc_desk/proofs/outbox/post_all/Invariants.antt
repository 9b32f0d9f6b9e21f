use Rattle.std.proofs.Common.{◌≡◌, ◌≤◌, ℕ, take, get_or}
use Rattle.rbc_settle.specs.declared.sent.Sent.{Sent}
use Rattle.rbc_desk.specs.Held.{AreOutboxes, AreToTheEnginesOf, post_each}
use Rattle.rbc_desk.proofs.outbox.post_all.Given as goal

-- the messages so far are posted, and the others stand there as before
abbrev pub invariant-loop-index : goal.invariant-loop-index
invariant-loop-index l = record {
  posted : l.outboxes.items ≡ post_each l.input l.fn.outboxes.items (take l.index l.fn.messages);
  outboxes : AreOutboxes l.outboxes.items;
  engines : AreToTheEnginesOf l.fn.messages l.messages;
  rest : (k : ℕ) (d : Sent) → l.index ≤ k → get_or l.messages k d ≡ get_or l.fn.messages k d;
}
