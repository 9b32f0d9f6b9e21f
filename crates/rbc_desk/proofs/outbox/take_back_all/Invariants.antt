use Rattle.std.proofs.Common.{◌≡◌, ◌-◌, ℕ, List, take}
use Rattle.rbc_settle.specs.declared.sent.Sent.{Sent}
use Rattle.rbc_desk.specs.declared.outbox.Mail.{Mail}
use Rattle.rbc_desk.specs.Held.{AreOutboxes, AreToTheEnginesOf, post_each}
use Rattle.rbc_desk.proofs.outbox.take_back_all.Given as goal

-- of messages that were posted, the last ones are taken back so far
abbrev pub invariant-loop-done : goal.invariant-loop-done
invariant-loop-done l = record {
  back : (input : ℕ) (boxes : List (ℕ × List Mail)) (sent : List Sent) → AreOutboxes boxes → AreToTheEnginesOf sent l.messages → l.fn.outboxes.items ≡ post_each input boxes (take l.count sent)
      → l.outboxes.items ≡ post_each input boxes (take (l.count - l.done) sent);
  outboxes : AreOutboxes l.outboxes.items;
}
