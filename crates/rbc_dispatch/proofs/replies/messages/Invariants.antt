use Rattle.std.proofs.Common.{◌≡◌, ◌*◌, ◌≤◌, take}
use Rattle.std.specs.List.{sum_by}
use Rattle.rbc_dispatch.specs.Replies.{messages_of}
use Rattle.rbc_dispatch.proofs.replies.messages.Given as goal

-- the messages of the replies so far, each of which sent fewer than 2 ^ 32
abbrev pub invariant-loop-reply : goal.invariant-loop-reply
invariant-loop-reply l = (l.sent ≡ sum_by messages_of (take l.reply-index l.reply-items)) × (l.sent ≤ l.reply-index * 4294967295)
