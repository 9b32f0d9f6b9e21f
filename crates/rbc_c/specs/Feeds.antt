-- What giving a line to a handle does (own rule).
use Rattle.std.specs.Prelude.{◌≡◌, ℕ, ◌<◌, ◌≤◌, ◌⊎◌, List, Option, Some, None, length}
use Rattle.rbc_settle.specs.declared.sent.Sent.{Sent}
use Rattle.rbc_rule.specs.declared.outcome.Reply.{Reply}
use Rattle.rbc_rule.specs.declared.outcome.Reply.TheVariants.{Done, Refused}
use Rattle.rbc_live.specs.declared.desk.LiveDesk.{LiveDesk}
use Rattle.rbc_live.specs.History as live
use Rattle.rbc_c.specs.declared.feed.Answer.{Answer}
use Rattle.rbc_c.specs.declared.message.Message.{Message}
use Rattle.rbc_c.specs.Messages.{AreWritten, StaysBehind}

-- the code with which an input is refused, or 0 if it is accepted
abbrev pub refusal_of : Reply → ℕ
refusal_of (Done sent) = 0
refusal_of (Refused code) = code

-- the line was taken by the step of the rules: its answer is given, and its messages stand at the front
pub record IsDone (desk : LiveDesk) (line : List ℕ) (out : List Message) (after : LiveDesk) (written : List Message) (answer : Answer) : Type 0 where
  pub reply : Reply
  pub sent : List Sent
  pub fed : live.IsFed desk.track line desk.records after.records reply sent
  pub refused : answer.refused ≡ refusal_of reply
  pub count : answer.count ≡ length sent
  pub room : length sent ≤ length out
  pub messages : AreWritten sent written
  pub behind : StaysBehind (length sent) out written

-- there are more messages than there is room for, and the answer says how many
abbrev pub IsShort : LiveDesk → List ℕ → ℕ → Answer → Type 0
IsShort desk line room answer = (answer.refused ≡ 0) × (room < answer.count) × live.AreSentBy desk.track line desk.records answer.count

-- what a line leaves of a desk and of the room for messages, by the code: 0 done, 1 memory was refused, 3 there is too little room
pub record IsFed (desk : LiveDesk) (line : List ℕ) (out : List Message) (before : Answer) (code : ℕ) (after : LiveDesk) (written : List Message) (answer : Answer) : Type 0 where
  pub track : after.track ≡ desk.track
  pub codes : (code ≡ 0) ⊎ (code ≡ 1) ⊎ (code ≡ 3)
  pub done : code ≡ 0 → IsDone desk line out after written answer
  pub stays : 0 < code → live.AreSame desk.records after.records × (written ≡ out)
  pub memory : code ≡ 1 → answer ≡ before
  pub room : code ≡ 3 → IsShort desk line (length out) answer

-- from the desk of a handle to its desk after the call; with no desk the code is 2, and nothing is changed
abbrev pub Feeds : Option LiveDesk → List ℕ → List Message → Answer → ℕ → Option LiveDesk → List Message → Answer → Type 0
Feeds (Some desk) line out before code (Some after) written answer = IsFed desk line out before code after written answer
Feeds (Some desk) line out before code None written answer = ⊥
Feeds None line out before code (Some after) written answer = ⊥
Feeds None line out before code None written answer = (code ≡ 2) × (written ≡ out) × (answer ≡ before)
