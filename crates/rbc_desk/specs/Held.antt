-- A desk as it is kept: its world as single records (own rule).
use Rattle.std.specs.Prelude.{◌≡◌, ℕ, ◌+◌, ◌-◌, ◌≤◌, nat_lt, if◌then◌else◌, List, [], ◌∷◌, ◌++◌, length, map, take, Option}
use Rattle.std.specs.List.{fold, All}
use Rattle.rbc_track.specs.Plan.{Plan}
use Rattle.rbc_maps.specs.Maps.{IsMap, with_value, value_or, without}
use Rattle.rbc_settle.specs.declared.sent.Sent.{Sent}
use Rattle.rbc_records.specs.declared.record.Key.{Key}
use Rattle.rbc_records.specs.declared.record.Rec.{Rec}
use Rattle.rbc_records.specs.Notes.{record_in}
use Rattle.rbc_records.specs.Writes.{written}
use Rattle.rbc_rule.specs.declared.input.Input.{Input}
use Rattle.rbc_rule.specs.declared.outcome.Outcome.{Outcome}
use Rattle.rbc_rule.specs.declared.outcome.Reply.{Reply}
use Rattle.rbc_rule.specs.declared.outcome.RuleFault.{RuleFault}
use Rattle.rbc_rule.specs.declared.outcome.RuleFault.TheVariants.{OutOfMemory}
use Rattle.rbc_rule.specs.World.{World}
use Rattle.rbc_rule.specs.Records.{record_of}
use Rattle.rbc_rule.specs.Right.{IsStep}
use Rattle.rbc_rule.specs.WellFormed.{IsWellFormed}
use Rattle.rbc_desk.specs.declared.outbox.Mail.{Mail}
use Rattle.rbc_desk.specs.Serial as serial

-- what a desk keeps: records by their keys, of which the first with a key counts, the results in the order of their inputs, and the
-- mails by engine number
pub record Held : Type 0 where
  pub records : List (Key × Rec)
  pub results : List Reply
  pub outboxes : List (ℕ × List Mail)

-- what a desk holds, in whatever order its records are kept: the record under each key, if there is one, the results and the mails
pub record Standing : Type 0 where
  pub records : Key → Option Rec
  pub results : List Reply
  pub outboxes : List (ℕ × List Mail)

abbrev pub standing : Held → Standing
standing held = record { records = record_in held.records; results = held.results; outboxes = held.outboxes }

-- these are the records of a well-formed world
pub record AreRecordsOf (track : Plan) (records : Key → Option Rec) (w : World) : Type 0 where
  pub well_formed : IsWellFormed track w
  pub same : (k : Key) → records k ≡ record_of w k

-- it is a desk of the rules: the records are those of the desk's world, and its results and mails are the desk's
pub record Holds (track : Plan) (held : Standing) (desk : serial.Desk) : Type 0 where
  pub world : AreRecordsOf track held.records desk.world
  pub results : held.results ≡ desk.results
  pub outboxes : held.outboxes ≡ desk.outboxes

-- outboxes are in order: they ascend in the engine, and none is empty
pub record AreOutboxes (outboxes : List (ℕ × List Mail)) : Type 0 where
  pub ascending : IsMap outboxes
  pub filled : All (λ outbox. 1 ≤ length outbox.1) outboxes

-- the most results of a desk
abbrev pub max_results : ℕ
max_results = 4000000000

-- each desk is in order: its outboxes are, and its results are not too many
abbrev pub IsInOrder : Held → Type 0
IsInOrder held = AreOutboxes held.outboxes × (length held.results ≤ max_results)

-- a message joins the outbox of its engine
abbrev pub post_one : ℕ → List (ℕ × List Mail) → Sent → List (ℕ × List Mail)
post_one input outboxes sent = with_value sent.engine (value_or [] outboxes sent.engine ++ serial.mail input sent.message ∷ []) outboxes

-- messages join the outboxes of their engines, one after another
abbrev pub post_each : ℕ → List (ℕ × List Mail) → List Sent → List (ℕ × List Mail)
post_each input outboxes messages = fold (post_one input) outboxes messages

-- messages go to the same engines as others, one by one
abbrev pub AreToTheEnginesOf : List Sent → List Sent → Type 0
AreToTheEnginesOf messages others = map (λ (sent : Sent). sent.engine) others ≡ map (λ (sent : Sent). sent.engine) messages

-- the last message of an engine is taken back, and the outbox too if it has no other
abbrev pub taken_back : ℕ → List (ℕ × List Mail) → List (ℕ × List Mail)
taken_back engine outboxes =
    let mails = value_or [] outboxes engine in
    if nat_lt 1 (length mails) then with_value engine (take (length mails - 1) mails) outboxes else without engine outboxes

-- The first messages are taken back out of the outboxes, which are then as they were before. Only the engines of the messages matter.
abbrev pub AreTakenBack : List Sent → ℕ → List (ℕ × List Mail) → List (ℕ × List Mail) → Type 0
AreTakenBack messages count old new = (input : ℕ) (boxes : List (ℕ × List Mail)) (sent : List Sent)
    → AreOutboxes boxes → AreToTheEnginesOf sent messages → old ≡ post_each input boxes (take count sent) → new ≡ boxes

-- an outcome is taken over as it is: its writes, its result, and its messages under the number of that result
abbrev pub after_outcome : Standing → Outcome → Standing
after_outcome held outcome = record {
  records = written outcome.writes held.records;
  results = held.results ++ outcome.result ∷ [];
  outboxes = post_each (length held.results + 1) held.outboxes outcome.messages;
}

-- an outcome is that of a step of the world that has these records
abbrev pub IsOutcomeOf : Plan → Input → (Key → Option Rec) → Outcome → Type 0
IsOutcomeOf track input records outcome = (w : World) → AreRecordsOf track records w → IsStep track input w outcome.result outcome.writes outcome.messages

-- the only fault over the records of a well-formed world is lack of memory
abbrev pub IsMemoryOf : Plan → (Key → Option Rec) → RuleFault → Type 0
IsMemoryOf track records fault = (w : World) → AreRecordsOf track records w → fault ≡ OutOfMemory

-- an input is taken in: what stood there was a desk of the rules, and what stands there now is that desk after the input
abbrev pub IsTakenIn : Plan → Input → Standing → Standing → Type 0
IsTakenIn track input old new = (desk : serial.Desk) → Holds track old desk → Holds track new (serial.step track desk input)
