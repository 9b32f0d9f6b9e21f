-- Which outcomes are right for what was read (own rule).
use Rattle.std.specs.Prelude.{◌≡◌, ◌⊎◌, ℕ, ◌+◌, ◌==◌, List, [], map, Option, Result, IfErr}
use Rattle.std.specs.List.{filter, All}
use Rattle.ertms_codec.specs.declared.to_train.ToTrain.{ToTrain}
use Rattle.rbc_track.specs.Plan.{Plan}
use Rattle.rbc_maps.specs.Maps.{value_or}
use Rattle.rbc_settle.specs.declared.sent.Sent.{Sent}
use Rattle.rbc_records.specs.declared.record.Key.{Key}
use Rattle.rbc_records.specs.declared.record.Key.TheVariants as key
use Rattle.rbc_records.specs.declared.record.Rec.{Rec}
use Rattle.rbc_records.specs.Notes.{Notes}
use Rattle.rbc_records.specs.Writes.{written}
use Rattle.rbc_rule.specs.declared.input.Input.{Input}
use Rattle.rbc_rule.specs.declared.input.Input.TheVariants.{Received}
use Rattle.rbc_rule.specs.Effect.{engine_of}
use Rattle.rbc_rule.specs.declared.outcome.Reply.{Reply}
use Rattle.rbc_rule.specs.declared.outcome.Reply.TheVariants.{Done, Refused}
use Rattle.rbc_rule.specs.declared.outcome.RuleFault.{RuleFault}
use Rattle.rbc_rule.specs.declared.outcome.RuleFault.TheVariants as fault
use Rattle.rbc_rule.specs.World.{World}
use Rattle.rbc_rule.specs.Step.{step}
use Rattle.rbc_rule.specs.Records.{record_of, Agrees}
use Rattle.rbc_rule.specs.WellFormed.{IsWellFormed}

-- the messages to one engine, in their order
abbrev pub messages_to : ℕ → List Sent → List ToTrain
messages_to engine sent = map (λ one. one.message) (filter (λ one. one.engine == engine) sent)

-- An outcome is that of the step of a world: its writes turn the world's records into those after the step, its answer is the
-- step's, and so are its messages to each engine. The order between engines is free.
pub record IsStep (plan : Plan) (input : Input) (w : World) (reply : Reply) (writes : List (Key × Option Rec)) (messages : List Sent) : Type 0 where
  pub after : (k : Key) → written writes (record_of w) k ≡ record_of (step plan w input).world k
  pub answer : reply ≡ (step plan w input).reply
  pub sent : (engine : ℕ) → messages_to engine messages ≡ value_or [] (step plan w input).sent engine

-- a world that may be the one of which the notes were read
pub record MayBe (plan : Plan) (notes : Notes) (w : World) : Type 0 where
  pub well_formed : IsWellFormed plan w
  pub agrees : Agrees notes w

-- an outcome is right for notes if it is that of the step in each such world
abbrev pub IsRight : Plan → Input → Notes → Reply → List (Key × Option Rec) → List Sent → Type 0
IsRight plan input notes reply writes messages = (w : World) → MayBe plan notes w → IsStep plan input w reply writes messages

-- a write changes what stands under its key
abbrev pub IsChange : World → Key × Option Rec → Type 0
IsChange w write = record_of w write.0 ≡ write.1 → ⊥

-- the record of the train that sent a message
abbrev pub IsOfSender : Input → Key → Type 0
IsOfSender (Received message) k = k ≡ key.Train (engine_of message)
IsOfSender _ k = ⊥

-- Each write changes what stands under its key, except that the train that sent a message is always written.
abbrev pub EachWriteChanges : Plan → Input → Notes → List (Key × Option Rec) → Type 0
EachWriteChanges plan input notes writes =
    (w : World) → MayBe plan notes w → All (λ write. IsChange w write ⊎ IsOfSender input write.0) writes

-- an input that is refused writes nothing and sends nothing, whatever was read
abbrev pub IsSilentIfRefused : Reply → List (Key × Option Rec) → List Sent → Type 0
IsSilentIfRefused (Done sent) writes messages = Unit
IsSilentIfRefused (Refused code) writes messages = (writes ≡ []) × (messages ≡ [])

-- no well-formed world has what was read
abbrev pub IsTorn : Plan → Notes → Type 0
IsTorn plan notes = (w : World) → MayBe plan notes w → ⊥

-- what a fault says of the notes, and of the failures before and after
abbrev pub IsFault : Plan → RuleFault → Notes → ℕ → ℕ → Type 0
IsFault plan fault.OutOfMemory notes old new = new ≡ old
IsFault plan fault.Torn notes old new = (new ≡ old) × IsTorn plan notes
IsFault plan fault.Reader notes old new = new ≡ old + 1

-- if a call ends with a fault, the fault means what it says
abbrev pub FailsAs : {T : Type 0} → Plan → Notes → ℕ → ℕ → Result T RuleFault → Type 0
FailsAs plan notes old new result = IfErr result (λ fault. IsFault plan fault notes old new)
