-- What many functions of the rule promise, under one name each (own rule).
use Rattle.std.specs.Prelude.{◌≡◌, ℕ, Result, IfOk, IfErr, OnOk}
use Rattle.rbc_track.specs.Plan.{Plan}
use Rattle.rbc_records.specs.Notes.{Notes, Extends}
use Rattle.rbc_rule.specs.declared.input.Input.{Input}
use Rattle.rbc_rule.specs.declared.outcome.Outcome.{Outcome}
use Rattle.rbc_rule.specs.declared.outcome.RuleFault.{RuleFault}
use Rattle.rbc_rule.specs.World.{World}
use Rattle.rbc_rule.specs.Right.{EachWriteChanges, FailsAs, IsRight, IsSilentIfRefused, MayBe}
use Rattle.rbc_rule.specs.Faults.{IsFaultOf}
use Rattle.rbc_rule.specs.Gathered.{AreSendable}

-- Records are read, from old notes to new ones, with these numbers of failed reads before and after. What was known
-- stays known; a fault means what it says, on every track; and without a fault no read failed.
pub record Reads {T : Type 0} (old new : Notes) (before after : ℕ) (result : Result T RuleFault) : Type 0 where
  pub extends : Extends old new
  pub fault : (plan : Plan) → FailsAs plan new before after result
  pub failed : OnOk result (after ≡ before)

-- An input is decided, from old notes to new ones, with these numbers of failed reads before and after. The outcome is
-- right for what was read; each write changes something; a refusal writes and sends nothing; the messages can be sent;
-- what was known stays known; a fault means what it says; and without a fault no read failed.
pub record IsDecided (plan : Plan) (input : Input) (old new : Notes) (before after : ℕ) (result : Result Outcome RuleFault) : Type 0 where
  pub right : IfOk result (λ outcome. IsRight plan input new outcome.result outcome.writes outcome.messages)
  pub changes : IfOk result (λ outcome. EachWriteChanges plan input new outcome.writes)
  pub refused : IfOk result (λ outcome. IsSilentIfRefused outcome.result outcome.writes outcome.messages)
  pub fit : IfOk result (λ outcome. AreSendable outcome.messages)
  pub extends : Extends old new
  pub fault : FailsAs plan new before after result
  pub failed : OnOk result (after ≡ before)

-- The same if the outcome is known for each world that may be the one that was read.
pub record GivesOutcome (plan : Plan) (old new : Notes) (before after : ℕ) (outcome_in : World → Outcome) (result : Result Outcome RuleFault) : Type 0 where
  pub outcome : IfOk result (λ outcome. (w : World) → MayBe plan new w → outcome ≡ outcome_in w)
  pub refused : IfOk result (λ outcome. IsSilentIfRefused outcome.result outcome.writes outcome.messages)
  pub fit : IfOk result (λ outcome. AreSendable outcome.messages)
  pub extends : Extends old new
  pub fault : FailsAs plan new before after result
  pub failed : OnOk result (after ≡ before)

-- The same if nothing more is read.
pub record MakesOutcome (plan : Plan) (notes : Notes) (outcome_in : World → Outcome) (result : Result Outcome RuleFault) : Type 0 where
  pub outcome : IfOk result (λ outcome. (w : World) → MayBe plan notes w → outcome ≡ outcome_in w)
  pub refused : IfOk result (λ outcome. IsSilentIfRefused outcome.result outcome.writes outcome.messages)
  pub fit : IfOk result (λ outcome. AreSendable outcome.messages)
  pub fault : IfErr result (λ fault. IsFaultOf plan fault notes)
