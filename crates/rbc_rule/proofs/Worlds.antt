-- What holds in each world that may be the one that was read.
use Rattle.std.proofs.Common.{◌≡◌, ℕ, [], Result, Err, sym, ap, subst, ◌∙◌}
use Rattle.rbc_track.specs.Plan.{Plan}
use Rattle.rbc_maps.specs.Maps.{value_or}
use Rattle.rbc_records.specs.Notes.{Notes, Extends}
use Rattle.rbc_rule.specs.declared.input.Input.{Input}
use Rattle.rbc_rule.specs.declared.outcome.Outcome.{Outcome}
use Rattle.rbc_rule.specs.declared.outcome.Reply.TheVariants.{Refused}
use Rattle.rbc_rule.specs.declared.refuse.Refusal.{Refusal}
use Rattle.rbc_rule.specs.declared.refuse.NotChanged.{NotChanged}
use Rattle.rbc_rule.specs.declared.refuse.NotChanged.TheVariants as not_changed
use Rattle.rbc_rule.specs.Codes.{code_of, IsReason}
use Rattle.rbc_rule.specs.World.{World}
use Rattle.rbc_rule.specs.Effect.{effect}
use Rattle.rbc_rule.specs.Step.{after}
use Rattle.rbc_rule.specs.Records.{record_of}
use Rattle.rbc_rule.specs.declared.outcome.RuleFault.{RuleFault}
use Rattle.rbc_rule.specs.declared.outcome.RuleFault.TheVariants.{OutOfMemory, Torn, Reader}
use Rattle.rbc_rule.specs.Right.{IsStep, MayBe, IsFault}
use Rattle.rbc_rule.specs.Faults.{IsFaultOf}

-- a world that agrees with notes agrees with those before them
pub may_have_been : {plan : Plan} {old new : Notes} {w : World} → Extends old new → MayBe plan new w → MayBe plan old w
may_have_been more m = record {
  well_formed = m.well_formed;
  agrees = λ k known. sym (more.stays_noted k known) ∙ m.agrees k (more.stays_known k known);
}

pub refused_is_step : (plan : Plan) (input : Input) (w : World) (code : ℕ) → effect plan input w ≡ Err code → IsStep plan input w (Refused code) [] []
refused_is_step plan input w code e = record {
  after = λ k. ap (λ r. record_of (after plan w r).world k) (sym e);
  answer = ap (λ r. (after plan w r).reply) (sym e);
  sent = λ engine. ap (λ r. value_or [] (after plan w r).sent engine) (sym e);
}

-- an input that is refused changes nothing
pub refused_right : (plan : Plan) (input : Input) (w : World) (code : ℕ) (outcome : Outcome)
    → outcome ≡ record { result = Refused code; writes = []; messages = [] } → effect plan input w ≡ Err code
    → IsStep plan input w outcome.result outcome.writes outcome.messages
refused_right plan input w code outcome is e =
    let P : Outcome → Type 0 = λ o. IsStep plan input w o.result o.writes o.messages in
    subst P (sym is) (refused_is_step plan input w code e)

-- what a refusal says of the definition
pub refusal_is : {A : Type 0} (given : Result A ℕ) (why : NotChanged) (refusal : Refusal) → why ≡ not_changed.Refused refusal → IsReason given why → Err (code_of refusal) ≡ given
refusal_is given why refusal is reason = subst (IsReason given) is reason

-- ---- faults

-- a fault of what was read, where no read has failed since
pub fault_of : (plan : Plan) (fault : RuleFault) (notes : Notes) (old new : ℕ) → IsFaultOf plan fault notes → new ≡ old → IsFault plan fault notes old new
fault_of plan OutOfMemory notes old new h e = e
fault_of plan Torn notes old new h e = (e, h)
fault_of plan Reader notes old new h e = absurd h
