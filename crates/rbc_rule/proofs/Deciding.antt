-- How an input comes to be decided.
use Rattle.std.proofs.Common.{◌≡◌, ◌⊎◌, ℕ, List, [], Option, Result, Ok, Err, IsErrAnd, IfOk, IfErr, All, refl, sym, subst, ◌∙◌}
use Rattle.std.proofs.lemmas.List.Elements.{All-nil}
use Rattle.ertms_codec.specs.ToTrain.{Fits}
use Rattle.rbc_track.specs.Plan.{Plan}
use Rattle.rbc_settle.specs.declared.sent.Sent.{Sent}
use Rattle.rbc_records.specs.declared.record.Key.{Key}
use Rattle.rbc_records.specs.declared.record.Rec.{Rec}
use Rattle.rbc_records.specs.Notes.{Notes, Extends}
use Rattle.rbc_rule.specs.declared.input.Input.{Input}
use Rattle.rbc_rule.specs.declared.outcome.Outcome.{Outcome}
use Rattle.rbc_rule.specs.declared.outcome.Reply.TheVariants.{Done, Refused}
use Rattle.rbc_rule.specs.declared.outcome.RuleFault.{RuleFault}
use Rattle.rbc_rule.specs.declared.outcome.RuleFault.TheVariants.{OutOfMemory}
use Rattle.rbc_rule.specs.World.{World}
use Rattle.rbc_rule.specs.Effect.{effect}
use Rattle.rbc_rule.specs.Right.{IsChange, IsFault, IsOfSender, IsSilentIfRefused, IsStep, MayBe}
use Rattle.rbc_rule.specs.Faults.{IsFaultOf}
use Rattle.rbc_rule.specs.Gathered.{AreSendable}
use Rattle.rbc_rule.specs.Deciding.{IsDecided, GivesOutcome, MakesOutcome, Reads}
use Rattle.rbc_rule.proofs.GatherKnown.{extends_same, extends_on}
use Rattle.rbc_rule.proofs.Worlds.{fault_of, refused_right}
use Rattle.rbc_rule.proofs.EachChanges.{refused_changes}

-- ---- faults of what was read, where no read has failed

fault_stays : (plan : Plan) (new : Notes) (before after : ℕ) (other fault : RuleFault) → other ≡ fault → IsFaultOf plan fault new → after ≡ before → IsFault plan other new before after
fault_stays plan new before after other fault is h same = subst (λ f. IsFault plan f new before after) (sym is) (fault_of plan fault new before after h same)

module _ {old new : Notes} {before after : ℕ} where
  -- a fault ends the reading
  pub read_fault : {T : Type 0} (result : Result T RuleFault) (fault : RuleFault) → IsErrAnd result (λ other. other ≡ fault)
      → ((plan : Plan) → IsFaultOf plan fault new) → Extends old new → after ≡ before → Reads old new before after result
  read_fault (Ok value) fault is h more same = record { extends = more; fault = λ plan. tt; failed = same }
  read_fault (Err other) fault is h more same = record { extends = more; fault = λ plan. fault_stays plan new before after other fault is (h plan) same; failed = tt }

  -- the same of a result that is handed on
  pub read_on : {T : Type 0} (result : Result T RuleFault) → ((plan : Plan) → IfErr result (λ fault. IsFaultOf plan fault new))
      → Extends old new → after ≡ before → Reads old new before after result
  read_on (Ok value) h more same = record { extends = more; fault = λ plan. tt; failed = same }
  read_on (Err fault) h more same = record { extends = more; fault = λ plan. fault_of plan fault new before after (h plan) same; failed = tt }

  -- the same where an outcome is given, or an input decided
  pub fault_gives : {plan : Plan} {outcome_in : World → Outcome} (result : Result Outcome RuleFault) (fault : RuleFault) → IsErrAnd result (λ other. other ≡ fault)
      → IsFaultOf plan fault new → Extends old new → after ≡ before → GivesOutcome plan old new before after outcome_in result
  fault_gives (Ok outcome) fault is h more same = absurd is
  fault_gives {plan = plan} (Err other) fault is h more same = record {
    outcome = tt;
    refused = tt;
    fit = tt;
    extends = more;
    fault = fault_stays plan new before after other fault is h same;
    failed = tt;
  }

  pub fault_decides : {plan : Plan} {input : Input} (result : Result Outcome RuleFault) (fault : RuleFault) → IsErrAnd result (λ other. other ≡ fault)
      → IsFaultOf plan fault new → Extends old new → after ≡ before → IsDecided plan input old new before after result
  fault_decides (Ok outcome) fault is h more same = absurd is
  fault_decides {plan = plan} (Err other) fault is h more same = record {
    right = tt;
    changes = tt;
    refused = tt;
    fit = tt;
    extends = more;
    fault = fault_stays plan new before after other fault is h same;
    failed = tt;
  }

-- ---- outcomes

-- an input that every world refuses is refused
pub refusal_decides : {plan : Plan} {input : Input} {old new : Notes} {before after : ℕ} (code : ℕ) (outcome : Outcome) → outcome ≡ record { result = Refused code; writes = []; messages = [] }
    → ((w : World) → MayBe plan new w → effect plan input w ≡ Err code) → Extends old new → after ≡ before → IsDecided plan input old new before after (Ok outcome)
refusal_decides {plan = plan} {input = input} {new = new} code outcome is e more same = record {
  right = λ w m. refused_right plan input w code outcome is (e w m);
  changes = refused_changes plan input new code outcome is;
  refused = subst (λ (o : Outcome). IsSilentIfRefused o.result o.writes o.messages) (sym is) (refl, refl);
  fit = subst (λ (o : Outcome). AreSendable o.messages) (sym is) (All-nil (λ (one : Sent). Fits one.message));
  extends = more;
  fault = tt;
  failed = same;
}

-- where the outcome in each world is that of the world's step, and each of its writes changes something, the input is decided
pub outcome_decides : {plan : Plan} {old middle new : Notes} {before between after : ℕ} {outcome_in : World → Outcome} (input : Input) (result : Result Outcome RuleFault)
    → GivesOutcome plan middle new between after outcome_in result → Extends old middle → between ≡ before
    → ((w : World) (outcome : Outcome) → MayBe plan new w → outcome ≡ outcome_in w
    → IsStep plan input w outcome.result outcome.writes outcome.messages × All (λ write. IsChange w write ⊎ IsOfSender input write.0) outcome.writes)
    → IsDecided plan input old new before after result
outcome_decides input (Ok outcome) given more same step = record {
  right = λ w m. (step w outcome m (given.outcome w m)).0;
  changes = λ w m. (step w outcome m (given.outcome w m)).1;
  refused = given.refused;
  fit = given.fit;
  extends = extends_on more given.extends;
  fault = tt;
  failed = given.failed ∙ same;
}
outcome_decides {plan = plan} {new = new} {after = after} input (Err fault) given more same step = record {
  right = tt;
  changes = tt;
  refused = tt;
  fit = tt;
  extends = extends_on more given.extends;
  fault = subst (λ n. IsFault plan fault new n after) same given.fault;
  failed = tt;
}

-- an outcome that is made by what was read is given
pub made : {plan : Plan} {old new : Notes} {before after : ℕ} {outcome_in : World → Outcome} (result : Result Outcome RuleFault)
    → MakesOutcome plan new outcome_in result → Extends old new → after ≡ before → GivesOutcome plan old new before after outcome_in result
made (Ok outcome) makes more same = record {
  outcome = makes.outcome;
  refused = makes.refused;
  fit = makes.fit;
  extends = more;
  fault = tt;
  failed = same;
}
made {plan = plan} {new = new} {before = before} {after = after} (Err fault) makes more same = record {
  outcome = tt;
  refused = tt;
  fit = tt;
  extends = more;
  fault = fault_of plan fault new before after makes.fault same;
  failed = tt;
}

-- the same outcome in other words
pub in_words : {plan : Plan} {notes : Notes} {outcome_in : World → Outcome} (words : World → Outcome) (result : Result Outcome RuleFault)
    → MakesOutcome plan notes outcome_in result → ((w : World) → MayBe plan notes w → outcome_in w ≡ words w) → MakesOutcome plan notes words result
in_words words (Ok outcome) makes is = record {
  outcome = λ w m. makes.outcome w m ∙ is w m;
  refused = makes.refused;
  fit = makes.fit;
  fault = tt;
}
in_words words (Err fault) makes is = record { outcome = tt; refused = tt; fit = tt; fault = makes.fault }

-- An outcome that sends nothing is given, where it is that of each world. Nothing more is read, and only memory can be refused.
pub silent_gives : {plan : Plan} {notes : Notes} {failed : ℕ} {outcome_in : World → Outcome} (writes : List (Key × Option Rec)) (result : Result Outcome RuleFault)
    → IfOk result (λ outcome. outcome ≡ record { result = Done 0; writes = writes; messages = [] }) → IfErr result (λ fault. fault ≡ OutOfMemory)
    → ((w : World) → MayBe plan notes w → record { result = Done 0; writes = writes; messages = [] } ≡ outcome_in w)
    → GivesOutcome plan notes notes failed failed outcome_in result
silent_gives writes (Ok outcome) is none in_world = record {
  outcome = λ w m. is ∙ in_world w m;
  refused = subst (λ (o : Outcome). IsSilentIfRefused o.result o.writes o.messages) (sym is) tt;
  fit = subst (λ (o : Outcome). AreSendable o.messages) (sym is) (All-nil (λ (one : Sent). Fits one.message));
  extends = extends_same;
  fault = tt;
  failed = refl;
}
silent_gives {plan = plan} {notes = notes} {failed = failed} writes (Err fault) is memory in_world = record {
  outcome = tt;
  refused = tt;
  fit = tt;
  extends = extends_same;
  fault = fault_stays plan notes failed failed fault OutOfMemory memory tt refl;
  failed = tt;
}
