use Rattle.std.proofs.Common.{◌≡◌, false, sym, ap, ◌∙◌, subst, arith}
use Rattle.std.proofs.Math.Logic.{∥∥₁_map, ∥∥₁_elim}
use mathlib.Core.HLevel.{⊥_prop}
use Rattle.rbc_records.specs.Notes.{Whole, is_noted, record_in}
use Rattle.rbc_rule.specs.Right.{IsFault, IsTorn}
use Rattle.rbc_text.specs.Serial.{serial, new_desk}
use Rattle.rbc_live.specs.History.{AreSentAt}
use Rattle.rbc_live.proofs.Steps.{same_whole, steps, not_torn, either_way}
use Rattle.rbc_live.proofs.Runs.{stays, goes_on}
use Rattle.rbc_live.proofs.Counts.{counted}
use Rattle.rbc_live.proofs.Following.{stay_but}
use Rattle.rbc_live.proofs.desk.LiveDesk.take_replacing.Goals as goal

pub invariant_of-self : goal.invariant_of-self
invariant_of-self c = record {
  serial = ∥∥₁_map c.args.self.now.serial (stays c.args.self.now.track c.args.self.now.records c.decide.new.store (same_whole c.args.self.now.records c.decide.new.store c.decide.ensures.extends));
}

pub invariant_of-self-then-len-most : goal.invariant_of-self-then-len-most
invariant_of-self-then-len-most c = record {
  serial = ∥∥₁_map c.args.self.now.serial (stays c.args.self.now.track c.args.self.now.records c.decide.new.store (same_whole c.args.self.now.records c.decide.new.store c.decide.ensures.extends));
}

pub unreachable-requires : goal.unreachable-requires
unreachable-requires c =
    let torn : IsTorn c.args.self.now.track (Whole c.decide.new.store) =
    (subst (λ f. IsFault c.args.self.now.track f (Whole c.decide.new.store) 0 0) c.in-Err-Torn.field-0-is c.in-Err-Torn.ensures.fault).1 in
    ∥∥₁_elim c.args.self.now.serial ⊥_prop (λ is. not_torn c.args.self.now.track c.args.self.now.records c.decide.new.store (serial c.args.self.now.track new_desk is.0).world c.in-Err-Torn.ensures.extends torn is.1)

pub returns-then-len-most-clause-fault : goal.returns-then-len-most-clause-fault
returns-then-len-most-clause-fault c = (
  omega (arith, c.if-len-most.true, c.len.ensures, c.len-then-len-most.ensures),
  subst (AreSentAt c.args.self.now.track c.args.input.now c.args.self.now.records) (sym c.len-then-len-most.ensures)
      (counted c.args.self.now.track c.args.input.now c.args.self.now.records c.decide.new.store c.in-Ok.outcome.result c.in-Ok.outcome.writes c.in-Ok.outcome.messages
      c.in-Ok.ensures.extends c.in-Ok.ensures.right),
)

pub invariant_of-self-2 : goal.invariant_of-self-2
invariant_of-self-2 c = record {
  serial = either_way c.exchange.result c.exchange.ensures.ok c.exchange.ensures.err
      (λ done. ∥∥₁_map c.args.self.now.serial
      (goes_on c.args.self.now.track c.args.input.now c.args.self.now.records c.exchange.new.store c.in-Ok.outcome.result c.in-Ok.outcome.messages
      (steps c.args.self.now.track c.args.input.now c.args.self.now.records c.decide.new.store c.exchange.new.store c.in-Ok.outcome.result c.in-Ok.outcome.writes c.in-Ok.outcome.messages
      c.step_law.ensures c.is_plan.ensures c.requires c.in-Ok.ensures.extends c.in-Ok.ensures.right done)))
      (λ same. ∥∥₁_map c.args.self.now.serial
      (stays c.args.self.now.track c.args.self.now.records c.exchange.new.store
      (λ k. ap (λ s. record_in s k) same ∙ same_whole c.args.self.now.records c.decide.new.store c.decide.ensures.extends k)));
}

pub returns-in-Ok-exchange-clause-step : goal.returns-in-Ok-exchange-clause-step
returns-in-Ok-exchange-clause-step c =
    steps c.args.self.now.track c.args.input.now c.args.self.now.records c.decide.new.store c.exchange.new.store c.in-Ok.outcome.result c.in-Ok.outcome.writes c.in-Ok.outcome.messages
    c.step_law.ensures c.is_plan.ensures c.requires c.in-Ok.ensures.extends c.in-Ok.ensures.right c.in-Ok-exchange.ensures.ok

pub returns-in-Ok-exchange-clause-stay : goal.returns-in-Ok-exchange-clause-stay
returns-in-Ok-exchange-clause-stay c = λ k none.
    c.in-Ok-exchange.ensures.ok k
    ∙ stay_but c.in-Ok.outcome.writes (record_in c.decide.new.store) k (subst (λ writes. is_noted writes k ≡ false) c.in-Ok-exchange.ensures.replaced none)
    ∙ same_whole c.args.self.now.records c.decide.new.store c.in-Ok.ensures.extends k
