use Rattle.std.proofs.Common.{subst, rules}
use Rattle.rbc_records.specs.declared.record.Key.{Key}
use Rattle.rbc_engine.specs.Reading.{WasLatest}
use Rattle.rbc_engine.proofs.hand.ReadForAll.get.Goals as goal

pub returns-then-eq : goal.returns-then-eq
returns-then-eq g c = subst (λ (k : Key). WasLatest g.N.RunName.run g.N.RunName.log c.args.input k c.self.inside.number) (search rules) (c.self.invariant c.args.input c.if-self-input.true)
