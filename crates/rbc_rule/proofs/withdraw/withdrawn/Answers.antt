use Rattle.std.proofs.Common.{◌∙◌}
use Rattle.rbc_rule.specs.Gathered.{withdrawn_outcome}
use Rattle.rbc_rule.proofs.Engines.{roster_is}
use Rattle.rbc_rule.proofs.withdraw.withdrawn.Goals as goal

pub returns : goal.returns
returns g c = λ plan. record {
  outcome = λ w m.
      let engines = c.in_ok-engines.ensures.engines plan w m ∙ roster_is w in
      let others = c.in_ok-others.ensures.engines plan w m in
      c.in_ok-outcome.ensures.outcome ∙ (λ i. withdrawn_outcome c.args.engine (engines i) c.args.list (others i));
  refused = c.in_ok-outcome.ensures.refused;
  fit = c.in_ok-outcome.ensures.fit;
  fault = tt;
}
