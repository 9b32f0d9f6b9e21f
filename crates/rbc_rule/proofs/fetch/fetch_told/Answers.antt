use Rattle.std.proofs.Common.{refl}
use Rattle.std.proofs.lemmas.Result.{IfOk-weaker}
use Rattle.rbc_rule.proofs.GatherKnown.{extends_same}
use Rattle.rbc_rule.proofs.Deciding.{read_fault}
use Rattle.rbc_rule.proofs.Seeking.{all_sought}
use Rattle.rbc_rule.proofs.fetch.fetch_told.Goals as goal

pub returns-in_err-engines-clause-reads : goal.returns-in_err-engines-clause-reads
returns-in_err-engines-clause-reads g c =
    read_fault c.from_residual.result c.in_err-engines.field-0.0 c.from_residual.ensures.1 c.in_err-engines.ensures.fault extends_same refl

pub returns-clause-sought : goal.returns-clause-sought
returns-clause-sought g c =
    IfOk-weaker c.fetch_list.result _ _ (λ engines same plan w m. all_sought c.args.sought w engines (same plan w m)) c.fetch_list.ensures.engines
