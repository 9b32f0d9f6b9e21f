use Rattle.rbc_rule.proofs.Deciding.{read_fault}
use Rattle.rbc_rule.proofs.fetch.with_list.Goals as goal

pub returns-in_err-others-clause-reads : goal.returns-in_err-others-clause-reads
returns-in_err-others-clause-reads g c =
    let residual = c.from_residual-in_err-others in
    read_fault residual.result c.in_err-others.field-0.0 residual.ensures.1 c.in_err-others.ensures.fault c.fetch.ensures.reads.extends c.in_ok-fetch.ensures.reads.failed
