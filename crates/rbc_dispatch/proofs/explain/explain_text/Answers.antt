use Rattle.rbc_dispatch.proofs.NotTold.{kept, not_told}
use Rattle.rbc_dispatch.proofs.explain.explain_text.Goals as goal

-- why the log is not told is handed on

pub returns-in_err-tell_in-clause-tells : goal.returns-in_err-tell_in-clause-tells
returns-in_err-tell_in-clause-tells g c = not_told c.args.text.now c.args.wanted c.args.json _ _ _ _ _ c.in_err-tell_in.field-0.0 c.from_residual.ensures.1 c.in_err-tell_in.ensures.tells

pub returns-in_err-tell_in-clause-keeps : goal.returns-in_err-tell_in-clause-keeps
returns-in_err-tell_in-clause-keeps g c = kept _ _ _ _ _ c.in_err-tell_in.field-0.0 c.from_residual.ensures.1 c.in_err-tell_in.ensures.unread c.in_err-tell_in.ensures.unwritten
