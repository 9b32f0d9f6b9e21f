use Rattle.std.proofs.Common.{inl}
use Rattle.rbc_dispatch.proofs.program.explain_file.Goals as goal

-- the file holds the text that was read
pub returns-clause-tells : goal.returns-clause-tells
returns-clause-tells g c = inl (c.as_str.result.now, c.explain_text.ensures.tells)
