use Rattle.std.proofs.Common.{inl}
use Rattle.rbc_dispatch.proofs.program.draw_file.Goals as goal

-- the file holds the text that was read
pub returns-clause-draws : goal.returns-clause-draws
returns-clause-draws g c = inl (c.as_str.result.now, c.picture_text.ensures.draws)
