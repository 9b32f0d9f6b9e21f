use Rattle.std.proofs.Common.{inl}
use Rattle.rbc_dispatch.proofs.program.live_file.Goals as goal

-- the file holds the text that was read
pub returns-clause-lives : goal.returns-clause-lives
returns-clause-lives g c = inl (c.as_str.result.now, c.live_text.ensures.lives)
