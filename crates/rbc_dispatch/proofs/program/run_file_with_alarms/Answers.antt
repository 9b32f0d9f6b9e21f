use Rattle.std.proofs.Common.{inl}
use Rattle.rbc_dispatch.proofs.program.run_file_with_alarms.Goals as goal

-- the file holds the text that was read
pub returns-clause-runs : goal.returns-clause-runs
returns-clause-runs g c = inl (c.as_str.result.now, c.run_with_alarms_on.ensures.runs)
