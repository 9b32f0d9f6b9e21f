use Rattle.rbc_tests.proofs.tests.calls.run.Given as goal

-- the track, the new desk, the inputs and the log
abbrev pub ghosts-make_calls : goal.ghosts-make_calls
ghosts-make_calls g a = record { run = record { track = a.track.now; opening = a.desk; inputs = a.inputs.now }; log = a.log.now }
