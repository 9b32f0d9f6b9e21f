use Rattle.rbc_engine.proofs.workers.run_on_book.Given as goal

-- the track, the desk and the inputs that were passed, and a log of its own
abbrev pub ghosts-run_named : goal.ghosts-run_named
ghosts-run_named g a = record { run = record { track = a.track.now; opening = a.desk.now; inputs = a.inputs.now }; log = a.log.now }
