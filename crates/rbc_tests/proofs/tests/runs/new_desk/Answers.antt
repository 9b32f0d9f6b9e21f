use Rattle.rbc_desk.specs.Serial.{new_desk}
use Rattle.rbc_tests.proofs.tests.runs.new_desk.Goals as goal

pub returns : goal.returns
returns c = (new_desk, c.new.ensures.new c.args.track.now)
