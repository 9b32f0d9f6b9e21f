use Rattle.std.proofs.Common.{rules}
use Rattle.rbc_desk.specs.Serial as serial
use Rattle.rbc_tests.proofs.tests.calls.run.Goals as goal

pub make_calls-requires-clause-good : goal.make_calls-requires-clause-good
make_calls-requires-clause-good g c = record {
  track = c.good_track-track.ensures;
  desk = serial.new_desk;
  holds = c.new-desk.ensures.new c.good_track-track.result;
  in_order = c.new-desk.ensures.in_order.0;
  fit = search rules;
  few = search rules;
}
