use Rattle.std.proofs.Common.{◌≡◌, length, take}
use Rattle.rbc_engine.specs.Held.{Holds, standing}
use Rattle.rbc_engine.specs.Serial.{new_desk, serial}
use Rattle.rbc_live.specs.Watching.{IsWatch}
use Rattle.rbc_batch.specs.Process.{watched_results}
use Rattle.rbc_batch.proofs.alarms.run_watched.Given as goal

-- the desk, the watch and the results are those after the inputs so far
abbrev pub invariant-loop-input : goal.invariant-loop-input
invariant-loop-input l = record {
  holds : Holds l.track (standing l.desk) (serial l.track new_desk (take l.input-index l.inputs));
  watch : IsWatch l.track.horizon l.desk.records l.watch;
  results : l.results.items ≡ watched_results l.track new_desk (take l.input-index l.inputs);
  count : length l.desk.results ≡ l.input-index;
}
