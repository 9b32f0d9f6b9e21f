use Rattle.std.proofs.Common.{◌≡◌, ◌++◌, map, take}
use Rattle.std.specs.List.{flat_map}
use Rattle.rbc_live.specs.declared.alarm.Change.TheVariants.{Raised}
use Rattle.rbc_live.specs.Alarms.{change_line}
use Rattle.rbc_live.proofs.alarm.push_raised.Given as goal

-- the lines of the alarms so far
abbrev pub invariant-loop-alarm : goal.invariant-loop-alarm
invariant-loop-alarm l = l.text.items ≡ l.fn.text.items ++ flat_map (change_line l.input l.engine) (map Raised (take l.alarm-index l.alarms))
