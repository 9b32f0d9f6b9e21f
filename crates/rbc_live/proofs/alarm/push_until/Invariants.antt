use Rattle.std.proofs.Common.{◌≡◌, ◌++◌, List, length}
use Rattle.std.specs.List.{flat_map}
use Rattle.rbc_live.specs.declared.alarm.Alarm.{Alarm}
use Rattle.rbc_live.specs.declared.alarm.Change.{Change}
use Rattle.rbc_live.specs.Alarms.{and_then, change_line}
use Rattle.rbc_live.proofs.alarm.push_until.Given as goal

-- what was raised, with what becomes of the alarm among those that are left, is all
abbrev pub invariant-loop-first : goal.invariant-loop-first
invariant-loop-first l = (later : List Alarm → List Change) → l.text.items ++ flat_map (change_line l.input l.engine) (and_then l.stood later l.left)
    ≡ l.fn.text.items ++ flat_map (change_line l.input l.engine) (and_then l.stood later l.now)

abbrev pub decreases-loop-first : goal.decreases-loop-first
decreases-loop-first l = length l.left
