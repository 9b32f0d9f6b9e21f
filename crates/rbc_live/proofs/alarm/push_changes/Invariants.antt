use Rattle.std.proofs.Common.{◌≡◌, ◌++◌, drop}
use Rattle.std.specs.List.{flat_map}
use Rattle.rbc_live.specs.Alarms.{change_line, changes}
use Rattle.rbc_live.proofs.alarm.push_changes.Given as goal

-- what was written, with what becomes of the alarms that are left, is all
abbrev pub invariant-loop-stood : goal.invariant-loop-stood
invariant-loop-stood l = l.text.items ++ flat_map (change_line l.input l.engine) (changes (drop l.stood-index l.old) l.left)
    ≡ l.fn.text.items ++ flat_map (change_line l.input l.engine) (changes l.old l.new)
