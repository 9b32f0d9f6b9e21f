use Rattle.std.proofs.Common.{◌≡◌, ◌++◌, ◌-◌, drop, take}
use Rattle.std.specs.List.{flat_map}
use Rattle.rbc_text.specs.OutputText.{outbox_lines}
use Rattle.rbc_text.proofs.output.push_outboxes.Given as goal

-- what is written, and the lines of what is left of the range, are all lines of the range
abbrev pub invariant-loop-index : goal.invariant-loop-index
invariant-loop-index l =
    l.text.items ++ flat_map outbox_lines (take (l.to - l.index) (drop l.index l.desk.outboxes))
    ≡ l.fn.text.items ++ flat_map outbox_lines (take (l.to - l.from) (drop l.from l.desk.outboxes))
