use Rattle.std.proofs.Common.{Bool, take}
use Rattle.rbc_records.specs.declared.record.Rec.{Rec}
use Rattle.rbc_records.specs.Columns.{ArePassing, Tells}
use Rattle.rbc_records.proofs.search.add_passing.Given as goal

-- whatever the test is, the engines are those of the entries so far
abbrev pub invariant-loop-index : goal.invariant-loop-index
invariant-loop-index g l =
    (test : Rec → Bool) → Tells (goal.F-post g l.passes) test l.entries.entries
    → ArePassing test (take l.begin l.entries.entries) l.initial.found → ArePassing test (take l.index l.entries.entries) l.found
