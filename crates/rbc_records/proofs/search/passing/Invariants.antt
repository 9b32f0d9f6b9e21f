use Rattle.std.proofs.Common.{◌≤◌, ◌-◌, Bool, length, take}
use Rattle.rbc_records.specs.declared.record.Rec.{Rec}
use Rattle.rbc_records.specs.Columns.{ArePassing, Denies, Tells}
use Rattle.rbc_records.proofs.search.passing.Given as goal

-- whatever the test is, the engines are those of the entries so far
abbrev pub invariant-loop-begin : goal.invariant-loop-begin
invariant-loop-begin g l =
    (l.begin ≤ length l.entries.entries)
    × ((test : Rec → Bool) → Denies (goal.M-post g l.may_pass) test l.entries.entries → Tells (goal.F-post g l.passes) test l.entries.entries → ArePassing test (take l.begin l.entries.entries) l.found)

abbrev pub decreases-loop-begin : goal.decreases-loop-begin
decreases-loop-begin g l = length l.entries.entries - l.begin
