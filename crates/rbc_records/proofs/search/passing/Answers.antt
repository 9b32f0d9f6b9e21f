use Rattle.std.proofs.Common.{ℕ, ◌+◌, ◌≤◌, Bool, List, length, take, subst, sym, arith}
use Rattle.rbc_records.specs.declared.record.Rec.{Rec}
use Rattle.rbc_records.specs.Columns.{Denies, Tells, ArePassing}
use Rattle.rbc_records.proofs.Passing.{skipped}
use Rattle.rbc_records.proofs.search.passing.Goals as goal
use Rattle.rbc_records.proofs.search.passing.Goals.{else-may_pass-via-then-may_pass+in_ok-add_passing+else-not-branch, else-may_pass-via-else-may_pass}

pub loop-begin-preserved : goal.loop-begin-preserved
loop-begin-preserved g c =
    let entries = c.args.entries.now.entries in
    let begin = c.loop-begin.begin in
    let end = begin + c.min.result in
    let order : begin ≤ end = omega arith in
    let within : end ≤ length entries = omega (arith, c.min.ensures, c.len-in-loop-begin.ensures.len, c.loop-begin.invariant.0) in
    let engines : (test : Rec → Bool) → Denies (λ from to answer. g.M.Fn.post c.args.may_pass (from, (to, tt)) answer) test entries → Tells (λ index answer. g.F.Fn.post c.args.passes (index, tt) answer) test entries → ArePassing test (take end entries) c.else-may_pass.found =
    λ test denies tells. let before = c.loop-begin.invariant.1 test denies tells in
    elim c.else-may_pass.branch [
      | else-may_pass-via-then-may_pass+in_ok-add_passing+else-not-branch w ↦
          subst (λ (found : List ℕ). ArePassing test (take end entries) found) (sym w.found-is) (w.in_ok-add_passing.ensures test tells w.if-not-branch.false before)
      | else-may_pass-via-else-may_pass w ↦
          subst (λ (found : List ℕ). ArePassing test (take end entries) found) (sym w.found-is)
          (skipped test entries c.loop-begin.found begin end order within (λ index entry from below at. denies begin end index entry (subst (λ b. g.M.Fn.post c.args.may_pass (begin, (end, tt)) b) w.if-may_pass.false c.may_pass.ensures) from below at) before)
    ] in
    (within, engines)
