use Rattle.std.proofs.Common.{◌≡◌, ℕ, ◌+◌, ◌<◌, List, length, take, slice_get, Some, subst, sym, ◌∙◌, arith}
use Rattle.rbc_records.specs.declared.record.Key.{Key}
use Rattle.rbc_records.specs.declared.record.Rec.{Rec}
use Rattle.rbc_records.specs.Columns.{ArePassing}
use Rattle.rbc_records.proofs.Passing.{passed_by, added}
use Rattle.rbc_records.proofs.search.add_passing.Goals as goal
use Rattle.rbc_records.proofs.search.add_passing.Goals.{else-passes-via-then-passes+in_ok-add_train+else-not-branch, else-passes-via-else-passes}

pub loop-index-init : goal.loop-index-init
loop-index-init g c test tells passing = passing

pub loop-index-preserved : goal.loop-index-preserved
loop-index-preserved g c test tells passing =
    let entries = c.args.entries.now.entries in
    let within : c.loop-index.index < length entries = omega (arith, c.loop-index-test.true, c.requires.within) in
    let before = c.loop-index.invariant test tells passing in
    let says : (entry : Key × Rec) → slice_get entries c.loop-index.index ≡ Some entry → test entry.1 ≡ c.passes.result =
    λ entry at. sym (tells c.loop-index.index c.passes.result entry c.passes.ensures at) in
    elim c.else-passes.branch [
      | else-passes-via-then-passes+in_ok-add_train+else-not-branch w ↦
          subst (λ (found : List ℕ). ArePassing test (take (c.loop-index.index + 1) entries) found) (sym w.found-is)
          (added test entries c.loop-index.index within c.loop-index.found w.add_train.new.found (λ entry at. says entry at ∙ w.if-passes.true) (w.in_ok-add_train.ensures w.if-not-branch.false) before)
      | else-passes-via-else-passes w ↦
          subst (λ (found : List ℕ). ArePassing test (take (c.loop-index.index + 1) entries) found) (sym w.found-is)
          (passed_by test entries c.loop-index.index within c.loop-index.found (λ entry at. says entry at ∙ w.if-passes.false) before)
    ]

pub returns : goal.returns
returns g c test tells fits passing =
    let same : c.loop-index.index ≡ c.args.end = omega (arith, c.loop-index-test.false, c.loop-index.auto.index-end c.requires.order) in
    subst (λ (k : ℕ). ArePassing test (take k c.args.entries.now.entries) c.loop-index.found) same (c.loop-index.invariant test tells passing)
