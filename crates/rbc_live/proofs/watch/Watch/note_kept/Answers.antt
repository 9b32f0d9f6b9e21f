use Rattle.std.proofs.Common.{rules, ◌≡◌, ℕ, List, Some}
use Rattle.std.specs.Prelude.{slice_get}
use Rattle.rbc_live.specs.declared.alarm.Alarm.{Alarm}
use Rattle.rbc_live.proofs.Following.{one_more_kept}
use Rattle.rbc_live.proofs.watch.Watch.note_kept.Goals as goal

pub loop-index-preserved : goal.loop-index-preserved
loop-index-preserved c =
    let index = c.loop-index.index in
    let one : ℕ × List Alarm = (c.unwrap.result.0.now, c.unwrap.result.1.now) in
    let there : slice_get c.args.self.now index ≡ Some one = search rules in
    one_more_kept c.args.self.now index one c.args.engines.now c.loop-index.engines c.note.new.engines there c.in_ok-note.ensures c.loop-index.invariant
