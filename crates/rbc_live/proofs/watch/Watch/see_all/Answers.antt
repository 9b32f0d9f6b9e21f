use Rattle.std.proofs.Common.{◌≡◌, ◌∙◌, ◌++◌, List, Bor, get_or, sym, ap}
use Rattle.rbc_settle.specs.Numbers.{AreNumbers}
use Rattle.rbc_live.specs.declared.alarm.Alarm.{Alarm}
use Rattle.rbc_live.specs.Alarms.{engine_lines}
use Rattle.rbc_live.specs.Watching.{or_none, seen_in, seen_of}
use Rattle.rbc_live.proofs.Following.{one_more_lines, seen_first, seen_next}
use Rattle.rbc_live.proofs.watch.Watch.see_all.Goals as goal
use Rattle.rbc_live.proofs.watch.Watch.see_all.Goals.{in-Some, in-None}

pub loop-engine-preserved : goal.loop-engine-preserved
loop-engine-preserved c =
    let horizon = c.args.horizon in
    let records = c.args.records.now in
    let seen = seen_in c.args.self.now in
    let engines = c.args.engines.now in
    let index = c.loop-engine.engine-index in
    let engine = get_or engines index 0 in
    let within = c.loop-engine-test.true in
    let ascending : AreNumbers engines = c.requires in
    let before : c.alarms_of.result.now ≡ or_none (seen engine) =
    c.alarms_of.ensures ∙ ap or_none (c.loop-engine.invariant.seen engine ∙ seen_first horizon records seen engines index 0 ascending within) in
    let after : c.match-alarms.new.now ≡ or_none (seen_of horizon records engine) = elim c.match-alarms.branch [
      | in-Some w ↦ ap (λ (b : Bor (List Alarm)). b.now) w.new-is ∙ w.as_slice-new.ensures ∙ ap or_none (sym w.in-Some.is ∙ c.in_ok-alarms.ensures)
      | in-None w ↦ ap (λ (b : Bor (List Alarm)). b.now) w.new-is ∙ ap or_none (sym w.in-None.is ∙ c.in_ok-alarms.ensures)
    ] in
    record {
      lines = one_more_lines horizon records seen engines index 0 ascending within c.args.input (seen_of horizon records) c.loop-engine.text.items c.push_changes.new.text.items c.loop-engine.invariant.lines
          (c.in_ok-push_changes.ensures ∙ ap (λ (old : List Alarm). c.loop-engine.text.items ++ engine_lines c.args.input engine old c.match-alarms.new.now) before
          ∙ ap (λ (new : List Alarm). c.loop-engine.text.items ++ engine_lines c.args.input engine (or_none (seen engine)) new) after);
      seen = seen_next horizon records seen engines index 0 ascending within (seen_in c.loop-engine.self) (seen_in c.keep.new.self) c.in_ok-alarms.alarms c.in_ok-alarms.ensures c.loop-engine.invariant.seen c.in_ok-keep.ensures;
    }
