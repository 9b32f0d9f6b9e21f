use Rattle.std.proofs.Common.{◌≡◌, ◌∙◌, ◌+◌, List, ℕ, length, take, ap, subst, arith}
use Rattle.std.proofs.lemmas.List.{take_all}
use Rattle.rbc_rule.specs.declared.input.Input.{Input}
use Rattle.rbc_rule.specs.declared.outcome.Reply.{Reply}
use Rattle.rbc_engine.specs.Held.{Holds, standing}
use Rattle.rbc_engine.specs.Serial.{new_desk, serial}
use Rattle.rbc_live.specs.declared.alarm.Alarm.{Alarm}
use Rattle.rbc_live.specs.Watching.{seen_in}
use Rattle.rbc_live.proofs.Runs.{no_records}
use Rattle.rbc_batch.specs.Process.{watched_results}
use Rattle.rbc_batch.proofs.Watched.{held_more, opens, results_more}
use Rattle.rbc_batch.proofs.alarms.run_watched.Goals as goal

pub loop-input-init : goal.loop-input-init
loop-input-init c =
    let track = c.args.track.now in
    let new = c.new-desk.ensures.new track in
    record {
      holds = new;
      watch = λ engine. ap (λ (seen : List (ℕ × List Alarm)). seen_in seen engine) c.new-watch.ensures ∙ opens track c.new-desk.result.records new.world engine;
      results = c.new-results.ensures.items;
      count = ap (λ (results : List Reply). length results) new.results;
    }

pub loop-input-preserved : goal.loop-input-preserved
loop-input-preserved c =
    let track = c.args.track.now in
    let inputs = c.args.inputs.now in
    let index = c.loop-input.input-index in
    let input = c.input-item.result in
    let before = serial track new_desk (take index inputs) in
    let was = c.loop-input.invariant in
    let done = c.in_ok-take_watched.ensures in
    record {
      holds = held_more track inputs index input c.loop-input-test.true c.input-item.is (standing c.take_watched.new.desk) (done.taken before was.holds);
      watch = done.watched before was.holds was.watch;
      results = results_more track inputs index input c.loop-input-test.true c.input-item.is c.loop-input.results.items c.take_watched.new.text.items (done.written before was.holds was.watch) was.results;
      count = done.counted ∙ ap (λ n. n + 1) was.count;
    }

pub returns : goal.returns
returns c =
    let track = c.args.track.now in
    let inputs = c.args.inputs.now in
    let was = c.loop-input.invariant in
    let all : take c.loop-input.input-index inputs ≡ inputs = take_all c.loop-input.input-index inputs (omega arith) in
    record {
      holds = subst (λ (xs : List Input). Holds track (standing c.loop-input.desk) (serial track new_desk xs)) all was.holds;
      said = c.mails_law.ensures track new_desk inputs c.is_plan.ensures (no_records track).well_formed c.requires.fit;
      spelled = was.results ∙ ap (watched_results track new_desk) all;
    }
