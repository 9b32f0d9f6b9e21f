use Rattle.std.proofs.Common.{rules, ◌≡◌, ◌≤◌, length, take, List, Ok, Err, subst}
use Rattle.std.specs.Io.KnownBytes.{Appends}
use Rattle.rbc_rule.specs.declared.input.Input.{Input}
use Rattle.rbc_engine.specs.Answers.{IsRun}
use Rattle.rbc_engine.specs.Serial.{new_desk}
use Rattle.rbc_text.specs.OutputText.{output_of}
use Rattle.rbc_batch.specs.Parts.{joined}
use Rattle.rbc_batch.specs.Process.{AreRead}
use Rattle.rbc_batch.proofs.Answering.{handed_on, not_run, ran, ran_not, wrote_all, wrote_part}
use Rattle.rbc_batch.proofs.batch.process_by_train.Goals as goal

-- the batch was not read, or is refused before its lines are
pub returns-in_err-inputs-clause-answers : goal.returns-in_err-inputs-clause-answers
returns-in_err-inputs-clause-answers g c =
    handed_on c.args.track.now c.args.workers _ _ (g.W.Write.contents c.args.writer.now) c.from_residual.result _ c.from_residual.ensures.1 c.in_err-inputs.ensures.before

-- a new desk can be gone on from
pub run_by_train-requires-clause-opening : goal.run_by_train-requires-clause-opening
run_by_train-requires-clause-opening g c κs within = (new_desk, c.new-desk.ensures.new c.args.track.now)

-- the run was refused, or memory was refused to it
pub returns-in_err-stats-clause-answers : goal.returns-in_err-stats-clause-answers
returns-in_err-stats-clause-answers g c =
    let error = c.in_err-stats.field-0.0 in
    let run = subst (λ (xs : List Input). IsRun (record { track = c.args.track.now; opening = c.new-desk.result; inputs = xs }) c.args.workers (Err error) c.run_by_train.new.desk) c.deref.ensures.value c.in_err-stats.ensures.run in
    let not = ran_not c.args.track.now c.new-desk.result c.run_by_train.new.desk c.in_ok-inputs.inputs.items c.args.workers error (c.new-desk.ensures.new c.args.track.now) run in
    not_run c.args.track.now c.args.workers _ _ (g.W.Write.contents c.args.writer.now) c.in_ok-inputs.inputs.items c.from_residual-in_err-stats.result error c.from_residual-in_err-stats.ensures.1 c.in_ok-inputs.ensures.read not

-- all of the text is out
pub returns-in-Ok-clause-answers : goal.returns-in-Ok-clause-answers
returns-in-Ok-clause-answers g c =
    let inputs = c.in_ok-inputs.inputs.items in
    let held = c.run_by_train.new.desk in
    let stats = c.in_ok-stats.stats in
    let text = joined c.in_ok-texts.texts.items in
    let read : AreRead (g.R.Read.remaining c.args.reader.now) (g.R.Read.remaining c.read_inputs.new.reader) inputs = c.in_ok-inputs.ensures.read in
    let run = subst (λ (xs : List Input). IsRun (record { track = c.args.track.now; opening = c.new-desk.result; inputs = xs }) c.args.workers (Ok stats) held) c.deref.ensures.value c.in_ok-stats.ensures.run in
    let done = ran c.args.track.now c.new-desk.result held inputs c.args.workers stats (c.new-desk.ensures.new c.args.track.now) run in
    let is : text ≡ output_of held.results held.outboxes = search rules in
    let out : Appends (g.W.Write.contents c.args.writer.now) (g.W.Write.contents c.write_texts.new.writer) text = search rules in
    wrote_all c.args.track.now c.args.workers _ _ _ _ inputs held stats text read done is out

-- the writer failed
pub returns-in-Err-clause-answers : goal.returns-in-Err-clause-answers
returns-in-Err-clause-answers g c =
    let inputs = c.in_ok-inputs.inputs.items in
    let held = c.run_by_train.new.desk in
    let stats = c.in_ok-stats.stats in
    let text = joined c.in_ok-texts.texts.items in
    let read : AreRead (g.R.Read.remaining c.args.reader.now) (g.R.Read.remaining c.read_inputs.new.reader) inputs = c.in_ok-inputs.ensures.read in
    let run = subst (λ (xs : List Input). IsRun (record { track = c.args.track.now; opening = c.new-desk.result; inputs = xs }) c.args.workers (Ok stats) held) c.deref.ensures.value c.in_ok-stats.ensures.run in
    let done = ran c.args.track.now c.new-desk.result held inputs c.args.workers stats (c.new-desk.ensures.new c.args.track.now) run in
    let is : text ≡ output_of held.results held.outboxes = search rules in
    let few : c.in-Err.sent ≤ length text = search rules in
    let out : Appends (g.W.Write.contents c.args.writer.now) (g.W.Write.contents c.write_texts.new.writer) (take c.in-Err.sent text) = search rules in
    wrote_part c.args.track.now c.args.workers _ _ _ _ inputs held stats text c.in-Err.sent read done is few out
