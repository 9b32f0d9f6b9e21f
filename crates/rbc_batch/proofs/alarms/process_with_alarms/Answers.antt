use Rattle.std.proofs.Common.{rules, ◌≡◌, ◌≤◌, ◌++◌, length, take, List, subst}
use Rattle.std.specs.Io.KnownBytes.{Appends}
use Rattle.std.specs.List.{flat_map}
use Rattle.rbc_rule.specs.declared.input.Input.{Input}
use Rattle.rbc_text.specs.OutputText.{outbox_lines}
use Rattle.rbc_batch.specs.Parts.{joined}
use Rattle.rbc_batch.specs.Process.{AreRead, IsUncounted, IsWatchedRun, watched_text_of}
use Rattle.rbc_batch.proofs.Answering.{handed_on_as, wrote_watched, wrote_watched_part}
use Rattle.rbc_batch.specs.declared.batch.ProcessError.TheVariants.{Memory}
use Rattle.rbc_batch.proofs.alarms.process_with_alarms.Goals as goal

-- the batch was not read, or is refused before its lines are
pub returns-in_err-inputs-clause-answers : goal.returns-in_err-inputs-clause-answers
returns-in_err-inputs-clause-answers g c =
    handed_on_as (watched_text_of c.args.track.now) IsUncounted c.args.track.now c.args.workers _ _ (g.W.Write.contents c.args.writer.now) c.from_residual.result _ c.from_residual.ensures.1 c.in_err-inputs.ensures.before

-- all of the text is out
pub returns-in-Ok-clause-answers : goal.returns-in-Ok-clause-answers
returns-in-Ok-clause-answers g c =
    let inputs = c.in_ok-inputs.inputs.items in
    let held = c.in_ok-desk.desk in
    let text = joined c.in_ok-texts.texts.items in
    let read : AreRead (g.R.Read.remaining c.args.reader.now) (g.R.Read.remaining c.read_inputs.new.reader) inputs = c.in_ok-inputs.ensures.read in
    let ran : IsWatchedRun c.args.track.now inputs held c.in_ok-desk.results.items = subst (λ (xs : List Input). IsWatchedRun c.args.track.now xs held c.in_ok-desk.results.items) c.deref.ensures.value c.in_ok-desk.ensures in
    let is : text ≡ c.in_ok-desk.results.items ++ flat_map outbox_lines held.outboxes = search rules in
    let out : Appends (g.W.Write.contents c.args.writer.now) (g.W.Write.contents c.write_texts.new.writer) text = search rules in
    wrote_watched c.args.track.now c.args.workers _ _ _ _ inputs held c.in_ok-desk.results.items text read c.in_ok-inputs.ensures.may_work c.in_ok-inputs.ensures.few ran is (record {}) out

-- the writer failed
pub returns-clause-answers : goal.returns-clause-answers
returns-clause-answers g c =
    let inputs = c.in_ok-inputs.inputs.items in
    let held = c.in_ok-desk.desk in
    let text = joined c.in_ok-texts.texts.items in
    let read : AreRead (g.R.Read.remaining c.args.reader.now) (g.R.Read.remaining c.read_inputs.new.reader) inputs = c.in_ok-inputs.ensures.read in
    let ran : IsWatchedRun c.args.track.now inputs held c.in_ok-desk.results.items = subst (λ (xs : List Input). IsWatchedRun c.args.track.now xs held c.in_ok-desk.results.items) c.deref.ensures.value c.in_ok-desk.ensures in
    let is : text ≡ c.in_ok-desk.results.items ++ flat_map outbox_lines held.outboxes = search rules in
    let few : c.in-Err.sent ≤ length text = search rules in
    let out : Appends (g.W.Write.contents c.args.writer.now) (g.W.Write.contents c.write_texts.new.writer) (take c.in-Err.sent text) = search rules in
    wrote_watched_part c.args.track.now c.args.workers _ _ _ _ inputs held c.in_ok-desk.results.items text read c.in_ok-inputs.ensures.may_work c.in_ok-inputs.ensures.few ran is c.in-Err.sent few out

-- there was no memory for the texts
pub returns-in_err-texts-clause-answers : goal.returns-in_err-texts-clause-answers
returns-in_err-texts-clause-answers g c =
    handed_on_as (watched_text_of c.args.track.now) IsUncounted c.args.track.now c.args.workers _ _ (g.W.Write.contents c.args.writer.now) c.from_residual-in_err-texts.result Memory
    c.from_residual-in_err-texts.ensures.1 tt
