use Rattle.std.proofs.Common.{rules, ◌≡◌, ◌≤◌, length, take, List, Ok, subst}
use Rattle.std.specs.Io.KnownBytes.{Appends}
use Rattle.rbc_rule.specs.declared.input.Input.{Input}
use Rattle.rbc_text.specs.OutputText.{output_of}
use Rattle.rbc_batch.specs.Parts.{joined}
use Rattle.rbc_batch.specs.Process.{AreRead, IsRunOf}
use Rattle.rbc_batch.proofs.Answering.{handed_on, wrote_all, wrote_part}
use Rattle.rbc_batch.specs.declared.batch.ProcessError.TheVariants.{Memory}
use Rattle.rbc_batch.proofs.batch.process_with_desk.Goals as goal

-- the batch was not read, or is refused before its lines are
pub returns-in_err-inputs-clause-answers : goal.returns-in_err-inputs-clause-answers
returns-in_err-inputs-clause-answers g c =
    handed_on c.args.track.now c.args.workers _ _ (g.W.Write.contents c.args.writer.now) c.from_residual.result _ c.from_residual.ensures.1 c.in_err-inputs.ensures.before

-- all of the text is out
pub returns-in-Ok-clause-answers : goal.returns-in-Ok-clause-answers
returns-in-Ok-clause-answers g c =
    let inputs = c.in_ok-inputs.inputs.items in
    let held = c.in_ok-desk.desk in
    let text = joined c.in_ok-texts.texts.items in
    let read : AreRead (g.R.Read.remaining c.args.reader.now) (g.R.Read.remaining c.read_inputs.new.reader) inputs = c.in_ok-inputs.ensures.read in
    let ran : IsRunOf c.args.track.now inputs c.args.workers (Ok (held, c.in_ok-desk.stats)) = subst (λ (xs : List Input). IsRunOf c.args.track.now xs c.args.workers (Ok (held, c.in_ok-desk.stats))) c.deref.ensures.value c.in_ok-desk.ensures in
    let is : text ≡ output_of held.results held.outboxes = search rules in
    let out : Appends (g.W.Write.contents c.args.writer.now) (g.W.Write.contents c.write_texts.new.writer) text = search rules in
    wrote_all c.args.track.now c.args.workers _ _ _ _ inputs held c.in_ok-desk.stats text read ran is out

-- the writer failed
pub returns-in-Err-clause-answers : goal.returns-in-Err-clause-answers
returns-in-Err-clause-answers g c =
    let inputs = c.in_ok-inputs.inputs.items in
    let held = c.in_ok-desk.desk in
    let text = joined c.in_ok-texts.texts.items in
    let read : AreRead (g.R.Read.remaining c.args.reader.now) (g.R.Read.remaining c.read_inputs.new.reader) inputs = c.in_ok-inputs.ensures.read in
    let ran : IsRunOf c.args.track.now inputs c.args.workers (Ok (held, c.in_ok-desk.stats)) = subst (λ (xs : List Input). IsRunOf c.args.track.now xs c.args.workers (Ok (held, c.in_ok-desk.stats))) c.deref.ensures.value c.in_ok-desk.ensures in
    let is : text ≡ output_of held.results held.outboxes = search rules in
    let few : c.in-Err.sent ≤ length text = search rules in
    let out : Appends (g.W.Write.contents c.args.writer.now) (g.W.Write.contents c.write_texts.new.writer) (take c.in-Err.sent text) = search rules in
    wrote_part c.args.track.now c.args.workers _ _ _ _ inputs held c.in_ok-desk.stats text c.in-Err.sent read ran is few out

-- there was no memory for the texts
pub returns-in_err-texts-clause-answers : goal.returns-in_err-texts-clause-answers
returns-in_err-texts-clause-answers g c =
    handed_on c.args.track.now c.args.workers _ _ (g.W.Write.contents c.args.writer.now) c.from_residual-in_err-texts.result Memory c.from_residual-in_err-texts.ensures.1 tt
