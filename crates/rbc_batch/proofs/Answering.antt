-- A run from a new desk, and what is written of it.
use Rattle.std.proofs.Common.{◌≡◌, ℕ, ◌≤◌, List, [], ◌++◌, length, take, Option, Result, Ok, Err, refl, sym, ap, ◌∙◌, subst, arith}
use Rattle.std.specs.Prelude.{IsErrAnd}
use Rattle.std.specs.List.{flat_map, enumerate_from}
use Rattle.std.specs.Io.KnownBytes.{Appends, Keeps}
use Rattle.std.proofs.lemmas.List.{take_all}
use Rattle.std.proofs.KnownBytes.{Keeps-refl}
use Rattle.rbc_track.specs.Plan.{Plan}
use Rattle.rbc_rule.specs.declared.input.Input.{Input}
use Rattle.rbc_rule.specs.declared.outcome.Reply.{Reply}
use Rattle.rbc_engine.specs.Mail.{Mail}
use Rattle.rbc_engine.specs.Serial.{serial, new_desk}
use Rattle.rbc_engine.specs.Held.{Held, Holds, standing}
use Rattle.rbc_engine.specs.SaidMails.{AreSaidMails}
use Rattle.rbc_engine.specs.Stats.{Stats}
use Rattle.rbc_engine.specs.declared.workers.RunError.{RunError}
use Rattle.rbc_engine.specs.declared.workers.RunError.TheVariants.{Workers, TooManyInputs, OutOfMemory}
use Rattle.rbc_engine.specs.Answers.{IsRun, MayWork}
use Rattle.rbc_batch.specs.declared.batch.ProcessError.TheVariants as fault
use Rattle.rbc_text.specs.BatchText.{lines_of}
use Rattle.rbc_text.specs.OutputText.{output_of, outbox_lines, result_line}
use Rattle.rbc_batch.specs.declared.batch.ProcessError.{ProcessError}
use Rattle.rbc_batch.specs.Process.{AreFew, AreRead, Answers, AnswersBy, AnswersWithAlarms, AnswersWithDesk, IsBeforeRun, IsRunOf, IsRunWithDesk, IsWatchedRun, AreMailsSaid, AreSaid, text_of, watched_results, watched_text_of}
use Rattle.rbc_batch.proofs.Existing.{have_inputs}
use Rattle.rbc_batch.proofs.ByEngine.{outboxes_ascend}

-- a text of the serial run says what its mails say
said_of : (plan : Plan) (inputs : List Input) (results : List ℕ) → AreMailsSaid plan inputs → AreSaid plan inputs (results ++ flat_map outbox_lines (serial plan new_desk inputs).outboxes)
said_of plan inputs results said = record {
  results = results;
  outboxes = (serial plan new_desk inputs).outboxes;
  lines = refl;
  by_engine = outboxes_ascend plan inputs;
  said = said;
}

said_in : (plan : Plan) (inputs : List Input) → AreMailsSaid plan inputs → AreSaid plan inputs (text_of plan inputs)
said_in plan inputs said = said_of plan inputs (flat_map result_line (enumerate_from 1 (serial plan new_desk inputs).results)) said

-- it came to its end
pub ran : (plan : Plan) (held new : Held) (inputs : List Input) (workers : ℕ) (stats : Stats) → Holds plan (standing held) new_desk
    → IsRun (record { track = plan; opening = held; inputs = inputs }) workers (Ok stats) new → IsRunOf plan inputs workers (Ok (new, stats))
ran plan held new inputs workers stats opening h =
    let all : take (length inputs) inputs ≡ inputs = take_all (length inputs) inputs (omega arith) in
    let is : Holds plan (standing new) (serial plan new_desk inputs) = subst (λ (xs : List Input). Holds plan (standing new) (serial plan new_desk xs)) all (h.2.0.0 new_desk opening) in
    let said = subst (λ (xs : List Input). AreSaidMails plan new_desk xs held.outboxes new.outboxes) all (h.2.0.1 new_desk opening) in
    let said_new = subst (λ (boxes : List (ℕ × List Mail)). AreSaidMails plan new_desk inputs boxes new.outboxes) opening.outboxes said in
    (h.0, h.1.0, is, subst (λ (boxes : List (ℕ × List Mail)). AreSaidMails plan new_desk inputs [] boxes) is.outboxes said_new, (h.2.1, h.2.2))

-- it was refused, or memory was refused
pub ran_not : (plan : Plan) (held new : Held) (inputs : List Input) (workers : ℕ) (error : RunError) → Holds plan (standing held) new_desk
    → IsRun (record { track = plan; opening = held; inputs = inputs }) workers (Err error) new → IsRunOf plan inputs workers (Err error)
ran_not plan held new inputs workers Workers opening h = h.0
ran_not plan held new inputs workers TooManyInputs opening h =
    let none : length held.results ≡ 0 = ap (λ (xs : List Reply). length xs) opening.results in
    (h.0, λ few. h.1 (few, omega (arith, few, none)))
ran_not plan held new inputs workers (OutOfMemory committed) opening h = (h.0, h.1.0, h.2.1)

-- the first bytes of the text are out
pub wrote_part : (plan : Plan) (workers : ℕ) (read_old read_new old new : Option (List ℕ)) (inputs : List Input) (held : Held) (stats : Stats) (text : List ℕ) (sent : ℕ)
    → AreRead read_old read_new inputs → IsRunOf plan inputs workers (Ok (held, stats)) → text ≡ output_of held.results held.outboxes → sent ≤ length text → Appends old new (take sent text)
    → AnswersWithDesk plan workers read_old read_new old new (Err (fault.Write sent))
wrote_part plan workers read_old read_new old new inputs held stats text sent read ran is few out =
    let desk = serial plan new_desk inputs in
    let same : text ≡ text_of plan inputs = is ∙ (ap (λ (xs : List Reply). output_of xs held.outboxes) ran.2.results ∙ ap (λ (boxes : List (ℕ × List Mail)). output_of desk.results boxes) ran.2.outboxes) in
    (inputs, read, ran.0, ran.1, subst (λ (t : List ℕ). sent ≤ length t) same few, subst (λ (t : List ℕ). Appends old new (take sent t)) same out, said_in plan inputs ran.3)

-- all of the text is out
pub wrote_all : (plan : Plan) (workers : ℕ) (read_old read_new old new : Option (List ℕ)) (inputs : List Input) (held : Held) (stats : Stats) (text : List ℕ)
    → AreRead read_old read_new inputs → IsRunOf plan inputs workers (Ok (held, stats)) → text ≡ output_of held.results held.outboxes → Appends old new text
    → AnswersWithDesk plan workers read_old read_new old new (Ok (stats, held))
wrote_all plan workers read_old read_new old new inputs held stats text read ran is out =
    let desk = serial plan new_desk inputs in
    let same : text ≡ text_of plan inputs = is ∙ (ap (λ (xs : List Reply). output_of xs held.outboxes) ran.2.results ∙ ap (λ (boxes : List (ℕ × List Mail)). output_of desk.results boxes) ran.2.outboxes) in
    (inputs, read, ran.0, ran.1, subst (λ (t : List ℕ). Appends old new t) same out, said_in plan inputs ran.3, (ran.4, ran.2.results, ran.2.outboxes))

-- a batch that is refused before its lines are read has inputs all the same
before_run : {E : Type 0} (text : List Input → List ℕ) (Counted : List Input → E → Type 0) (plan : Plan) (workers : ℕ) (read_old read_new old new : Option (List ℕ)) (error : ProcessError)
    → IsBeforeRun workers read_old read_new error → Keeps old new → AnswersBy text Counted plan workers read_old read_new old new (Err error)
before_run text Counted plan workers read_old read_new old new (fault.Run Workers) (batch, all, short, refused) keeps =
    let have = have_inputs (lines_of batch) in
    (have.inputs, record { batch = batch; all = all; short = short; lines = have.are }, refused, keeps)
before_run text Counted plan workers read_old read_new old new (fault.Run TooManyInputs) (batch, all, short, refused) keeps =
    let have = have_inputs (lines_of batch) in
    let many = refused.1 in
    let as_many = have.as_many in
    (have.inputs, record { batch = batch; all = all; short = short; lines = have.are }, refused.0, (λ few. absurd (omega (arith, few, as_many, many))), keeps)
before_run text Counted plan workers read_old read_new old new (fault.Run (OutOfMemory committed)) (batch, all, short, refused) keeps = absurd refused
before_run text Counted plan workers read_old read_new old new (fault.Write sent) h keeps = absurd h
before_run text Counted plan workers read_old read_new old new fault.Read h keeps = keeps
before_run text Counted plan workers read_old read_new old new fault.TooLong h keeps = keeps
before_run text Counted plan workers read_old read_new old new fault.Memory h keeps = keeps

-- it is handed on, and nothing is written
pub handed_on_as : {E : Type 0} (text : List Input → List ℕ) (Counted : List Input → E → Type 0) (plan : Plan) (workers : ℕ) (read_old read_new old : Option (List ℕ)) (result : Result E ProcessError) (error : ProcessError)
    → IsErrAnd result (λ other. other ≡ error) → IsBeforeRun workers read_old read_new error → AnswersBy text Counted plan workers read_old read_new old old result
handed_on_as text Counted plan workers read_old read_new old (Ok counts) error is h = absurd is
handed_on_as text Counted plan workers read_old read_new old (Err other) error is h =
    subst (λ (e : ProcessError). AnswersBy text Counted plan workers read_old read_new old old (Err e)) (sym is) (before_run text Counted plan workers read_old read_new old old error h (Keeps-refl old))

pub handed_on : (plan : Plan) (workers : ℕ) (read_old read_new old : Option (List ℕ)) (result : Result (Stats × Held) ProcessError) (error : ProcessError) → IsErrAnd result (λ other. other ≡ error)
    → IsBeforeRun workers read_old read_new error → AnswersWithDesk plan workers read_old read_new old old result
handed_on plan workers read_old read_new old result error is h = handed_on_as (text_of plan) (IsRunWithDesk plan) plan workers read_old read_new old result error is h

-- a run that ended with an error wrote nothing
pub not_run : (plan : Plan) (workers : ℕ) (read_old read_new old : Option (List ℕ)) (inputs : List Input) (result : Result (Stats × Held) ProcessError) (error : RunError)
    → IsErrAnd result (λ other. other ≡ fault.Run error) → AreRead read_old read_new inputs → IsRunOf plan inputs workers (Err error) → AnswersWithDesk plan workers read_old read_new old old result
not_run plan workers read_old read_new old inputs (Ok counts) error is read h = absurd is
not_run plan workers read_old read_new old inputs (Err other) error is read h =
    subst (λ (e : ProcessError). AnswersWithDesk plan workers read_old read_new old old (Err e)) (sym is) (refused_run plan workers read_old read_new old inputs error read h)
  where
    refused_run : (plan : Plan) (workers : ℕ) (read_old read_new old : Option (List ℕ)) (inputs : List Input) (error : RunError) → AreRead read_old read_new inputs → IsRunOf plan inputs workers (Err error)
        → AnswersWithDesk plan workers read_old read_new old old (Err (fault.Run error))
    refused_run plan workers read_old read_new old inputs Workers read h = (inputs, read, h, Keeps-refl old)
    refused_run plan workers read_old read_new old inputs TooManyInputs read h = (inputs, read, h.0, h.1, Keeps-refl old)
    refused_run plan workers read_old read_new old inputs (OutOfMemory committed) read h = (inputs, read, h.0, h.1, h.2, Keeps-refl old)

-- the counts alone
pub counts_of : (plan : Plan) (workers : ℕ) (read_old read_new old new : Option (List ℕ)) (stats : Stats) (held : Held)
    → AnswersWithDesk plan workers read_old read_new old new (Ok (stats, held)) → Answers plan workers read_old read_new old new (Ok stats)
counts_of plan workers read_old read_new old new stats held (inputs, read, may, few, out, said, run) = (inputs, read, may, few, out, said, run.0)

-- ---- with alarms

module _ (plan : Plan) (workers : ℕ) (read_old read_new old new : Option (List ℕ)) (inputs : List Input) (held : Held) (results text : List ℕ)
    (read : AreRead read_old read_new inputs) (may : MayWork workers) (few : AreFew inputs) (ran : IsWatchedRun plan inputs held results) (is : text ≡ results ++ flat_map outbox_lines held.outboxes) where
  same_watched : text ≡ watched_text_of plan inputs
  same_watched = is ∙ ap (λ (front : List ℕ). front ++ flat_map outbox_lines held.outboxes) ran.spelled
      ∙ ap (λ (boxes : List (ℕ × List Mail)). watched_results plan new_desk inputs ++ flat_map outbox_lines boxes) ran.holds.outboxes

  pub wrote_watched_part : (sent : ℕ) → sent ≤ length text → Appends old new (take sent text) → AnswersWithAlarms plan workers read_old read_new old new (Err (fault.Write sent))
  wrote_watched_part sent short out =
      (inputs, read, may, few, subst (λ (t : List ℕ). sent ≤ length t) same_watched short, subst (λ (t : List ℕ). Appends old new (take sent t)) same_watched out, said_of plan inputs (watched_results plan new_desk inputs) ran.said)

  pub wrote_watched : (done : Unit {0}) → Appends old new text → AnswersWithAlarms plan workers read_old read_new old new (Ok done)
  wrote_watched done out = (inputs, read, may, few, subst (λ (t : List ℕ). Appends old new t) same_watched out, said_of plan inputs (watched_results plan new_desk inputs) ran.said, tt)
