-- What is out after a batch.
use Rattle.std.specs.Prelude.{◌≡◌, ◌<◌, ◌≤◌, ◌+◌, ℕ, List, [], ◌∷◌, Option, Result, Ok, Err, ◌++◌, codes, take, length, ⊤}
use Rattle.std.specs.Fmt.{decimal}
use Rattle.std.specs.List.{flat_map}
use Rattle.std.specs.Io.KnownBytes.{Appends, Keeps}
use Rattle.rbc_track.specs.Plan.{Plan}
use Rattle.rbc_batch.specs.declared.batch.ProcessError.{ProcessError}
use Rattle.rbc_batch.specs.declared.batch.ProcessError.TheVariants as fault
use Rattle.rbc_rule.specs.declared.input.Input.{Input}
use Rattle.rbc_text.specs.BatchText.{lines_of, AreInputsOf}
use Rattle.rbc_engine.specs.Stats.{Stats}
use Rattle.rbc_engine.specs.Serial.{Desk, step, serial, new_desk}
use Rattle.rbc_maps.specs.Maps.{IsMap}
use Rattle.rbc_rule.specs.Step as rule
use Rattle.rbc_engine.specs.Mail.{Mail}
use Rattle.rbc_engine.specs.Held.{Held, Holds, standing}
use Rattle.rbc_engine.specs.SaidMails.{AreSaidMails}
use Rattle.rbc_engine.specs.declared.workers.RunError.{RunError}
use Rattle.rbc_engine.specs.declared.workers.RunError.TheVariants.{Workers, TooManyInputs, OutOfMemory}
use Rattle.rbc_engine.specs.Answers.{MayWork, max_inputs, fault_text as run_fault_text}
use Rattle.rbc_text.specs.OutputText.{output_of, outbox_lines, result_line}
use Rattle.rbc_live.specs.Alarms.{alarm_lines}
pub use Rattle.rbc_text.specs.Streams.{IsAllRead}

-- the most bytes of a batch
abbrev pub max_batch : ℕ
max_batch = 16777216

-- the output text of the serial run, from a new desk, of inputs
abbrev pub text_of : Plan → List Input → List ℕ
text_of plan inputs = let desk = serial plan new_desk inputs in output_of desk.results desk.outboxes

-- these are the inputs of all that the reader had left, which is no longer than a batch may be
pub record AreRead (old new : Option (List ℕ)) (inputs : List Input) : Type 0 where
  pub batch : List ℕ
  pub all : IsAllRead old new batch
  pub short : length batch ≤ max_batch
  pub lines : AreInputsOf batch inputs

-- each message of the serial run, from a new desk, says what the rules give its train
abbrev pub AreMailsSaid : Plan → List Input → Type 0
AreMailsSaid plan inputs = AreSaidMails plan new_desk inputs [] (serial plan new_desk inputs).outboxes

-- A text is lines of results, and then the lines `ENGINE INPUT HEX` of mails, by engine. The mails to each engine are those that the rules
-- give it for the inputs: each spells a message that reads back as itself and says what the rules give the train of ENGINE after the input
-- with the number INPUT.
pub record AreSaid (plan : Plan) (inputs : List Input) (text : List ℕ) : Type 0 where
  pub results : List ℕ
  pub outboxes : List (ℕ × List Mail)
  pub lines : text ≡ results ++ flat_map outbox_lines outboxes
  pub by_engine : IsMap outboxes
  pub said : AreSaidMails plan new_desk inputs [] outboxes

-- the inputs of a batch are not too many for one run
abbrev pub AreFew : List Input → Type 0
AreFew inputs = length inputs ≤ max_inputs

-- every input was taken, and no more were recomputed
abbrev pub IsCounted : List Input → Stats → Type 0
IsCounted inputs stats = (stats.taken ≡ length inputs) × (stats.recomputed ≤ stats.taken)

-- a run of inputs from a new desk: the desk after it, and its counts; or why there is none
abbrev pub IsRunOf : Plan → List Input → ℕ → Result (Held × Stats) RunError → Type 0
IsRunOf plan inputs workers (Ok (held, stats)) = MayWork workers × AreFew inputs × Holds plan (standing held) (serial plan new_desk inputs) × AreMailsSaid plan inputs × IsCounted inputs stats
IsRunOf plan inputs workers (Err Workers) = ¬ (MayWork workers)
IsRunOf plan inputs workers (Err TooManyInputs) = MayWork workers × ¬ (AreFew inputs)
IsRunOf plan inputs workers (Err (OutOfMemory committed)) = MayWork workers × AreFew inputs × (committed ≤ length inputs)

-- What was written, for a text that is made of the inputs. At Ok the text of all that was read, and nothing else; at a
-- write fault exactly its first bytes; at any other fault nothing. The number of workers is checked first, then the
-- number of inputs.
abbrev pub AnswersBy : {E : Type 0} → (List Input → List ℕ) → (List Input → E → Type 0) → Plan → ℕ → Option (List ℕ) → Option (List ℕ) → Option (List ℕ) → Option (List ℕ) → Result E ProcessError → Type 0
AnswersBy text Counted plan workers read_old read_new old new (Ok counts) =
    (inputs : List Input) × AreRead read_old read_new inputs × MayWork workers × AreFew inputs × Appends old new (text inputs) × AreSaid plan inputs (text inputs) × Counted inputs counts
AnswersBy text Counted plan workers read_old read_new old new (Err (fault.Write sent)) =
    (inputs : List Input) × AreRead read_old read_new inputs × MayWork workers × AreFew inputs × (sent ≤ length (text inputs)) × Appends old new (take sent (text inputs)) × AreSaid plan inputs (text inputs)
AnswersBy text Counted plan workers read_old read_new old new (Err (fault.Run Workers)) = (inputs : List Input) × AreRead read_old read_new inputs × ¬ (MayWork workers) × Keeps old new
AnswersBy text Counted plan workers read_old read_new old new (Err (fault.Run TooManyInputs)) =
    (inputs : List Input) × AreRead read_old read_new inputs × MayWork workers × ¬ (AreFew inputs) × Keeps old new
AnswersBy text Counted plan workers read_old read_new old new (Err (fault.Run (OutOfMemory committed))) =
    (inputs : List Input) × AreRead read_old read_new inputs × MayWork workers × AreFew inputs × (committed ≤ length inputs) × Keeps old new
AnswersBy text Counted plan workers read_old read_new old new (Err fault.Read) = Keeps old new
AnswersBy text Counted plan workers read_old read_new old new (Err fault.TooLong) = Keeps old new
AnswersBy text Counted plan workers read_old read_new old new (Err fault.Memory) = Keeps old new

-- the output text is out
abbrev pub Answers : Plan → ℕ → Option (List ℕ) → Option (List ℕ) → Option (List ℕ) → Option (List ℕ) → Result Stats ProcessError → Type 0
Answers plan workers read_old read_new old new result = AnswersBy (text_of plan) IsCounted plan workers read_old read_new old new result

-- a run's counts, with a desk that has the results and the mails of the serial run
abbrev pub IsRunWithDesk : Plan → List Input → Stats × Held → Type 0
IsRunWithDesk plan inputs (stats, held) =
    let desk = serial plan new_desk inputs in
    IsCounted inputs stats × (held.results ≡ desk.results) × (held.outboxes ≡ desk.outboxes)

-- the output text is out, and the desk is returned with the counts
abbrev pub AnswersWithDesk : Plan → ℕ → Option (List ℕ) → Option (List ℕ) → Option (List ℕ) → Option (List ℕ) → Result (Stats × Held) ProcessError → Type 0
AnswersWithDesk plan workers read_old read_new old new result = AnswersBy (text_of plan) (IsRunWithDesk plan) plan workers read_old read_new old new result

-- ---- with alarms

-- what is written for an input that a desk takes: its result, and then the alarms that change
abbrev pub watched_result : Plan → Desk → Input → List ℕ
watched_result plan desk input =
    let number = length desk.results + 1 in
    result_line (number, (rule.step plan desk.world input).reply) ++ alarm_lines plan number desk.world (step plan desk input).world

-- the same for inputs, which a desk takes one after another
abbrev pub watched_results : Plan → Desk → List Input → List ℕ
watched_results plan desk [] = []
watched_results plan desk (input ∷ inputs) = watched_result plan desk input ++ watched_results plan (step plan desk input) inputs

-- the output text of the serial run of inputs with its alarms: the results, each with the alarms that change, and then the messages
abbrev pub watched_text_of : Plan → List Input → List ℕ
watched_text_of plan inputs = watched_results plan new_desk inputs ++ flat_map outbox_lines (serial plan new_desk inputs).outboxes

-- nothing is counted
abbrev pub IsUncounted : List Input → Unit {0} → Type 0
IsUncounted inputs none = ⊤

-- the output text with its alarms is out
abbrev pub AnswersWithAlarms : Plan → ℕ → Option (List ℕ) → Option (List ℕ) → Option (List ℕ) → Option (List ℕ) → Result (Unit {0}) ProcessError → Type 0
AnswersWithAlarms plan workers read_old read_new old new result = AnswersBy (watched_text_of plan) IsUncounted plan workers read_old read_new old new result

-- a desk, and the lines of its results with their alarms, are those after inputs that a new desk took
pub record IsWatchedRun (plan : Plan) (inputs : List Input) (held : Held) (results : List ℕ) : Type 0 where
  pub holds : Holds plan (standing held) (serial plan new_desk inputs)
  pub said : AreMailsSaid plan inputs
  pub spelled : results ≡ watched_results plan new_desk inputs

-- a fault that is no write fault leaves the writer as it was
abbrev pub IsUntouched : {E W : Type 0} → Result E ProcessError → W → W → Type 0
IsUntouched (Ok done) old new = ⊤
IsUntouched (Err (fault.Write sent)) old new = ⊤
IsUntouched (Err fault.Read) old new = new ≡ old
IsUntouched (Err fault.TooLong) old new = new ≡ old
IsUntouched (Err (fault.Run error)) old new = new ≡ old
IsUntouched (Err fault.Memory) old new = new ≡ old

-- a fault of reading a batch: the reader failed, the batch is too long, or memory ran out
abbrev pub IsBeforeWriting : ProcessError → Type 0
IsBeforeWriting (fault.Write sent) = ⊥
IsBeforeWriting fault.Read = ⊤
IsBeforeWriting fault.TooLong = ⊤
IsBeforeWriting (fault.Run error) = ⊥
IsBeforeWriting fault.Memory = ⊤

-- a batch that was read is refused before its lines are parsed: for the number of workers, or else for the number of its lines
abbrev pub IsRefusal : ℕ → List ℕ → RunError → Type 0
IsRefusal workers batch Workers = ¬ (MayWork workers)
IsRefusal workers batch TooManyInputs = MayWork workers × (max_inputs < length (lines_of batch))
IsRefusal workers batch (OutOfMemory committed) = ⊥

-- a fault between the reading of a batch and its run: the batch is refused, for the workers or for its lines, or memory ran out
abbrev pub IsRefused : ℕ → List ℕ → ProcessError → Type 0
IsRefused workers batch (fault.Run error) = IsRefusal workers batch error
IsRefused workers batch (fault.Write sent) = ⊥
IsRefused workers batch fault.Read = ⊥
IsRefused workers batch fault.TooLong = ⊥
IsRefused workers batch fault.Memory = ⊤

-- a fault before the run: reading failed, the batch is too long, memory ran out, or the batch that was read is refused
abbrev pub IsBeforeRun : ℕ → Option (List ℕ) → Option (List ℕ) → ProcessError → Type 0
IsBeforeRun workers old new (fault.Run error) = (batch : List ℕ) × IsAllRead old new batch × (length batch ≤ max_batch) × IsRefusal workers batch error
IsBeforeRun workers old new (fault.Write sent) = ⊥
IsBeforeRun workers old new fault.Read = ⊤
IsBeforeRun workers old new fault.TooLong = ⊤
IsBeforeRun workers old new fault.Memory = ⊤

-- the text of a fault
abbrev pub fault_text : ProcessError → List ℕ
fault_text fault.Read = codes "read fault"
fault_text fault.TooLong = codes "batch too long"
fault_text (fault.Run error) = run_fault_text error
fault_text fault.Memory = codes "out of memory"
fault_text (fault.Write sent) = codes "write fault after " ++ decimal sent ++ codes " bytes"
