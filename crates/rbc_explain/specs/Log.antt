-- The log of a run in words (own rule).
use Rattle.std.specs.Prelude.{◌≡◌, ◌⊎◌, ℕ, ◌+◌, true, false, if◌then◌else◌, List, [], ◌∷◌, ◌++◌, map, filter_map, length, Option, Result, Ok, Err}
use Rattle.std.specs.Io.KnownBytes.{Appends, Consumes, Keeps}
use Rattle.rbc_track.specs.Plan.{Plan}
use Rattle.rbc_track.specs.Reading.{IsTrackOf, RefusesTrack}
use Rattle.rbc_track.specs.declared.error.TrackError.TheVariants as track
use Rattle.rbc_records.specs.declared.record.Key.{Key}
use Rattle.rbc_records.specs.declared.record.Rec.{Rec}
use Rattle.rbc_rule.specs.declared.input.Input.{Input}
use Rattle.rbc_text.specs.BatchText.{line_of, lines_of, IsInput}
use Rattle.rbc_text.specs.OutputText.{answer_of}
use Rattle.rbc_account.specs.Streams.{IsAllRead, IsPartOut}
use Rattle.rbc_account.specs.History.{Taken, AreSame, IsFed, IsSerialRunOf}
use Rattle.rbc_account.specs.EndedLines.{ended_lines_of}
use Rattle.rbc_account.specs.Coming.{sender_in}
use Rattle.rbc_account.specs.Subjects.{ArePaired, IsToldOf}
use Rattle.rbc_account.specs.Found.{has_unknown}
use Rattle.rbc_account.specs.LogSections.{LogSection, Head, OfInput, AtEnd}
use Rattle.rbc_account.specs.RunLogs.{is_told, has_end}
use Rattle.rbc_account.specs.Runs.{sums_after}
use Rattle.rbc_account.specs.Sums.{no_sums}
use Rattle.rbc_account.specs.Telling.{AreRun, TooLate}
use Rattle.rbc_account.specs.declared.account.Sums.{Sums}
use Rattle.rbc_account.specs.declared.fault.TellError.{TellError}
use Rattle.rbc_account.specs.declared.fault.TellError.TheVariants.{Track, Read, Memory, OnlyInputs, Write, ReaderGone}
use Rattle.rbc_account.specs.declared.log_form.LogWanted.{LogWanted}
use Rattle.rbc_account.specs.declared.told.Told.{Told}
use Rattle.rbc_explain.specs.Marked.{unmarked, IsToldOn}
use Rattle.rbc_explain.specs.Sentences.{sums_text}
use Rattle.rbc_explain.specs.Telling.{TellsAll, HasText, IsSaidOn, IsBlockOn}

-- the lines of the answer to a line of this number, if it is told
abbrev pub answer_told : LogWanted → ℕ → Taken → List (List ℕ)
answer_told wanted number taken = if is_told wanted number taken.reply then lines_of (answer_of number taken.reply taken.messages) else []

-- the lines of the answers to lines, the first of which has this number
abbrev pub answers_told : LogWanted → ℕ → List Taken → List (List ℕ)
answers_told wanted number [] = []
answers_told wanted number (taken ∷ more) = answer_told wanted number taken ++ answers_told wanted (number + 1) more

-- The block of a line that was taken, among the lines of a log: its marked lines are those of the answer, and it tells
-- what each message says. What is told is right by the records after the line, and by the train that sent its input, as
-- it was before. The records account for each message.
pub record IsBlockOf (plan : Plan) (number : ℕ) (taken : Taken) (old new : List (Key × Rec)) (block : List (List ℕ)) : Type 0 where
  pub input : Input
  pub is_input : IsInput (line_of taken.line) input
  pub told : List Told
  pub right : ArePaired (IsToldOf new input (sender_in old input)) taken.messages told
  pub known : has_unknown told ≡ false
  pub marked : filter_map unmarked block ≡ lines_of (answer_of number taken.reply taken.messages)
  pub tells : TellsAll plan number taken.messages told block

-- Lines that are taken one after another lead from records to records, each by a step of the rules. The block of each
-- line that is told stands among the lines of a log, in the same order.
abbrev pub AreBlocks : Plan → LogWanted → ℕ → List (Key × Rec) → List Taken → List (Key × Rec) → List (List ℕ) → Type 0
AreBlocks plan wanted number old [] new lines = AreSame old new
AreBlocks plan wanted number old (taken ∷ more) new lines =
    (before after : List (Key × Rec)) × AreSame old before × IsFed plan taken.line before after taken.reply taken.messages
    × (front block rest : List (List ℕ)) × (lines ≡ front ++ (block ++ rest))
    × (is_told wanted number taken.reply ≡ true → IsBlockOf plan number taken before after block)
    × AreBlocks plan wanted (number + 1) after more new rest

-- The log of lines: the answers and the messages are those of the serial run of the lines, from the empty state. The
-- log is a text in lines, and the marked ones are, without their marks, the lines of the answers that are told, in
-- order. The block of each told line is among the lines of the log.
pub record IsLogOf (plan : Plan) (wanted : LogWanted) (lines : List (List ℕ)) (log : List ℕ) : Type 0 where
  pub taken : List Taken
  pub records : List (Key × Rec)
  pub fed : map (λ one. one.line) taken ≡ lines
  pub serial : IsSerialRunOf plan taken records
  pub told : IsToldOn (answers_told wanted 1 taken) [] log
  pub blocks : AreBlocks plan wanted 1 [] taken records told.0

-- the log of lines, whole: if it has an end, the first line of the end says how many inputs there were, and what came of them
pub record IsWholeLogOf (plan : Plan) (wanted : LogWanted) (lines : List (List ℕ)) (log : List ℕ) : Type 0 where
  pub told : IsLogOf plan wanted lines log
  pub sums : Sums
  pub counted : sums ≡ sums_after no_sums told.taken
  pub ended : has_end wanted.parts ≡ true → HasText (sums_text sums) told.told.0

-- The parts of a log in words. In the block of an input the marked lines are those of its answer, and it is told what
-- each message says. No other part has a marked line.
abbrev pub IsInWords : LogSection → List ℕ → Type 0
IsInWords (Head from) text = IsToldOn [] [] text
IsInWords (OfInput account line block) text = IsBlockOn account.desk.track block.number block.reply block.messages block.told.items [] text
IsInWords (AtEnd account) text = IsSaidOn (HasText (sums_text account.sums)) [] text

-- The first bytes of a log of some first lines are out, this many of them.
abbrev pub IsPartExplained : List ℕ → LogWanted → Option (List ℕ) → Option (List ℕ) → Option (List ℕ) → Option (List ℕ) → ℕ → Type 0
IsPartExplained text wanted read_old read_new old new sent =
    (plan : Plan) × IsTrackOf text plan
    × ((batch log : List ℕ) × (lines more : List (List ℕ)) × Consumes read_old read_new batch × (lines_of batch ≡ lines ++ more)
    × IsLogOf plan wanted lines log × IsPartOut old new log sent)

-- What is written when lines are told as they come, on the track in a text. At Ok the log of the lines that are run is
-- out, and nothing else. At a read fault, that of all lines that had ended (which may have an end). If memory was
-- refused, that of some first lines; at a write fault, the first bytes of such a log. If the first input that is told
-- is too late, nothing.
abbrev pub Explains : {T : Type 0} → List ℕ → LogWanted → Option (List ℕ) → Option (List ℕ) → Option (List ℕ) → Option (List ℕ) → Result T TellError → Type 0
Explains text wanted read_old read_new old new (Ok done) =
    (plan : Plan) × IsTrackOf text plan
    × ((lines : List (List ℕ)) × (log : List ℕ) × AreRun wanted read_old read_new lines × IsWholeLogOf plan wanted lines log × Appends old new log)
Explains text wanted read_old read_new old new (Err (Track error)) = (error ≡ track.OutOfMemory) ⊎ RefusesTrack text error
Explains text wanted read_old read_new old new (Err Read) =
    (plan : Plan) × IsTrackOf text plan
    × ((batch log : List ℕ) × Consumes read_old read_new batch × IsLogOf plan wanted (ended_lines_of batch) log × Appends old new log)
Explains text wanted read_old read_new old new (Err Memory) =
    (plan : Plan) × IsTrackOf text plan
    × ((batch log : List ℕ) × (lines more : List (List ℕ)) × Consumes read_old read_new batch × (lines_of batch ≡ lines ++ more)
    × IsLogOf plan wanted lines log × Appends old new log)
Explains text wanted read_old read_new old new (Err (OnlyInputs count)) =
    (batch : List ℕ) × IsAllRead read_old read_new batch × (count ≡ length (lines_of batch)) × TooLate wanted.from count × Keeps old new
Explains text wanted read_old read_new old new (Err (Write sent)) = IsPartExplained text wanted read_old read_new old new sent
Explains text wanted read_old read_new old new (Err (ReaderGone sent)) = IsPartExplained text wanted read_old read_new old new sent
