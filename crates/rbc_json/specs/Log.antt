-- The log of a run in objects, each in a line of its own (own rule).
use Rattle.std.specs.Prelude.{◌≡◌, ◌⊎◌, ℕ, ◌+◌, false, List, [], ◌∷◌, ◌++◌, map, length, Option, Result, Ok, Err}
use Rattle.std.specs.Io.KnownBytes.{Appends, Consumes, Keeps}
use Rattle.rbc_track.specs.Plan.{Plan}
use Rattle.rbc_track.specs.Reading.{IsTrackOf, RefusesTrack}
use Rattle.rbc_track.specs.declared.error.TrackError.TheVariants as track
use Rattle.rbc_records.specs.declared.record.Key.{Key}
use Rattle.rbc_records.specs.declared.record.Rec.{Rec}
use Rattle.rbc_text.specs.BatchText.{line_of, lines_of, IsInput}
use Rattle.rbc_text.specs.EndedLines.{ended_lines_of}
use Rattle.rbc_text.specs.Streams.{IsAllRead, IsPartOut}
use Rattle.rbc_live.specs.History.{Taken, AreSame, IsFed, IsSerialRunOf}
use Rattle.rbc_account.specs.Blocks.{IsRightBlock}
use Rattle.rbc_account.specs.Coming.{sender_in}
use Rattle.rbc_account.specs.Found.{has_unknown}
use Rattle.rbc_account.specs.LogSections.{LogSection, Head, OfInput, AtEnd}
use Rattle.rbc_account.specs.RunLogs.{is_told, has_end, IsPartIf}
use Rattle.rbc_account.specs.Runs.{sums_after}
use Rattle.rbc_account.specs.Sums.{no_sums}
use Rattle.rbc_account.specs.Telling.{AreRun, TooLate}
use Rattle.rbc_account.specs.declared.block.Block.{Block}
use Rattle.rbc_account.specs.declared.fault.TellError.{TellError}
use Rattle.rbc_account.specs.declared.fault.TellError.TheVariants.{Track, Read, Memory, OnlyInputs, Write, ReaderGone}
use Rattle.rbc_account.specs.declared.log_form.LogWanted.{LogWanted}
use Rattle.rbc_explain.specs.Marked.{ended}
use Rattle.rbc_json.specs.Json.{Json, json_text}
use Rattle.rbc_json.specs.Objects.{IsObjectOf, HasSums}

-- a text is the line of a value which has a property
abbrev pub IsLineOf : (Json → Type 0) → List ℕ → Type 0
IsLineOf Is text = (value : Json) × Is value × (text ≡ ended (json_text value))

-- The parts of a log in objects: it has no head; an object for each input, in a line; and the line of the end.
abbrev pub IsInObjects : LogSection → List ℕ → Type 0
IsInObjects (Head from) text = text ≡ []
IsInObjects (OfInput account line block) text = IsLineOf (IsObjectOf account.desk.track line block) text
IsInObjects (AtEnd account) text = HasSums account.desk.track.horizon account.desk.records account.sums text

-- The object of a line that was taken, in a line of a log: what it says of the input and of each message is right by the
-- records after the line, and by the train that sent the input, as it was before. The records account for each message.
pub record IsTakenObject (plan : Plan) (number : ℕ) (taken : Taken) (old new : List (Key × Rec)) (text : List ℕ) : Type 0 where
  pub block : Block
  pub numbered : block.number ≡ number
  pub is_input : IsInput (line_of taken.line) block.input
  pub reply : block.reply ≡ taken.reply
  pub messages : block.messages ≡ taken.messages
  pub right : IsRightBlock plan new (sender_in old block.input) block
  pub known : has_unknown block.told.items ≡ false
  pub written : IsLineOf (IsObjectOf plan taken.line block) text

-- Lines that are taken one after another lead from records to records, each by a step of the rules. A text has the object
-- of each line that is told, one after another, and nothing else.
abbrev pub AreObjects : Plan → LogWanted → ℕ → List (Key × Rec) → List Taken → List (Key × Rec) → List ℕ → Type 0
AreObjects plan wanted number old [] new text = AreSame old new × (text ≡ [])
AreObjects plan wanted number old (taken ∷ more) new text =
    (before after : List (Key × Rec)) × AreSame old before × IsFed plan taken.line before after taken.reply taken.messages
    × (first rest : List ℕ) × (text ≡ first ++ rest)
    × IsPartIf (is_told wanted number taken.reply) (IsTakenObject plan number taken before after) first
    × AreObjects plan wanted (number + 1) after more new rest

-- The log of lines without its end: the answers and the messages are those of the serial run of the lines, from the empty
-- state, and the log is the objects of the lines that are told.
pub record IsLogOf (plan : Plan) (wanted : LogWanted) (lines : List (List ℕ)) (log : List ℕ) : Type 0 where
  pub taken : List Taken
  pub records : List (Key × Rec)
  pub fed : map (λ one. one.line) taken ≡ lines
  pub serial : IsSerialRunOf plan taken records
  pub objects : AreObjects plan wanted 1 [] taken records log

-- the log of lines, whole: behind the objects of the inputs stands that of the end, if it is wanted, with the sums there
pub record IsWholeLogOf (plan : Plan) (wanted : LogWanted) (lines : List (List ℕ)) (log : List ℕ) : Type 0 where
  pub front : List ℕ
  pub end : List ℕ
  pub all : log ≡ front ++ end
  pub told : IsLogOf plan wanted lines front
  pub ended : IsPartIf (has_end wanted.parts) (HasSums plan.horizon told.records (sums_after no_sums told.taken)) end

-- the log of lines, with its end or without
abbrev pub IsSomeLogOf : Plan → LogWanted → List (List ℕ) → List ℕ → Type 0
IsSomeLogOf plan wanted lines log = IsLogOf plan wanted lines log ⊎ IsWholeLogOf plan wanted lines log

-- The first bytes of a log of some first lines are out, this many of them.
abbrev pub IsPartInObjects : List ℕ → LogWanted → Option (List ℕ) → Option (List ℕ) → Option (List ℕ) → Option (List ℕ) → ℕ → Type 0
IsPartInObjects text wanted read_old read_new old new sent =
    (plan : Plan) × IsTrackOf text plan
    × ((batch log : List ℕ) × (lines more : List (List ℕ)) × Consumes read_old read_new batch × (lines_of batch ≡ lines ++ more)
    × IsSomeLogOf plan wanted lines log × IsPartOut old new log sent)

-- What is written when lines are told in objects as they come, on the track in a text. At Ok the log of the lines that
-- are run is out, and nothing else. At a read fault, that of all lines that had ended, without its end. If memory was
-- refused, that of some first lines; at a write fault, the first bytes of such a log. If the first input that is told is
-- too late, nothing.
abbrev pub ExplainsInObjects : {T : Type 0} → List ℕ → LogWanted → Option (List ℕ) → Option (List ℕ) → Option (List ℕ) → Option (List ℕ) → Result T TellError → Type 0
ExplainsInObjects text wanted read_old read_new old new (Ok done) =
    (plan : Plan) × IsTrackOf text plan
    × ((lines : List (List ℕ)) × (log : List ℕ) × AreRun wanted read_old read_new lines × IsWholeLogOf plan wanted lines log × Appends old new log)
ExplainsInObjects text wanted read_old read_new old new (Err (Track error)) = (error ≡ track.OutOfMemory) ⊎ RefusesTrack text error
ExplainsInObjects text wanted read_old read_new old new (Err Read) =
    (plan : Plan) × IsTrackOf text plan
    × ((batch log : List ℕ) × Consumes read_old read_new batch × IsLogOf plan wanted (ended_lines_of batch) log × Appends old new log)
ExplainsInObjects text wanted read_old read_new old new (Err Memory) =
    (plan : Plan) × IsTrackOf text plan
    × ((batch log : List ℕ) × (lines more : List (List ℕ)) × Consumes read_old read_new batch × (lines_of batch ≡ lines ++ more)
    × IsLogOf plan wanted lines log × Appends old new log)
ExplainsInObjects text wanted read_old read_new old new (Err (OnlyInputs count)) =
    (batch : List ℕ) × IsAllRead read_old read_new batch × (count ≡ length (lines_of batch)) × TooLate wanted.from count × Keeps old new
ExplainsInObjects text wanted read_old read_new old new (Err (Write sent)) = IsPartInObjects text wanted read_old read_new old new sent
ExplainsInObjects text wanted read_old read_new old new (Err (ReaderGone sent)) = IsPartInObjects text wanted read_old read_new old new sent
