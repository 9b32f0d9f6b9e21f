-- What comes of telling a run.
use Rattle.std.specs.Prelude.{◌≡◌, ◌⊎◌, ◌<◌, ⊤, ℕ, List, [], ◌++◌, Option, Some, None, Result, Ok, Err, length, max}
use Rattle.std.specs.Io.KnownBytes.{Appends, Keeps, Consumes, IsAtEnd}
use Rattle.rbc_track.specs.Plan.{Plan}
use Rattle.rbc_track.specs.Reading.{IsTrackOf, RefusesTrack}
use Rattle.rbc_track.specs.declared.error.TrackError.TheVariants as track
use Rattle.rbc_text.specs.BatchText.{lines_of}
use Rattle.rbc_text.specs.Streams.{IsAllRead, IsPartOut}
use Rattle.rbc_text.specs.EndedLines.{ended_lines_of}
use Rattle.rbc_account.specs.declared.account.Account.{Account}
use Rattle.rbc_account.specs.declared.fault.TellError.{TellError}
use Rattle.rbc_account.specs.declared.fault.TellError.TheVariants.{Track, Read, Memory, OnlyInputs, Write, ReaderGone}
use Rattle.rbc_account.specs.declared.log_form.LogWanted.{LogWanted}
use Rattle.rbc_account.specs.LogSections.{LogSection}
use Rattle.rbc_account.specs.RunLogs.{IsOpenLog, IsWholeLog}

-- What comes of a run of the lines that a reader has left, on the track in a text, if it is told once it is over.
-- `Missing count` says that so many inputs, one for each line, lack the one that is asked for.
abbrev pub Tells : {T : Type 0} → (ℕ → Type 0) → List ℕ → Option (List ℕ) → Option (List ℕ) → Result T TellError → Type 0
Tells Missing text old new (Ok told) =
    (plan : Plan) × IsTrackOf text plan × ((batch : List ℕ) × IsAllRead old new batch × ¬ (Missing (length (lines_of batch))))
Tells Missing text old new (Err (Track error)) = (error ≡ track.OutOfMemory) ⊎ RefusesTrack text error
Tells Missing text old new (Err Read) = ⊤
Tells Missing text old new (Err Memory) = ⊤
Tells Missing text old new (Err (OnlyInputs count)) = (batch : List ℕ) × IsAllRead old new batch × (count ≡ length (lines_of batch)) × Missing count
Tells Missing text old new (Err (Write sent)) = ⊥
Tells Missing text old new (Err (ReaderGone sent)) = ⊥

-- no input has this number; if there is none, 1 is allowed
abbrev pub TooLate : ℕ → ℕ → Type 0
TooLate from count = max 1 count < from

-- there are fewer inputs
abbrev pub TooFewFor : Option ℕ → ℕ → Type 0
TooFewFor None count = ⊥
TooFewFor (Some after) count = count < after

-- if the track is refused, nothing was read
abbrev pub LeavesUnread : {T R : Type 0} → Result T TellError → R → R → Type 0
LeavesUnread (Err (Track error)) old new = new ≡ old
LeavesUnread (Err Read) old new = ⊤
LeavesUnread (Err Memory) old new = ⊤
LeavesUnread (Err (OnlyInputs count)) old new = ⊤
LeavesUnread (Err (Write sent)) old new = ⊤
LeavesUnread (Err (ReaderGone sent)) old new = ⊤
LeavesUnread (Ok told) old new = ⊤

-- The lines that are run are all that the reader had left, and the first one that is told is not too late; or they are
-- the first of what was read, as many as are to be run.
abbrev pub AreRun : LogWanted → Option (List ℕ) → Option (List ℕ) → List (List ℕ) → Type 0
AreRun wanted old new lines =
    (batch : List ℕ) × (more : List (List ℕ)) × Consumes old new batch × (lines_of batch ≡ lines ++ more)
    × ((IsAtEnd new × (more ≡ []) × ¬ (TooLate wanted.from (length lines))) ⊎ (wanted.to ≡ Some (length lines)))

-- The first bytes of a log of some first lines are out, this many of them.
abbrev pub ArePartTold : (LogSection → List ℕ → Type 0) → LogWanted → Account → Option (List ℕ) → Option (List ℕ) → Option (List ℕ) → Option (List ℕ) → ℕ → Type 0
ArePartTold Is wanted start read_old read_new old new sent =
    (batch text : List ℕ) × (lines more : List (List ℕ)) × Consumes read_old read_new batch × (lines_of batch ≡ lines ++ more)
    × (IsOpenLog Is wanted start lines text ⊎ IsWholeLog Is wanted start lines text) × IsPartOut old new text sent

-- What is written when lines are told as they come, from an account that has taken none. At Ok the log of the lines
-- that are run is out, and nothing else. At a read fault, the log of all lines that have ended, without its end. If
-- memory was refused, the log of some first lines, without its end. At a write fault, the first bytes of a log of some
-- first lines. If the first input that is told is too late, nothing.
abbrev pub TellsLines : {T : Type 0} → (LogSection → List ℕ → Type 0) → LogWanted → Account → Option (List ℕ) → Option (List ℕ) → Option (List ℕ) → Option (List ℕ) → Result T TellError → Type 0
TellsLines Is wanted start read_old read_new old new (Ok done) =
    (lines : List (List ℕ)) × (text : List ℕ) × AreRun wanted read_old read_new lines × IsWholeLog Is wanted start lines text × Appends old new text
TellsLines Is wanted start read_old read_new old new (Err (Track error)) = ⊥
TellsLines Is wanted start read_old read_new old new (Err Read) =
    (batch text : List ℕ) × Consumes read_old read_new batch × IsOpenLog Is wanted start (ended_lines_of batch) text × Appends old new text
TellsLines Is wanted start read_old read_new old new (Err Memory) =
    (batch text : List ℕ) × (lines more : List (List ℕ)) × Consumes read_old read_new batch × (lines_of batch ≡ lines ++ more)
    × IsOpenLog Is wanted start lines text × Appends old new text
TellsLines Is wanted start read_old read_new old new (Err (OnlyInputs count)) =
    (batch : List ℕ) × IsAllRead read_old read_new batch × (count ≡ length (lines_of batch)) × TooLate wanted.from count × Keeps old new
TellsLines Is wanted start read_old read_new old new (Err (Write sent)) = ArePartTold Is wanted start read_old read_new old new sent
TellsLines Is wanted start read_old read_new old new (Err (ReaderGone sent)) = ArePartTold Is wanted start read_old read_new old new sent
