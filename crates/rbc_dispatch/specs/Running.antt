-- What `run` does with a batch, and what it, `live`, `explain` and `picture` leave as it was.
use Rattle.std.specs.Prelude.{◌≡◌, ◌⊎◌, ⊤, ℕ, Bool, true, false, List, Option, Result, Ok, Err}
use Rattle.rbc_batch.specs.Process.{Answers, AnswersWithAlarms, IsUntouched as IsUnwritten}
use Rattle.rbc_batch.specs.declared.batch.ProcessError.{ProcessError}
use Rattle.rbc_batch.specs.Stats.{Stats}
use Rattle.rbc_track.specs.Plan.{Plan}
use Rattle.rbc_track.specs.Reading.{IsTrackOf, RefusesTrack}
use Rattle.rbc_track.specs.declared.error.TrackError.{TrackError}
use Rattle.rbc_track.specs.declared.error.TrackError.TheVariants as track
use Rattle.rbc_dispatch.specs.declared.fault.Fault.{Fault}
use Rattle.rbc_dispatch.specs.declared.fault.Fault.TheVariants.{Batch, Tell, Draw, Live, Lines, Write, ReaderGone, OutOfMemory, Track, TrackUnreadable}
use Rattle.rbc_account.specs.Telling.{LeavesUnread}
use Rattle.rbc_picture.specs.NotDrawn.{StaysUnread}

-- the batch is answered by this many workers, with its alarms or without; the counts of the run are not described
abbrev pub AnswersBatch : Plan → ℕ → Bool → Option (List ℕ) → Option (List ℕ) → Option (List ℕ) → Option (List ℕ) → Result (Unit {0}) ProcessError → Type 0
AnswersBatch plan workers true read_old read_new old new r = AnswersWithAlarms plan workers read_old read_new old new r
AnswersBatch plan workers false read_old read_new old new (Ok done) = (stats : Stats) × Answers plan workers read_old read_new old new (Ok stats)
AnswersBatch plan workers false read_old read_new old new (Err error) = Answers plan workers read_old read_new old new (Err error)

-- the same, on the track that the text is
abbrev pub AnswersOn : List ℕ → ℕ → Bool → Option (List ℕ) → Option (List ℕ) → Option (List ℕ) → Option (List ℕ) → Result (Unit {0}) ProcessError → Type 0
AnswersOn text workers alarms read_old read_new old new r = (plan : Plan) × IsTrackOf text plan × AnswersBatch plan workers alarms read_old read_new old new r

-- the text is refused with this error, or memory ran out
abbrev pub IsNoTrack : List ℕ → TrackError → Type 0
IsNoTrack text error = (error ≡ track.OutOfMemory) ⊎ RefusesTrack text error

-- What comes of a batch, by this many workers and with its alarms or without, on the track in a text. The batch is not
-- answered only if the text is not a track.
abbrev pub RunsOn : {E : Type 0} → List ℕ → ℕ → Bool → Option (List ℕ) → Option (List ℕ) → Option (List ℕ) → Option (List ℕ) → Result E Fault → Type 0
RunsOn text workers alarms read_old read_new old new (Ok done) = AnswersOn text workers alarms read_old read_new old new (Ok tt)
RunsOn text workers alarms read_old read_new old new (Err (Batch error)) = AnswersOn text workers alarms read_old read_new old new (Err error)
RunsOn text workers alarms read_old read_new old new (Err (Track error)) = IsNoTrack text error
RunsOn text workers alarms read_old read_new old new (Err _) = ⊥

-- the file could not be read, or memory ran out over it
abbrev pub IsUnread : Fault → Type 0
IsUnread fault = (fault ≡ TrackUnreadable) ⊎ (fault ≡ OutOfMemory)

abbrev pub IsErrUnread : {E : Type 0} → Result E Fault → Type 0
IsErrUnread (Ok done) = ⊥
IsErrUnread (Err fault) = IsUnread fault

-- what comes of a batch, by this many workers and with its alarms or without, on the track in a file: the file holds some text, or it is not read
abbrev pub Runs : {E : Type 0} → ℕ → Bool → Option (List ℕ) → Option (List ℕ) → Option (List ℕ) → Option (List ℕ) → Result E Fault → Type 0
Runs {E = E} workers alarms read_old read_new old new r = ((text : List ℕ) × RunsOn {E = E} text workers alarms read_old read_new old new r) ⊎ IsErrUnread r

-- Nothing is read before the track is known, and nothing is written before there is a text to write.
abbrev pub Keeps : {E I O : Type 0} → Result E Fault → I → I → O → O → Type 0
Keeps (Ok done) read_old read_new old new = ⊤
Keeps {E = E} (Err (Batch error)) read_old read_new old new = IsUnwritten {E = E} (Err error) old new
Keeps {E = E} (Err (Tell error)) read_old read_new old new = LeavesUnread {T = E} (Err error) read_old read_new × LeavesUnread {T = E} (Err error) old new
Keeps {E = E} (Err (Draw error)) read_old read_new old new = StaysUnread {T = E} (Err error) read_old read_new × (new ≡ old)
Keeps (Err (Live error)) read_old read_new old new = ⊤
Keeps (Err (Write sent)) read_old read_new old new = ⊤
Keeps (Err (ReaderGone sent)) read_old read_new old new = ⊤
Keeps (Err (Lines error)) read_old read_new old new = ⊤
Keeps (Err _) read_old read_new old new = (read_new ≡ read_old) × (new ≡ old)
