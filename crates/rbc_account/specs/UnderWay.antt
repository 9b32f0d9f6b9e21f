-- The log of a run that is under way.
use Rattle.std.specs.Prelude.{◌≡◌, ◌≤◌, ◌<◌, ◌+◌, ◌⊎◌, ℕ, Bool, true, false, List, [], ◌++◌, length, Option, Some, None, Result, Ok, Err}
use Rattle.std.specs.Io.KnownBytes.{Appends}
use Rattle.rbc_text.specs.declared.outlet.WriteFault.{WriteFault}
use Rattle.rbc_text.specs.Streams.{count_of, IsCutShort, IsPartOut}
use Rattle.rbc_account.specs.Faults.{writing_fault}
use Rattle.rbc_account.specs.declared.account.Account.{Account}
use Rattle.rbc_account.specs.declared.fault.TellError.{TellError}
use Rattle.rbc_account.specs.declared.fault.TellError.TheVariants.{Track, Read, Memory, OnlyInputs, Write, ReaderGone}
use Rattle.rbc_account.specs.declared.log_form.LogWanted.{LogWanted}
use Rattle.rbc_account.specs.declared.run_log.RunLog.{RunLog}
use Rattle.rbc_account.specs.LogSections.{LogSection, Head}
use Rattle.rbc_account.specs.RunLogs.{has_head, IsPartIf, IsLogSoFar, IsOpenLog, IsWholeLog}
use Rattle.rbc_account.specs.Telling.{TooLate}

-- how many lines an account has taken, as long as they can be counted
abbrev pub taken_by : Account → ℕ
taken_by account = account.sums.accepted + account.sums.refused

-- as many inputs as are to be run, or more
abbrev pub IsReached : Option ℕ → ℕ → Type 0
IsReached None count = ⊥
IsReached (Some to) count = to ≤ count

-- the first input that is told is too late, or it is not
abbrev pub IsTooLate : {T : Type 0} → ℕ → ℕ → Result T TellError → Type 0
IsTooLate from count (Ok done) = ¬ (TooLate from count)
IsTooLate from count (Err fault) = (fault ≡ OnlyInputs count) × TooLate from count

-- the head, unless it was added before or is not wanted
abbrev pub IsHeadAdded : Bool → (LogSection → List ℕ → Type 0) → LogWanted → List ℕ → Type 0
IsHeadAdded true Is wanted head = head ≡ []
IsHeadAdded false Is wanted head = IsPartIf (has_head wanted.parts) (Is (Head wanted.from)) head

-- two parts, one after the other
abbrev pub AreAdded : (List ℕ → Type 0) → (List ℕ → Type 0) → List ℕ → Type 0
AreAdded IsFirst IsSecond text = (first second : List ℕ) × (text ≡ first ++ second) × IsFirst first × IsSecond second

-- the first bytes of a text are out, after this many others
abbrev pub IsWriteFault : ℕ → List ℕ → Option (List ℕ) → Option (List ℕ) → TellError → Type 0
IsWriteFault sent text old new fault = (cause : WriteFault) × IsCutShort sent text old new cause × (fault ≡ writing_fault cause)

-- The lines were taken from an account, and their log without its end is out, or still in the text.
pub record IsUnderWay (Is : LogSection → List ℕ → Type 0) (wanted : LogWanted) (start : Account) (lines : List (List ℕ)) (log : RunLog) (old new : Option (List ℕ)) : Type 0 where
  pub written : List ℕ
  pub told : IsLogSoFar Is wanted start lines log.account log.headed (written ++ log.text.items)
  pub out : Appends old new written
  pub count : log.outlet.sent ≡ count_of (length written)
  pub same : log.wanted ≡ wanted
  pub counted : taken_by log.account ≡ length lines
  pub quiet : length lines < wanted.from → (written ≡ []) × (log.text.items ≡ [])

-- the text that is not written yet was written before a fault, or the writer failed
abbrev pub IsStop : RunLog → TellError → Option (List ℕ) → Option (List ℕ) → TellError → Type 0
IsStop log fault old new result =
    IsWriteFault log.outlet.sent log.text.items old new result ⊎ (Appends old new log.text.items × (result ≡ fault))

-- the whole log of lines is out
abbrev pub IsWhole : (LogSection → List ℕ → Type 0) → LogWanted → Account → List (List ℕ) → Option (List ℕ) → Option (List ℕ) → Type 0
IsWhole Is wanted start lines old new = (text : List ℕ) × IsWholeLog Is wanted start lines text × Appends old new text

-- the first bytes of the log of some first lines are out
abbrev pub IsPartWritten : (LogSection → List ℕ → Type 0) → LogWanted → Account → List (List ℕ) → Option (List ℕ) → Option (List ℕ) → ℕ → Type 0
IsPartWritten Is wanted start lines old new sent =
    (text : List ℕ) × (some more : List (List ℕ)) × (lines ≡ some ++ more) × (IsOpenLog Is wanted start some text ⊎ IsWholeLog Is wanted start some text) × IsPartOut old new text sent

-- a fault in mid-course: the log of some first lines is out, or at a write fault its first bytes
abbrev pub IsEnded : (LogSection → List ℕ → Type 0) → LogWanted → Account → List (List ℕ) → Option (List ℕ) → Option (List ℕ) → TellError → Type 0
IsEnded Is wanted start lines old new (Track error) = ⊥
IsEnded Is wanted start lines old new Read = ⊥
IsEnded Is wanted start lines old new Memory =
    (text : List ℕ) × (some more : List (List ℕ)) × (lines ≡ some ++ more) × IsOpenLog Is wanted start some text × Appends old new text
IsEnded Is wanted start lines old new (OnlyInputs count) = ⊥
IsEnded Is wanted start lines old new (Write sent) = IsPartWritten Is wanted start lines old new sent
IsEnded Is wanted start lines old new (ReaderGone sent) = IsPartWritten Is wanted start lines old new sent

-- it goes on, or ends with a fault
abbrev pub GoesOn : {T : Type 0} → (LogSection → List ℕ → Type 0) → LogWanted → Account → List (List ℕ) → Option (List ℕ) → Option (List ℕ) → Result T TellError → Type 0 → Type 0
GoesOn Is wanted start lines old new (Ok done) P = P
GoesOn Is wanted start lines old new (Err fault) P = IsEnded Is wanted start lines old new fault
