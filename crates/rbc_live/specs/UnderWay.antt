-- Lines that are being taken.
use Rattle.std.specs.Prelude.{◌≡◌, ◌≤◌, ◌+◌, ℕ, List, [], ◌∷◌, ◌++◌, map, length, true, Option, Result, Ok, Err}
use Rattle.std.specs.Io.KnownBytes.{Appends}
use Rattle.rbc_track.specs.Plan.{Plan}
use Rattle.rbc_records.specs.declared.record.Key.{Key}
use Rattle.rbc_records.specs.declared.record.Rec.{Rec}
use Rattle.rbc_rule.specs.declared.input.Input.{Input}
use Rattle.rbc_text.specs.Held.{AreOutboxes}
use Rattle.rbc_text.specs.Serial.{new_desk}
use Rattle.rbc_live.specs.History.{Taken, IsSerialOf, posted}
use Rattle.rbc_live.specs.Watching.{IsWatchFor}
use Rattle.rbc_live.specs.declared.wanted.Wanted.{Wanted}
use Rattle.rbc_text.specs.EndedLines.{but_last}
use Rattle.rbc_live.specs.Lines.{answers_from, AreAnswers, AreFirstAnswers}
use Rattle.rbc_text.specs.Streams.{count_of, IsPartOut}
use Rattle.rbc_live.specs.GoingOn.{GoesOnAs, max_kept}
use Rattle.rbc_live.specs.declared.line.UnfinishedLine.{UnfinishedLine}
use Rattle.rbc_live.specs.declared.session.Session.{Session}
use Rattle.rbc_live.specs.declared.prompt.PromptError.{PromptError}
use Rattle.rbc_live.specs.declared.prompt.PromptError.TheVariants.{Read, Memory, Write}

-- what is kept of a line that has not ended: few bytes, which go on as the line does, and no byte only if the line has none
pub record Shows (line : List ℕ) (kept : UnfinishedLine) : Type 0 where
  pub alike : GoesOnAs kept.bytes.items line
  pub some : 1 ≤ length line → 1 ≤ length kept.bytes.items
  pub within : length kept.bytes.items ≤ length line
  pub few : length kept.bytes.items ≤ max_kept

-- What is wanted for these lines, which were taken from a new desk, is out, or still in the text; this many bytes are out.
pub record ArePending (plan : Plan) (wanted : Wanted) (text : List ℕ) (sent : ℕ) (old new : Option (List ℕ)) (ended : List (List ℕ)) : Type 0 where
  pub taken : List Taken
  pub records : List (Key × Rec)
  pub inputs : List Input
  pub written : List ℕ
  pub fed : map (λ one. one.line) taken ≡ ended
  pub serial : IsSerialOf plan inputs taken records
  pub all : written ++ text ≡ answers_from plan wanted 1 new_desk inputs taken
  pub out : Appends old new written
  pub count : sent ≡ count_of (length written)

-- The same for a session, which can go on: the next line has begun with these bytes.
pub record IsUnderWay (plan : Plan) (wanted : Wanted) (session : Session) (old new : Option (List ℕ)) (ended : List (List ℕ)) (rest : List ℕ) : Type 0 where
  pub taken : List Taken
  pub inputs : List Input
  pub written : List ℕ
  pub fed : map (λ one. one.line) taken ≡ ended
  pub serial : IsSerialOf plan inputs taken session.desk.records
  pub as_many : length inputs ≡ length taken
  pub boxes : AreOutboxes (posted 1 [] taken)
  pub all : written ++ session.text.items ≡ answers_from plan wanted 1 new_desk inputs taken
  pub out : Appends old new written
  pub count : session.outlet.sent ≡ count_of (length written)
  pub track : session.desk.track ≡ plan
  pub first : session.wanted ≡ wanted
  pub watch : IsWatchFor wanted.alarms plan.horizon session.desk.records session.watch
  pub next : session.number ≡ length taken + 1
  pub begun : Shows rest session.line

-- nothing is left to be written, and nothing to be flushed
abbrev pub IsWaiting : Session → Type 0
IsWaiting session = (session.text.items ≡ []) × (session.outlet.flushed ≡ true)

-- a fault in mid-course: the answers to the first of these lines are out, or at a write fault the first bytes of them
abbrev pub IsEnded : Plan → Wanted → List (List ℕ) → Option (List ℕ) → Option (List ℕ) → PromptError → Type 0
IsEnded plan wanted lines old new Read = ⊥
IsEnded plan wanted lines old new Memory = (text : List ℕ) × AreFirstAnswers plan wanted lines text × Appends old new text
IsEnded plan wanted lines old new (Write sent) = (text : List ℕ) × AreFirstAnswers plan wanted lines text × IsPartOut old new text sent

-- it goes on, or ends with a fault
abbrev pub GoesOn : {E : Type 0} → Plan → Wanted → List (List ℕ) → Option (List ℕ) → Option (List ℕ) → Result E PromptError → Type 0 → Type 0
GoesOn plan wanted lines old new (Ok done) P = P
GoesOn plan wanted lines old new (Err fault) P = IsEnded plan wanted lines old new fault

-- the answers to all these lines are out
abbrev pub IsDone : Plan → Wanted → List (List ℕ) → Option (List ℕ) → Option (List ℕ) → Type 0
IsDone plan wanted lines old new = (text : List ℕ) × AreAnswers plan wanted lines text × Appends old new text

-- all pieces but the last one were taken as lines, and the last one has begun; or it ends with a fault
abbrev pub HasTaken : {E : Type 0} → Plan → Wanted → List (List ℕ) → Option (List ℕ) → Option (List ℕ) → Session → Result E PromptError → Type 0
HasTaken plan wanted pieces old new session (Ok done) =
    (ended : List (List ℕ)) × (rest : List ℕ) × (pieces ≡ ended ++ rest ∷ []) × IsUnderWay plan wanted session old new ended rest
HasTaken plan wanted pieces old new session (Err fault) = IsEnded plan wanted (but_last pieces) old new fault
