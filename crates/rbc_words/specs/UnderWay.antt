-- Lines that are on their way.
use Rattle.std.specs.Prelude.{◌≡◌, ◌≤◌, ◌+◌, ◌⊎◌, ℕ, List, [], ◌∷◌, ◌++◌, length, true, false, Bool, Option, Result, Ok, Err, if◌then◌else◌}
use Rattle.std.specs.Io.KnownBytes.{Appends}
use Rattle.rbc_text.specs.BatchText.{without_empty_end}
use Rattle.rbc_words.specs.Rules.{StaysItself}
use Rattle.rbc_words.specs.declared.rule.RuleError.{RuleError}
use Rattle.rbc_words.specs.declared.rule.RuleError.TheVariants as refusal
use Rattle.rbc_text.specs.Streams.{count_of, IsCutShort, IsPartOut}
use Rattle.rbc_text.specs.declared.outlet.WriteFault.{WriteFault}
use Rattle.rbc_words.specs.Filters.{AreTurned, AreFirstTurned, IsFirstWrong}
use Rattle.rbc_words.specs.declared.line.UnfinishedLine.{UnfinishedLine}
use Rattle.rbc_words.specs.declared.session.Session.{Session}
use Rattle.rbc_words.specs.declared.filter.FilterError.{FilterError}
use Rattle.rbc_words.specs.declared.filter.FilterError.TheVariants.{Read, Memory, Write, Line}

-- all of a line that has begun is kept, or it was passed on, since it becomes itself however it goes on
abbrev pub IsShownBy : (List ℕ → List ℕ → Type 0) → List ℕ → UnfinishedLine → Type 0
IsShownBy becomes line begun =
    ((begun.passed_on ≡ false) × (begun.bytes.items ≡ line)) ⊎ ((begun.passed_on ≡ true) × (begun.bytes.items ≡ []) × (1 ≤ length line) × StaysItself becomes line)

-- what was passed on of a line that has begun
abbrev pub passed_on : List ℕ → UnfinishedLine → List ℕ
passed_on line begun = if begun.passed_on then line else []

-- What these lines become is out or else in the text, and so is what was passed on of the line behind them.
pub record ArePending (becomes : List ℕ → List ℕ → Type 0) (text : List ℕ) (sent : ℕ) (old new : Option (List ℕ)) (ended : List (List ℕ)) (begun : List ℕ) : Type 0 where
  pub turned : List ℕ
  pub written : List ℕ
  pub are : AreTurned becomes ended turned
  pub all : written ++ text ≡ turned ++ begun
  pub out : Appends old new written
  pub count : sent ≡ count_of (length written)

-- The same of a session, which can go on: the next line has begun with these bytes.
pub record IsUnderWay (becomes : List ℕ → List ℕ → Type 0) (session : Session) (old new : Option (List ℕ)) (ended : List (List ℕ)) (rest : List ℕ) : Type 0 where
  pub pending : ArePending becomes session.text.items session.outlet.sent old new ended (passed_on rest session.line)
  pub next : session.number ≡ length ended + 1
  pub shown : IsShownBy becomes rest session.line

-- nothing is left to be written, and nothing to be flushed
abbrev pub IsWaiting : Session → Type 0
IsWaiting session = (session.text.items ≡ []) × (session.outlet.flushed ≡ true)

-- these lines are out
abbrev pub IsDone : (List ℕ → List ℕ → Type 0) → List (List ℕ) → List ℕ → Option (List ℕ) → Option (List ℕ) → Type 0
IsDone becomes ended begun old new = (text : List ℕ) × AreTurned becomes ended text × Appends old new (text ++ begun)

-- text was put behind other text, so that the part of a line that was there is now this one
abbrev pub IsPutBehind : List ℕ → List ℕ → List ℕ → List ℕ → Type 0
IsPutBehind old new part_old part_new = (more : List ℕ) × (new ≡ old ++ more) × (part_old ++ more ≡ part_new)

-- a line is not turned: for want of memory, or since it is wrong, and then nothing of it was passed on
abbrev pub IsStopped : {F : Type 0} → (List ℕ → F → Type 0) → List ℕ → List ℕ → RuleError F → Type 0
IsStopped is_wrong line part refusal.Memory = Unit {0}
IsStopped is_wrong line part (refusal.Wrong fault) = (part ≡ []) × is_wrong line fault

-- a line that has begun is wrong however it goes on, or memory was refused
abbrev pub IsStoppedMidway : {F : Type 0} → (List ℕ → F → Type 0) → List ℕ → List ℕ → RuleError F → Type 0
IsStoppedMidway is_wrong line part refusal.Memory = Unit {0}
IsStoppedMidway is_wrong line part (refusal.Wrong fault) = (part ≡ []) × (1 ≤ length line) × is_wrong line fault

-- a line that was not passed on is not turned
abbrev pub IsRefusedUnless : {F : Type 0} → Bool → (List ℕ → F → Type 0) → List ℕ → RuleError F → Type 0
IsRefusedUnless passed is_wrong line refusal.Memory = Unit {0}
IsRefusedUnless passed is_wrong line (refusal.Wrong fault) = (passed ≡ false) × is_wrong line fault

-- the writer failed after a part of the text that is not written yet
abbrev pub IsWriteFault : {F : Type 0} → Session → Option (List ℕ) → Option (List ℕ) → FilterError F → Type 0
IsWriteFault session old new fault = (out : WriteFault) × IsCutShort session.outlet.sent session.text.items old new out × (fault ≡ Write out.sent)

-- the fault of a line of this number
abbrev pub fault_of : {F : Type 0} → ℕ → RuleError F → FilterError F
fault_of number refusal.Memory = Memory
fault_of number (refusal.Wrong fault) = Line number fault

-- the text that is not written yet was written before a fault, or the writer failed
abbrev pub IsStop : {F : Type 0} → Session → RuleError F → Option (List ℕ) → Option (List ℕ) → FilterError F → Type 0
IsStop session error old new fault =
    IsWriteFault session old new fault ⊎ (Appends old new session.text.items × (fault ≡ fault_of session.number error))

-- a fault in mid-course
abbrev pub IsEnded : {F : Type 0} → (List ℕ → List ℕ → Type 0) → (List ℕ → F → Type 0) → List (List ℕ) → Option (List ℕ) → Option (List ℕ) → FilterError F → Type 0
IsEnded becomes is_wrong lines old new Read = ⊥
IsEnded becomes is_wrong lines old new Memory = (text : List ℕ) × AreFirstTurned becomes lines text × Appends old new text
IsEnded becomes is_wrong lines old new (Write sent) = (text : List ℕ) × AreFirstTurned becomes lines text × IsPartOut old new text sent
IsEnded becomes is_wrong lines old new (Line number fault) = (text : List ℕ) × IsFirstWrong becomes is_wrong lines text number fault × Appends old new text

-- it goes on, or ends with a fault
abbrev pub GoesOn : {E F : Type 0} → (List ℕ → List ℕ → Type 0) → (List ℕ → F → Type 0) → List (List ℕ) → Option (List ℕ) → Option (List ℕ) → Result E (FilterError F) → Type 0 → Type 0
GoesOn becomes is_wrong lines old new (Ok done) P = P
GoesOn becomes is_wrong lines old new (Err fault) P = IsEnded becomes is_wrong lines old new fault

-- all pieces but the last one were taken as lines, and the last one has begun; or it ends with a fault
abbrev pub HasTaken : {E F : Type 0} → (List ℕ → List ℕ → Type 0) → (List ℕ → F → Type 0) → List (List ℕ) → Option (List ℕ) → Option (List ℕ) → Session → Result E (FilterError F) → Type 0
HasTaken becomes is_wrong pieces old new session (Ok done) =
    (ended : List (List ℕ)) × (rest : List ℕ) × (pieces ≡ ended ++ rest ∷ []) × IsUnderWay becomes session old new ended rest
HasTaken becomes is_wrong pieces old new session (Err fault) = IsEnded becomes is_wrong (without_empty_end pieces) old new fault
