-- Why no picture is drawn (own rule).
use Rattle.std.specs.Prelude.{◌≡◌, ⊤, ℕ, List, map, Option, Some, None, Result, Ok, Err}
use Rattle.rbc_track.specs.Plan.{Plan}
use Rattle.rbc_track.specs.Reading.{IsTrackOf}
use Rattle.rbc_records.specs.declared.record.Key.{Key}
use Rattle.rbc_records.specs.declared.record.Rec.{Rec}
use Rattle.rbc_text.specs.BatchText.{lines_of}
use Rattle.rbc_text.specs.Streams.{IsAllRead}
use Rattle.rbc_live.specs.History.{Taken, IsSerialRunOf}
use Rattle.rbc_account.specs.Telling.{LeavesUnread, Tells, TooFewFor}
use Rattle.rbc_account.specs.declared.fault.TellError.TheVariants as telling
use Rattle.rbc_picture.specs.Drawn.{lines_taken, trains_in}
use Rattle.rbc_picture.specs.Selections.{lines_fault, train_named}
use Rattle.rbc_picture.specs.Titles.{ShownTrain}
use Rattle.rbc_picture.specs.declared.fault.DrawError.{DrawError}
use Rattle.rbc_picture.specs.declared.fault.DrawError.TheVariants.{Tell, NoLine, BeyondLine, NoTrain}
use Rattle.rbc_picture.specs.declared.selection.Selection.{Selection}
use Rattle.rbc_picture.specs.declared.selection.Selection.TheVariants as selected

-- A selection names a train with this engine number, and it is not among trains.
pub record IsLacking (selection : Selection) (trains : List ShownTrain) (engine : ℕ) : Type 0 where
  pub names : selection ≡ selected.Train engine
  pub lacks : train_named engine trains ≡ None

-- the same for the trains of records
abbrev pub LacksNow : Selection → ℕ → List (Key × Rec) → ℕ → Type 0
LacksNow selection horizon records engine = IsLacking selection (trains_in horizon records) engine

-- After lines no train has an engine number that a selection names.
pub record LacksTrain (plan : Plan) (selection : Selection) (lines : List (List ℕ)) (engine : ℕ) : Type 0 where
  pub taken : List Taken
  pub records : List (Key × Rec)
  pub fed : map (λ one. one.line) taken ≡ lines
  pub serial : IsSerialRunOf plan taken records
  pub lacks : LacksNow selection plan.horizon records engine

-- the same after this many of the lines that a reader had left, or after all of them, on the track in a text
pub record LacksTrainInRun (text : List ℕ) (after : Option ℕ) (selection : Selection) (old new : Option (List ℕ)) (engine : ℕ) : Type 0 where
  pub plan : Plan
  pub batch : List ℕ
  pub is_track : IsTrackOf text plan
  pub read : IsAllRead old new batch
  pub lacking : LacksTrain plan selection (lines_taken after (lines_of batch)) engine

-- The track in a text has a first fault in the lines that a selection names.
pub record IsOffTrack (text : List ℕ) (selection : Selection) (fault : DrawError) : Type 0 where
  pub plan : Plan
  pub is_track : IsTrackOf text plan
  pub first : lines_fault plan selection ≡ Some fault

-- What comes of drawing the run of the lines that a reader has left: as for telling it; or a line that is named is not
-- on the track; or the train that is named is not enrolled.
abbrev pub Draws : {T : Type 0} → List ℕ → Option ℕ → Selection → Option (List ℕ) → Option (List ℕ) → Result T DrawError → Type 0
Draws {T} text after selection old new (Ok svg) = Tells {T = T} (TooFewFor after) text old new (Ok svg)
Draws {T} text after selection old new (Err (Tell error)) = Tells {T = T} (TooFewFor after) text old new (Err error)
Draws text after selection old new (Err (NoLine line)) = IsOffTrack text selection (NoLine line)
Draws text after selection old new (Err (BeyondLine line)) = IsOffTrack text selection (BeyondLine line)
Draws text after selection old new (Err (NoTrain engine)) = LacksTrainInRun text after selection old new engine

-- if the track is refused, or lacks what is named, nothing was read
abbrev pub StaysUnread : {T R : Type 0} → Result T DrawError → R → R → Type 0
StaysUnread {T} (Ok svg) old new = ⊤
StaysUnread {T} (Err (Tell error)) old new = LeavesUnread {T = T} (Err error) old new
StaysUnread (Err (NoLine line)) old new = new ≡ old
StaysUnread (Err (BeyondLine line)) old new = new ≡ old
StaysUnread (Err (NoTrain engine)) old new = ⊤

-- drawing what stands after lines fails only for want of memory, or since a train is lacking
abbrev pub FailsFor : (ℕ → Type 0) → DrawError → Type 0
FailsFor Lacks (Tell error) = error ≡ telling.Memory
FailsFor Lacks (NoLine line) = ⊥
FailsFor Lacks (BeyondLine line) = ⊥
FailsFor Lacks (NoTrain engine) = Lacks engine
