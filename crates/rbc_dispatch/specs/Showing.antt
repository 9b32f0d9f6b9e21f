-- What `explain` and `picture` do with a log.
use Rattle.std.specs.Prelude.{◌⊎◌, ◌≤◌, ℕ, Bool, true, false, List, Option, Result, Ok, Err, take, length}
use Rattle.std.specs.Io.KnownBytes.{Appends}
use Rattle.rbc_account.specs.declared.log_form.LogWanted.{LogWanted}
use Rattle.rbc_account.specs.declared.fault.TellError.{TellError}
use Rattle.rbc_explain.specs.Log.{Explains}
use Rattle.rbc_json.specs.Log.{ExplainsInObjects}
use Rattle.rbc_picture.specs.Drawn.{IsPictureOfRun}
use Rattle.rbc_picture.specs.NotDrawn.{Draws}
use Rattle.rbc_picture.specs.declared.selection.Selection.{Selection}
use Rattle.rbc_dispatch.specs.Running.{IsErrUnread}
use Rattle.rbc_dispatch.specs.declared.fault.Fault.{Fault}
use Rattle.rbc_dispatch.specs.declared.fault.Fault.TheVariants.{Tell, Draw, Write, ReaderGone}

-- what comes of telling a log, in words or as objects, on the track in a text
abbrev pub TellsIn : {E : Type 0} → List ℕ → LogWanted → Bool → Option (List ℕ) → Option (List ℕ) → Option (List ℕ) → Option (List ℕ) → Result E TellError → Type 0
TellsIn {E = E} text wanted false read_old read_new old new r = Explains {T = E} text wanted read_old read_new old new r
TellsIn {E = E} text wanted true read_old read_new old new r = ExplainsInObjects {T = E} text wanted read_old read_new old new r

-- the same, with its fault
abbrev pub TellsOn : {E : Type 0} → List ℕ → LogWanted → Bool → Option (List ℕ) → Option (List ℕ) → Option (List ℕ) → Option (List ℕ) → Result E Fault → Type 0
TellsOn {E = E} text wanted json read_old read_new old new (Ok done) = TellsIn {E = E} text wanted json read_old read_new old new (Ok done)
TellsOn {E = E} text wanted json read_old read_new old new (Err (Tell error)) = TellsIn {E = E} text wanted json read_old read_new old new (Err error)
TellsOn text wanted json read_old read_new old new (Err _) = ⊥

-- the same on the track in a file: the file holds some text, or it is not read
abbrev pub TellsLog : {E : Type 0} → LogWanted → Bool → Option (List ℕ) → Option (List ℕ) → Option (List ℕ) → Option (List ℕ) → Result E Fault → Type 0
TellsLog {E = E} wanted json read_old read_new old new r = ((text : List ℕ) × TellsOn {E = E} text wanted json read_old read_new old new r) ⊎ IsErrUnread r

-- the picture of the selected part of the track, after this many inputs of the log, or after all
pub record IsPicture (text : List ℕ) (after : Option ℕ) (selection : Selection) (read_old read_new : Option (List ℕ)) (drawn : List ℕ) : Type 0 where
  pub told : Draws {T = List ℕ} text after selection read_old read_new (Ok drawn)
  pub is : IsPictureOfRun text after selection read_old read_new drawn

-- What comes of drawing a log, on the track in a text. At Ok the picture was written, and nothing else; at a write fault, or if the reader went
-- away, exactly its first bytes.
abbrev pub DrawsOn : {E : Type 0} → List ℕ → Option ℕ → Selection → Option (List ℕ) → Option (List ℕ) → Option (List ℕ) → Option (List ℕ) → Result E Fault → Type 0
DrawsOn text after selection read_old read_new old new (Ok done) =
    (drawn : List ℕ) × IsPicture text after selection read_old read_new drawn × Appends old new drawn
DrawsOn text after selection read_old read_new old new (Err (Write sent)) =
    (drawn : List ℕ) × IsPicture text after selection read_old read_new drawn × (sent ≤ length drawn) × Appends old new (take sent drawn)
DrawsOn text after selection read_old read_new old new (Err (ReaderGone sent)) =
    (drawn : List ℕ) × IsPicture text after selection read_old read_new drawn × (sent ≤ length drawn) × Appends old new (take sent drawn)
DrawsOn text after selection read_old read_new old new (Err (Draw error)) = Draws {T = List ℕ} text after selection read_old read_new (Err error)
DrawsOn text after selection read_old read_new old new (Err _) = ⊥

-- the same on the track in a file
abbrev pub DrawsPicture : {E : Type 0} → Option ℕ → Selection → Option (List ℕ) → Option (List ℕ) → Option (List ℕ) → Option (List ℕ) → Result E Fault → Type 0
DrawsPicture {E = E} after selection read_old read_new old new r = ((text : List ℕ) × DrawsOn {E = E} text after selection read_old read_new old new r) ⊎ IsErrUnread r
