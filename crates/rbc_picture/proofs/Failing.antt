-- Why no picture is drawn.
use Rattle.std.proofs.Common.{◌≡◌, ℕ, List, Option, Some, Result, Ok, Err, refl, sym, subst}
use Rattle.std.specs.Result.{IfErr, IsErrAnd}
use Rattle.rbc_track.specs.Plan.{Plan}
use Rattle.rbc_track.specs.Reading.{IsTrackOf}
use Rattle.rbc_text.specs.BatchText.{lines_of}
use Rattle.rbc_text.specs.Streams.{IsAllRead}
use Rattle.rbc_account.specs.Telling.{LeavesUnread, Tells, TooFewFor}
use Rattle.rbc_account.specs.declared.fault.TellError.{TellError}
use Rattle.rbc_account.specs.declared.fault.TellError.TheVariants as telling
use Rattle.rbc_picture.specs.Drawn.{lines_taken}
use Rattle.rbc_picture.specs.NotDrawn.{Draws, FailsFor, LacksTrain, StaysUnread}
use Rattle.rbc_picture.specs.Selections.{IsOfLine, lines_fault}
use Rattle.rbc_picture.specs.declared.fault.DrawError.{DrawError}
use Rattle.rbc_picture.specs.declared.fault.DrawError.TheVariants.{Tell, NoLine, BeyondLine, NoTrain}
use Rattle.rbc_picture.specs.declared.selection.Selection.{Selection}

-- memory was refused
pub memory_fails : {T : Type 0} (Lacks : ℕ → Type 0) (r : Result T DrawError) → IsErrAnd r (λ x. x ≡ Tell telling.Memory) → IfErr r (FailsFor Lacks)
memory_fails Lacks (Ok done) is = absurd is
memory_fails Lacks (Err fault) is = rw is refl

-- a fault is handed on
pub fault_fails : {T : Type 0} (Lacks : ℕ → Type 0) (fault : DrawError) (r : Result T DrawError) → IsErrAnd r (λ x. x ≡ fault) → FailsFor Lacks fault → IfErr r (FailsFor Lacks)
fault_fails Lacks fault (Ok done) is fails = absurd is
fault_fails Lacks fault (Err x) is fails = subst (FailsFor Lacks) (sym is) fails

-- why a run is not told, for results of either kind
untold : (T U : Type 0) (Missing : ℕ → Type 0) (text : List ℕ) (old new : Option (List ℕ)) (error : TellError)
    → Tells {T = U} Missing text old new (Err error) → Tells {T = T} Missing text old new (Err error)
untold T U Missing text old new (telling.Track error) told = told
untold T U Missing text old new telling.Read told = told
untold T U Missing text old new telling.Memory told = told
untold T U Missing text old new (telling.OnlyInputs count) told = told
untold T U Missing text old new (telling.Write sent) told = told
untold T U Missing text old new (telling.ReaderGone sent) told = told

-- nothing is drawn where the run is not told
pub not_told : {T : Type 0} (U : Type 0) (text : List ℕ) (after : Option ℕ) (selection : Selection) (old new : Option (List ℕ)) (error : TellError) (r : Result T DrawError)
    → IsErrAnd r (λ x. x ≡ Tell error) → Tells {T = U} (TooFewFor after) text old new (Err error) → Draws text after selection old new r
not_told U text after selection old new error (Ok done) is told = absurd is
not_told {T} U text after selection old new error (Err x) is told =
    subst (λ (y : DrawError). Draws {T = T} text after selection old new (Err y)) (sym is) (untold T U (TooFewFor after) text old new error told)

-- nor where a line that is named is not on the track
pub off_track : {T : Type 0} (text : List ℕ) (plan : Plan) (after : Option ℕ) (selection : Selection) (old new : Option (List ℕ)) (fault : DrawError) (r : Result T DrawError)
    → IsErrAnd r (λ x. x ≡ fault) → IsTrackOf text plan → lines_fault plan selection ≡ Some fault → IsOfLine fault → Draws text after selection old new r
off_track text plan after selection old new fault (Ok done) is track first line = absurd is
off_track {T} text plan after selection old new fault (Err x) is track first line =
    subst (λ (y : DrawError). Draws {T = T} text after selection old new (Err y)) (sym is) (by_fault fault first line) where
      by_fault : (f : DrawError) → lines_fault plan selection ≡ Some f → IsOfLine f → Draws {T = T} text after selection old new (Err f)
      by_fault (Tell error) same of_line = absurd of_line
      by_fault (NoLine number) same of_line = record { plan = plan; is_track = track; first = same }
      by_fault (BeyondLine number) same of_line = record { plan = plan; is_track = track; first = same }
      by_fault (NoTrain engine) same of_line = absurd of_line

-- then nothing was read
pub stays_unread : {T R : Type 0} (fault : DrawError) (r : Result T DrawError) (old : R) → IsErrAnd r (λ x. x ≡ fault) → IsOfLine fault → StaysUnread r old old
stays_unread fault (Ok done) old is line = absurd is
stays_unread {T} {R} fault (Err x) old is line = subst (λ (y : DrawError). StaysUnread {T = T} {R = R} (Err y) old old) (sym is) (by_fault fault line) where
  by_fault : (f : DrawError) → IsOfLine f → StaysUnread {T = T} {R = R} (Err f) old old
  by_fault (Tell error) of_line = absurd of_line
  by_fault (NoLine number) of_line = refl
  by_fault (BeyondLine number) of_line = refl
  by_fault (NoTrain engine) of_line = absurd of_line

-- whatever was read where it fails after all lines
pub fails_unread : {T R : Type 0} (Lacks : ℕ → Type 0) (fault : DrawError) (r : Result T DrawError) (before behind : R) → IsErrAnd r (λ x. x ≡ fault) → FailsFor Lacks fault
    → StaysUnread r before behind
fails_unread Lacks fault (Ok done) before behind is fails = absurd is
fails_unread {T} {R} Lacks fault (Err x) before behind is fails =
    subst (λ (y : DrawError). StaysUnread {T = T} {R = R} (Err y) before behind) (sym is) (by_fault fault fails) where
      by_fault : (f : DrawError) → FailsFor Lacks f → StaysUnread {T = T} {R = R} (Err f) before behind
      by_fault (Tell error) same = subst (λ (e : TellError). LeavesUnread {T = T} {R = R} (Err e) before behind) (sym same) tt
      by_fault (NoLine number) same = absurd same
      by_fault (BeyondLine number) same = absurd same
      by_fault (NoTrain engine) same = tt

-- nor where the train that is named is lacking
pub lacks_in_run : {T : Type 0} (text : List ℕ) (plan : Plan) (batch : List ℕ) (after : Option ℕ) (selection : Selection) (old new : Option (List ℕ)) (fault : DrawError) (r : Result T DrawError)
    → IsErrAnd r (λ x. x ≡ fault) → IsTrackOf text plan → IsAllRead old new batch
    → FailsFor (LacksTrain plan selection (lines_taken after (lines_of batch))) fault → Draws text after selection old new r
lacks_in_run text plan batch after selection old new fault (Ok done) is track read fails = absurd is
lacks_in_run {T} text plan batch after selection old new fault (Err x) is track read fails =
    subst (λ (y : DrawError). Draws {T = T} text after selection old new (Err y)) (sym is) (by_fault fault fails) where
      by_fault : (f : DrawError) → FailsFor (LacksTrain plan selection (lines_taken after (lines_of batch))) f → Draws {T = T} text after selection old new (Err f)
      by_fault (Tell error) same = rw same tt
      by_fault (NoLine number) same = absurd same
      by_fault (BeyondLine number) same = absurd same
      by_fault (NoTrain engine) same = record { plan = plan; batch = batch; is_track = track; read = read; lacking = same }
