-- How a run ends that is not told, or not drawn: why is handed on.
use Rattle.std.proofs.Common.{◌≡◌, ℕ, Bool, List, Option, Result, Ok, Err, refl}
use Rattle.std.specs.Result.{IsErrAnd}
use Rattle.rbc_account.specs.Telling.{LeavesUnread, Tells, TooFewFor}
use Rattle.rbc_account.specs.declared.fault.TellError.{TellError}
use Rattle.rbc_account.specs.declared.fault.TellError.TheVariants as telling
use Rattle.rbc_account.specs.declared.log_form.LogWanted.{LogWanted}
use Rattle.rbc_picture.specs.NotDrawn.{Draws, StaysUnread}
use Rattle.rbc_picture.specs.declared.fault.DrawError.{DrawError}
use Rattle.rbc_picture.specs.declared.fault.DrawError.TheVariants as drawing
use Rattle.rbc_picture.specs.declared.selection.Selection.{Selection}
use Rattle.rbc_dispatch.specs.Decoding.{IsUntouched}
use Rattle.rbc_dispatch.specs.Running.{Keeps}
use Rattle.rbc_dispatch.specs.Showing.{DrawsOn, TellsIn, TellsOn}
use Rattle.rbc_dispatch.specs.declared.fault.Fault.{Fault}
use Rattle.rbc_dispatch.specs.declared.fault.Fault.TheVariants.{Tell, Draw}

pub not_told : {E : Type 0} (text : List ℕ) (wanted : LogWanted) (json : Bool) (read_old read_new old new : Option (List ℕ)) (r : Result E Fault) (e : TellError)
    → IsErrAnd r (λ x. x ≡ Tell e) → TellsIn {E = E} text wanted json read_old read_new old new (Err e) → TellsOn {E = E} text wanted json read_old read_new old new r
not_told text wanted json read_old read_new old new (Ok done) e same told = absurd same
not_told text wanted json read_old read_new old new (Err fault) e same told = rw same told

pub kept : {E I O : Type 0} (read_old read_new : I) (old new : O) (r : Result E Fault) (e : TellError)
    → IsErrAnd r (λ x. x ≡ Tell e) → LeavesUnread {T = E} (Err e) read_old read_new → LeavesUnread {T = E} (Err e) old new → Keeps {E = E} r read_old read_new old new
kept read_old read_new old new (Ok done) e same unread unwritten = absurd same
kept read_old read_new old new (Err fault) e same unread unwritten = rw same (unread, unwritten)

-- what is said of no result is said of none of any type
told_alike : (A B : Type 0) (Missing : ℕ → Type 0) (text : List ℕ) (read_old read_new : Option (List ℕ)) (e : TellError)
    → Tells {T = A} Missing text read_old read_new (Err e) → Tells {T = B} Missing text read_old read_new (Err e)
told_alike A B Missing text read_old read_new (telling.Track error) told = told
told_alike A B Missing text read_old read_new telling.Read told = told
told_alike A B Missing text read_old read_new telling.Memory told = told
told_alike A B Missing text read_old read_new (telling.OnlyInputs count) told = told
told_alike A B Missing text read_old read_new (telling.Write sent) told = told
told_alike A B Missing text read_old read_new (telling.ReaderGone sent) told = told

drawn_alike : (A B : Type 0) (text : List ℕ) (after : Option ℕ) (selection : Selection) (read_old read_new : Option (List ℕ)) (e : DrawError)
    → Draws {T = A} text after selection read_old read_new (Err e) → Draws {T = B} text after selection read_old read_new (Err e)
drawn_alike A B text after selection read_old read_new (drawing.Tell error) drawn = told_alike A B (TooFewFor after) text read_old read_new error drawn
drawn_alike A B text after selection read_old read_new (drawing.NoLine line) drawn = drawn
drawn_alike A B text after selection read_old read_new (drawing.BeyondLine line) drawn = drawn
drawn_alike A B text after selection read_old read_new (drawing.NoTrain engine) drawn = drawn

pub not_drawn : {E : Type 0} (T : Type 0) (text : List ℕ) (after : Option ℕ) (selection : Selection) (read_old read_new old new : Option (List ℕ)) (r : Result E Fault) (e : DrawError)
    → IsErrAnd r (λ x. x ≡ Draw e) → Draws {T = T} text after selection read_old read_new (Err e) → DrawsOn {E = E} text after selection read_old read_new old new r
not_drawn T text after selection read_old read_new old new (Ok done) e same drawn = absurd same
not_drawn T text after selection read_old read_new old new (Err fault) e same drawn = rw same (drawn_alike T (List ℕ) text after selection read_old read_new e drawn)

unread_alike : {R : Type 0} (A B : Type 0) (old new : R) (e : TellError) → LeavesUnread {T = A} (Err e) old new → LeavesUnread {T = B} (Err e) old new
unread_alike A B old new (telling.Track error) unread = unread
unread_alike A B old new telling.Read unread = unread
unread_alike A B old new telling.Memory unread = unread
unread_alike A B old new (telling.OnlyInputs count) unread = unread
unread_alike A B old new (telling.Write sent) unread = unread
unread_alike A B old new (telling.ReaderGone sent) unread = unread

stays_alike : {R : Type 0} (A B : Type 0) (old new : R) (e : DrawError) → StaysUnread {T = A} (Err e) old new → StaysUnread {T = B} (Err e) old new
stays_alike A B old new (drawing.Tell error) unread = unread_alike A B old new error unread
stays_alike A B old new (drawing.NoLine line) unread = unread
stays_alike A B old new (drawing.BeyondLine line) unread = unread
stays_alike A B old new (drawing.NoTrain engine) unread = unread

pub kept_undrawn : {E I O : Type 0} (T : Type 0) (read_old read_new : I) (old : O) (r : Result E Fault) (e : DrawError)
    → IsErrAnd r (λ x. x ≡ Draw e) → StaysUnread {T = T} (Err e) read_old read_new → Keeps {E = E} r read_old read_new old old
kept_undrawn T read_old read_new old (Ok done) e same unread = absurd same
kept_undrawn {E = E} T read_old read_new old (Err fault) e same unread = rw same (stays_alike T E read_old read_new e unread, refl)

pub untouched : {E O : Type 0} (old : O) (r : Result E Fault) (e : DrawError) → IsErrAnd r (λ x. x ≡ Draw e) → IsUntouched {E = E} r old old
untouched old (Ok done) e same = absurd same
untouched old (Err fault) e same = rw same refl
