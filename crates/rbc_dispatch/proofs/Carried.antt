-- What comes of a task, by what was asked for.
use Rattle.std.proofs.Common.{◌≡◌, ◌⊎◌, ◌++◌, refl, inl, inr, subst, sym, ◌∙◌, ℕ, Bool, true, false, List, [], ◌∷◌, Option, Some, None, Result, Err}
use Rattle.std.specs.List.{flat_map}
use denote.Ref.{Bor}
use Rattle.clap.specs.Walk.{Text}
use Rattle.rbc_picture.specs.declared.selection.LinePart.{LinePart}
use Rattle.rbc_picture.specs.declared.selection.Selection.{Selection}
use Rattle.rbc_picture.specs.declared.selection.Selection.TheVariants as selection
use Rattle.rbc_dispatch.specs.Doing.{Announces, Does, LeavesErrors}
use Rattle.rbc_dispatch.specs.Filtering.{EncodesLines, EncodesTextOn}
use Rattle.rbc_dispatch.specs.Running.{Runs}
use Rattle.rbc_dispatch.specs.Showing.{DrawsPicture}
use Rattle.rbc_dispatch.specs.TextWords.{spaced, spaced_text, texts_in}
use Rattle.rbc_dispatch.specs.Words.{Asked, Asks, Chosen, IsSelected, All, Busy, Lines, Train, DoNotFit, Run, Live, Explain, Picture, Check, Encode, Decode, DecodeLines, Codes, Page}
use Rattle.rbc_dispatch.specs.declared.encode.Next.TheVariants.{Word}
use Rattle.rbc_dispatch.specs.declared.fault.Fault.{Fault}
use Rattle.rbc_dispatch.specs.declared.fault.Fault.TheVariants.{OutOfMemory}
use Rattle.rbc_dispatch.proofs.Sending.{says_nothing}

-- ---- memory runs out over the words, and nothing is read or written

-- what holds of each selection holds of the one that is made
is_selected : (chosen : Chosen) (P : Selection → Type 0) → ((one : Selection) → P one) → IsSelected chosen P
is_selected All P holds = holds selection.All
is_selected Busy P holds = holds selection.Busy
is_selected (Lines lines) P holds =
    let parts : Bor (List LinePart) = record { ref_ptr = (0, 0); now = lines } in (parts, refl, holds (selection.Lines parts))
is_selected (Train engine) P holds = holds (selection.Train engine)

pub does_nothing : (E : Type 0) {I O : Type 0} (asked : Asked) (read old : Option (List ℕ)) (input : I) (output : O)
    → Does {E = E} asked read read old old input input output output (Err OutOfMemory)
does_nothing E (Run file workers by_train stats alarms) read old input output = (inr (inr refl), (refl, refl))
does_nothing E (Live file wanted) read old input output = (inr (inr refl), (refl, refl))
does_nothing E (Explain file wanted json) read old input output = (inr (inr refl), (refl, refl))
does_nothing E (Picture file after chosen) read old input output =
    (is_selected chosen (λ one. DrawsPicture {E = E} after one read read old old (Err OutOfMemory)) (λ one. inr (inr refl)), (refl, refl), refl)
does_nothing E (Check file other json) read old input output = (refl, inr (inr refl), refl)
does_nothing E (Encode file []) read old input output = inr (inr refl)
does_nothing E (Encode file (space ∷ text)) read old input output = (refl, inl tt)
does_nothing E (Decode word true) read old input output = (refl, refl, tt)
does_nothing E (Decode word false) read old input output = (refl, refl, tt)
does_nothing E DecodeLines read old input output = inr (inr refl)
does_nothing E (Codes code false) read old input output = (refl, tt)
does_nothing E (Codes code true) read old input output = (refl, tt)
does_nothing E (Page topic) read old input output = refl

announces_nothing : {W : Type 0} (at_terminal : Bool) (notice : List ℕ) (errors : W) (held : Option (List ℕ)) → Announces at_terminal notice errors errors held held
announces_nothing at_terminal notice errors held = (λ away. refl, says_nothing notice held)

pub leaves_errors : {W : Type 0} (asked : Asked) (at_terminal : Bool) (notice : List ℕ) (errors : W) (held : Option (List ℕ))
    → LeavesErrors asked at_terminal notice errors errors held held
leaves_errors (Run file workers by_train true false) at_terminal notice errors held = tt
leaves_errors (Run file workers by_train false false) at_terminal notice errors held = announces_nothing at_terminal notice errors held
leaves_errors (Run file workers by_train true true) at_terminal notice errors held = announces_nothing at_terminal notice errors held
leaves_errors (Run file workers by_train false true) at_terminal notice errors held = announces_nothing at_terminal notice errors held
leaves_errors (Live file wanted) at_terminal notice errors held = announces_nothing at_terminal notice errors held
leaves_errors (Explain file wanted json) at_terminal notice errors held = announces_nothing at_terminal notice errors held
leaves_errors (Picture file after chosen) at_terminal notice errors held = refl
leaves_errors (Check file other json) at_terminal notice errors held = refl
leaves_errors (Encode file text) at_terminal notice errors held = refl
leaves_errors (Decode word long) at_terminal notice errors held = refl
leaves_errors DecodeLines at_terminal notice errors held = refl
leaves_errors (Codes code json) at_terminal notice errors held = refl
leaves_errors (Page topic) at_terminal notice errors held = refl

-- ---- a text among the words begins with a space

flat_begins : (words : List Text) → (flat_map spaced words ≡ []) ⊎ ((text : List ℕ) × (flat_map spaced words ≡ 32 ∷ text))
flat_begins [] = inl refl
flat_begins (word ∷ words) = inr (word ++ flat_map spaced words, refl)

begins : (words : List Text) → (spaced_text words ≡ []) ⊎ ((text : List ℕ) × (spaced_text words ≡ 32 ∷ text))
begins [] = inl refl
begins (command ∷ words) = flat_begins (texts_in Word words)

pub does_encode : {E I O : Type 0} (file : Option Text) (words : List Text) (read_old read_new old new : Option (List ℕ)) (i j : I) (o p : O) (r : Result E Fault)
    → (spaced_text words ≡ [] → EncodesLines {E = E} file read_old read_new old new r)
    → ((text : List ℕ) → spaced_text words ≡ 32 ∷ text → (j ≡ i) × EncodesTextOn {E = E} file text old new r)
    → Does {E = E} (Encode file (spaced_text words)) read_old read_new old new i j o p r
does_encode {E = E} file words read_old read_new old new i j o p r lines text = by_text (begins words)
  where
    by_text : (spaced_text words ≡ []) ⊎ ((rest : List ℕ) × (spaced_text words ≡ 32 ∷ rest)) → Does {E = E} (Encode file (spaced_text words)) read_old read_new old new i j o p r
    by_text (inl none) = subst (λ (t : List ℕ). Does {E = E} (Encode file t) read_old read_new old new i j o p r) (sym none) (lines none)
    by_text (inr some) = subst (λ (t : List ℕ). Does {E = E} (Encode file t) read_old read_new old new i j o p r) (sym some.1) (text some.0 some.1)

-- ---- what was carried out is what was asked for

pub does_as : {E I O : Type 0} (done asked : Asked) (read_old read_new old new : Option (List ℕ)) (i j : I) (o p : O) (r : Result E Fault) → done ≡ asked
    → Does {E = E} done read_old read_new old new i j o p r → Does {E = E} asked read_old read_new old new i j o p r
does_as {E = E} done asked read_old read_new old new i j o p r same does =
    subst (λ (a : Asked). Does {E = E} a read_old read_new old new i j o p r) same does

pub leaves_as : {W : Type 0} (done asked : Asked) (at_terminal : Bool) (notice : List ℕ) (old new : W) (held_old held_new : Option (List ℕ)) → done ≡ asked
    → LeavesErrors done at_terminal notice old new held_old held_new → LeavesErrors asked at_terminal notice old new held_old held_new
leaves_as done asked at_terminal notice old new held_old held_new same leaves =
    subst (λ (a : Asked). LeavesErrors a at_terminal notice old new held_old held_new) same leaves

-- a run, with alarms or without
pub runs_as : {E : Type 0} (workers : ℕ) (alarms done : Bool) (read_old read_new old new : Option (List ℕ)) (r : Result E Fault) → alarms ≡ done
    → Runs {E = E} workers done read_old read_new old new r → Runs {E = E} workers alarms read_old read_new old new r
runs_as {E = E} workers alarms done read_old read_new old new r same runs = subst (λ (b : Bool). Runs {E = E} workers b read_old read_new old new r) (sym same) runs

-- without alarms a run may report figures on standard error, where they are asked for
pub run_errors : {W : Type 0} (file : Text) (workers : ℕ) (by_train stats alarms at_terminal : Bool) (notice : List ℕ) (old new : W) (held_old held_new : Option (List ℕ)) → alarms ≡ false
    → (stats ≡ false → Announces at_terminal notice old new held_old held_new)
    → LeavesErrors (Run file workers by_train stats alarms) at_terminal notice old new held_old held_new
run_errors file workers by_train true false at_terminal notice old new held_old held_new none announces = tt
run_errors file workers by_train false false at_terminal notice old new held_old held_new none announces = announces refl
run_errors file workers by_train true true at_terminal notice old new held_old held_new none announces = cc
run_errors file workers by_train false true at_terminal notice old new held_old held_new none announces = cc

pub alarms_errors : {W : Type 0} (file : Text) (workers : ℕ) (by_train stats alarms at_terminal : Bool) (notice : List ℕ) (old new : W) (held_old held_new : Option (List ℕ)) → alarms ≡ true
    → Announces at_terminal notice old new held_old held_new
    → LeavesErrors (Run file workers by_train stats alarms) at_terminal notice old new held_old held_new
alarms_errors file workers by_train true true at_terminal notice old new held_old held_new some announces = announces
alarms_errors file workers by_train false true at_terminal notice old new held_old held_new some announces = announces
alarms_errors file workers by_train true false at_terminal notice old new held_old held_new some announces = cc
alarms_errors file workers by_train false false at_terminal notice old new held_old held_new some announces = cc

-- words that ask for something fit together
pub fits : (words : List Text) (asked : Asked) → Asks asked words → DoNotFit words → ⊥
fits words asked asks unfit = let same : Some asked ≡ None = sym asks.is ∙ unfit.none in cc
