-- How lines that were read come to their end.
use Rattle.std.proofs.Common.{◌≡◌, ℕ, false, not, List, [], ◌∷◌, ◌++◌, Option, Result, Ok, Err, refl, sym, ap, ◌∙◌, subst, append-nil}
use Rattle.std.specs.Prelude.{IsErrAnd}
use Rattle.std.specs.List.{slice_split}
use Rattle.std.specs.Io.KnownBytes.{Consumes, Appends}
use Rattle.rbc_text.specs.BatchText.{is_line_feed, without_empty_end, lines_of}
use Rattle.rbc_text.specs.Streams.{IsAllRead}
use Rattle.rbc_text.specs.EndedLines.{but_last}
use Rattle.rbc_words.specs.Lines.{last_of}
use Rattle.rbc_words.specs.Filters.{Filters, AreTurned, IsPassedOn}
use Rattle.rbc_words.specs.Calls.{AreCallsAt}
use Rattle.rbc_words.specs.UnderWay.{IsUnderWay, IsWaiting, IsDone, IsEnded, GoesOn, passed_on}
use Rattle.rbc_text.specs.declared.calls.Calls.{Calls}
use Rattle.rbc_words.specs.declared.session.Session.{Session}
use Rattle.rbc_words.specs.declared.filter.FilterError.{FilterError}
use Rattle.rbc_words.specs.declared.filter.FilterError.TheVariants.{Read, Memory, Write, Line}
use Rattle.rbc_text.proofs.LinePieces.{but_one}
use Rattle.rbc_words.proofs.Turning.{all_passed}
use Rattle.rbc_words.proofs.Delivered.{pending_out}

last_one : (ended : List (List ℕ)) (rest : List ℕ) → last_of (ended ++ rest ∷ []) ≡ rest
last_one [] rest = refl
last_one (line ∷ []) rest = refl
last_one (line ∷ other ∷ ended) rest = last_one (other ∷ ended) rest

module _ (becomes : List ℕ → List ℕ → Type 0) {F : Type 0} (is_wrong : List ℕ → F → Type 0) (read_old read_new old new : Option (List ℕ)) where
  -- a fault before all is read
  stopped_at : (batch : List ℕ) (fault : FilterError F) → Consumes read_old read_new batch → IsEnded becomes is_wrong (lines_of batch) old new fault
      → Filters {E = Unit {0}} becomes is_wrong read_old read_new old new (Err fault)
  stopped_at batch Read read is = absurd is
  stopped_at batch Memory read is = (batch, is.0, read, is.1, is.2)
  stopped_at batch (Write sent) read is = (batch, is.0, read, is.1, is.2)
  stopped_at batch (Line number fault) read is = (batch, is.0, read, is.1, is.2)

  -- all was read
  pub finished : (batch : List ℕ) (ended : List (List ℕ)) (rest : List ℕ) (r : Result (Unit {0}) (FilterError F)) → IsAllRead read_old read_new batch
      → slice_split is_line_feed batch ≡ ended ++ rest ∷ []
      → GoesOn becomes is_wrong (without_empty_end (ended ++ rest ∷ [])) old new r (IsDone becomes (without_empty_end (ended ++ rest ∷ [])) [] old new)
      → Filters becomes is_wrong read_old read_new old new r
  finished batch ended rest (Ok done) all e is =
      (batch, is.0, all, subst (λ (pieces : List (List ℕ)). AreTurned becomes (without_empty_end pieces) is.0) (sym e) is.1, subst (Appends old new) (append-nil is.0) is.2)
  finished batch ended rest (Err fault) all e is =
      stopped_at batch fault all.0 (subst (λ (pieces : List (List ℕ)). IsEnded becomes is_wrong (without_empty_end pieces) old new fault) (sym e) is)

  -- a fault at a piece
  pub stopped : (batch : List ℕ) (pieces : List (List ℕ)) (r : Result (Unit {0}) (FilterError F)) (fault : FilterError F) → IsErrAnd r (λ other. other ≡ fault) → Consumes read_old read_new batch
      → slice_split is_line_feed batch ≡ pieces → IsEnded becomes is_wrong (without_empty_end pieces) old new fault → Filters becomes is_wrong read_old read_new old new r
  stopped batch pieces (Ok done) fault same read e is = absurd same
  stopped batch pieces (Err other) fault same read e is =
      subst (λ (f : FilterError F). Filters {E = Unit {0}} becomes is_wrong read_old read_new old new (Err f)) (sym same)
      (stopped_at batch fault read (subst (λ (ps : List (List ℕ)). IsEnded becomes is_wrong (without_empty_end ps) old new fault) (sym e) is))

  -- the reader failed
  pub not_read : (batch : List ℕ) (ended : List (List ℕ)) (rest : List ℕ) (session : Session) → Consumes read_old read_new batch → slice_split is_line_feed batch ≡ ended ++ rest ∷ []
      → IsUnderWay becomes session old new ended rest → IsWaiting session
      → Filters {E = Unit {0}} becomes is_wrong read_old read_new old new (Err Read)
  not_read batch ended rest session read e is waiting =
      let done = pending_out becomes session.text.items session.outlet.sent old new ended (passed_on rest session.line) waiting.0 is.pending in (
        batch,
        done.0,
        passed_on rest session.line,
        read,
        subst (λ (lines : List (List ℕ)). AreTurned becomes lines done.0) (sym (ap but_last e ∙ but_one ended rest)) done.1,
        subst (λ (line : List ℕ). IsPassedOn becomes line (passed_on rest session.line)) (sym (ap last_of e ∙ last_one ended rest)) (all_passed becomes rest session.line is.shown),
        done.2,
      )

module _ (becomes : List ℕ → List ℕ → Type 0) {F : Type 0} (is_wrong : List ℕ → F → Type 0) (lines : List (List ℕ)) (old new : Option (List ℕ)) (calls : Calls) (sound : calls.failed ≡ false) where
  -- a fault that is not the reader's
  not_reading : (E : Type 0) (fault : FilterError F) → IsEnded becomes is_wrong lines old new fault → AreCallsAt {E = E} (Err fault) calls
  not_reading E Read is = absurd is
  not_reading E Memory is = sound
  not_reading E (Write sent) is = sound
  not_reading E (Line number fault) is = sound

  -- the last lines were taken, or a fault came
  pub called_to_end : {E : Type 0} (P : Type 0) (r : Result E (FilterError F)) → GoesOn becomes is_wrong lines old new r P → AreCallsAt r calls
  called_to_end P (Ok done) is = sound
  called_to_end {E} P (Err fault) is = not_reading E fault is

  -- a fault came at the lines of a piece
  pub called_to_fault : {E : Type 0} (r : Result E (FilterError F)) (fault : FilterError F) → IsErrAnd r (λ other. other ≡ fault) → IsEnded becomes is_wrong lines old new fault → AreCallsAt r calls
  called_to_fault (Ok done) fault same is = absurd same
  called_to_fault {E} (Err other) fault same is = subst (λ (f : FilterError F). AreCallsAt {E = E} (Err f) calls) (sym same) (not_reading E fault is)
