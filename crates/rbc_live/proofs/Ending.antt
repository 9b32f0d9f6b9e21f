-- How lines that were read come to their end.
use Rattle.std.proofs.Common.{◌≡◌, ℕ, List, [], ◌∷◌, ◌++◌, Option, Result, Ok, Err, sym, ap, ◌∙◌, subst}
use Rattle.std.specs.Prelude.{IsErrAnd}
use Rattle.std.specs.List.{slice_split}
use Rattle.std.specs.Io.KnownBytes.{Consumes}
use Rattle.rbc_track.specs.Plan.{Plan}
use Rattle.rbc_text.specs.BatchText.{is_line_feed, without_empty_end, lines_of}
use Rattle.rbc_text.specs.Streams.{IsAllRead}
use Rattle.rbc_live.specs.declared.wanted.Wanted.{Wanted}
use Rattle.rbc_text.specs.EndedLines.{but_last}
use Rattle.rbc_live.specs.Lines.{AreAnswers}
use Rattle.rbc_live.specs.Answers.{Answers}
use Rattle.rbc_live.specs.UnderWay.{IsUnderWay, IsWaiting, IsDone, IsEnded, GoesOn}
use Rattle.rbc_live.specs.declared.session.Session.{Session}
use Rattle.rbc_live.specs.declared.prompt.PromptError.{PromptError}
use Rattle.rbc_live.specs.declared.prompt.PromptError.TheVariants.{Read, Memory, Write}
use Rattle.rbc_text.proofs.LinePieces.{but_one, lines_beyond}
use Rattle.rbc_live.proofs.Writing.{nothing_left, ended_of_more}

module _ (plan : Plan) (wanted : Wanted) (read_old read_new old new : Option (List ℕ)) where
  -- a fault before all is read
  stopped_at : (batch : List ℕ) (fault : PromptError) → Consumes read_old read_new batch → IsEnded plan wanted (lines_of batch) old new fault
      → Answers {E = Unit {0}} plan wanted read_old read_new old new (Err fault)
  stopped_at batch Read read is = absurd is
  stopped_at batch Memory read is = (batch, is.0, read, is.1, is.2)
  stopped_at batch (Write sent) read is = (batch, is.0, read, is.1, is.2)

  -- all was read
  pub finished : (batch : List ℕ) (ended : List (List ℕ)) (rest : List ℕ) (r : Result (Unit {0}) PromptError) → IsAllRead read_old read_new batch
      → slice_split is_line_feed batch ≡ ended ++ rest ∷ []
      → GoesOn plan wanted (without_empty_end (ended ++ rest ∷ [])) old new r (IsDone plan wanted (without_empty_end (ended ++ rest ∷ [])) old new)
      → Answers plan wanted read_old read_new old new r
  finished batch ended rest (Ok done) all e is =
      (batch, is.0, all, subst (λ (pieces : List (List ℕ)). AreAnswers plan wanted (without_empty_end pieces) is.0) (sym e) is.1, is.2)
  finished batch ended rest (Err fault) all e is =
      stopped_at batch fault all.0 (subst (λ (pieces : List (List ℕ)). IsEnded plan wanted (without_empty_end pieces) old new fault) (sym e) is)

  -- a fault at a piece
  pub stopped : (batch : List ℕ) (pieces : List (List ℕ)) (r : Result (Unit {0}) PromptError) (fault : PromptError) → IsErrAnd r (λ other. other ≡ fault) → Consumes read_old read_new batch
      → slice_split is_line_feed batch ≡ pieces → IsEnded plan wanted (but_last pieces) old new fault → Answers plan wanted read_old read_new old new r
  stopped batch pieces (Ok done) fault same read e is = absurd same
  stopped batch pieces (Err other) fault same read e is =
      let beyond = lines_beyond pieces in
      subst (λ (f : PromptError). Answers {E = Unit {0}} plan wanted read_old read_new old new (Err f)) (sym same)
      (stopped_at batch fault read (ended_of_more plan wanted (but_last pieces) beyond.0 (lines_of batch) old new fault (ap without_empty_end e ∙ beyond.1) is))

  -- the reader failed
  pub not_read : (batch : List ℕ) (ended : List (List ℕ)) (rest : List ℕ) (session : Session) → Consumes read_old read_new batch → slice_split is_line_feed batch ≡ ended ++ rest ∷ []
      → IsUnderWay plan wanted session old new ended rest → IsWaiting session
      → Answers {E = Unit {0}} plan wanted read_old read_new old new (Err Read)
  not_read batch ended rest session read e is waiting =
      let done = nothing_left plan wanted session old new ended rest is waiting in
      (batch, done.0, read, subst (λ (lines : List (List ℕ)). AreAnswers plan wanted lines done.0) (sym (ap but_last e ∙ but_one ended rest)) done.1, done.2)
