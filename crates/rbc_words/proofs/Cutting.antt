-- What is taken of a piece, cut by cut.
use Rattle.std.proofs.Common.{◌≡◌, ℕ, ◌+◌, List, [], ◌∷◌, ◌++◌, length, Option, Result, Ok, Err, sym, ap, ◌∙◌, subst, append-nil}
use Rattle.std.specs.Prelude.{OnOk, IfErr, IsErrAnd}
use Rattle.std.specs.Io.KnownBytes.{Appends}
use Rattle.rbc_text.specs.BatchText.{without_empty_end}
use Rattle.rbc_text.specs.Streams.{count_of}
use Rattle.rbc_words.specs.Filters.{IsBegun}
use Rattle.rbc_text.specs.EndedLines.{joined}
use Rattle.rbc_words.specs.UnderWay.{IsUnderWay, IsWaiting, IsWriteFault, IsEnded, HasTaken, passed_on}
use Rattle.rbc_words.specs.declared.session.Session.{Session}
use Rattle.rbc_words.specs.declared.filter.FilterError.{FilterError}
use Rattle.rbc_text.proofs.LinePieces.{line_more}
use Rattle.rbc_words.proofs.Turning.{end_front, first_lines, begun_part}
use Rattle.rbc_words.proofs.Delivered.{ended_of_more}
use Rattle.rbc_words.proofs.Courses.{written_out, not_written}

module _ (becomes : List ℕ → List ℕ → Type 0) {F : Type 0} (is_wrong : List ℕ → F → Type 0) where
  -- a fault at a line behind which there is more
  pub fault_before_more : (old new : Option (List ℕ)) (lines : List (List ℕ)) (begun line : List ℕ) (all pieces left : List (List ℕ)) (first : List ℕ) (more : List (List ℕ))
      (fault : FilterError F) → all ≡ lines ++ joined begun pieces → pieces ≡ line ∷ left → left ≡ first ∷ more → IsEnded becomes is_wrong (lines ++ (begun ++ line) ∷ []) old new fault
      → IsEnded becomes is_wrong (without_empty_end all) old new fault
  fault_before_more old new lines begun line all pieces left first more fault e cut behind is =
      let taken = lines ++ (begun ++ line) ∷ [] in
      ended_of_more becomes is_wrong taken (without_empty_end (first ∷ more)) (without_empty_end all) old new fault
      (ap without_empty_end (e ∙ line_more lines begun line pieces left cut ∙ ap (λ (all : List (List ℕ)). taken ++ all) behind) ∙ end_front taken first more) is

  -- a fault at what goes on
  pub fault_at_last : (old new : Option (List ℕ)) (lines : List (List ℕ)) (begun line : List ℕ) (all pieces left : List (List ℕ)) (fault : FilterError F)
      → all ≡ lines ++ joined begun pieces → pieces ≡ line ∷ left → left ≡ [] → IsEnded becomes is_wrong (without_empty_end (lines ++ (begun ++ line) ∷ [])) old new fault
      → IsEnded becomes is_wrong (without_empty_end all) old new fault
  fault_at_last old new lines begun line all pieces left fault e cut none is =
      subst (λ (ls : List (List ℕ)). IsEnded becomes is_wrong (without_empty_end ls) old new fault)
      (sym (e ∙ ap (λ (ps : List (List ℕ)). lines ++ joined begun ps) (cut ∙ ap (λ (ps : List (List ℕ)). line ∷ ps) none))) is

  -- the piece is taken
  pub piece_taken : {E : Type 0} (before after : Session) (old mid new : Option (List ℕ)) (lines : List (List ℕ)) (begun : List ℕ) (all left : List (List ℕ)) (r : Result E (FilterError F))
      → all ≡ lines ++ joined begun left → left ≡ [] → IsUnderWay becomes before old mid lines begun
      → OnOk r (Appends mid new before.text.items) → IfErr r (IsWriteFault before mid new) → OnOk r (after.outlet.sent ≡ count_of (before.outlet.sent + length before.text.items))
      → OnOk r (IsWaiting after) → after.number ≡ before.number → after.line ≡ before.line
      → HasTaken becomes is_wrong all old new after r
  piece_taken before after old mid new lines begun all left (Ok done) e none is out part counted waiting number line =
      (lines, begun, e ∙ ap (λ (ps : List (List ℕ)). lines ++ joined begun ps) none, written_out becomes before after old mid new lines begun is out counted waiting number line)
  piece_taken before after old mid new lines begun all left (Err fault) e none is out part counted waiting number line =
      subst (λ (ls : List (List ℕ)). IsEnded becomes is_wrong (without_empty_end ls) old new fault) (sym (e ∙ ap (λ (ps : List (List ℕ)). lines ++ joined begun ps) none))
      (not_written becomes is_wrong (without_empty_end (lines ++ begun ∷ [])) before old mid new lines begun fault is
      (first_lines becomes lines is.pending.turned begun (passed_on begun before.line) is.pending.are
      (subst (λ (l : List ℕ). IsBegun becomes l (passed_on begun before.line)) (append-nil begun) (begun_part becomes begun [] before.line is.shown))) part)

  -- a fault that is handed on
  pub hands_on : {E : Type 0} (old new : Option (List ℕ)) (session : Session) (all : List (List ℕ)) (r : Result E (FilterError F)) (fault : FilterError F)
      → IsErrAnd r (λ other. other ≡ fault) → IsEnded becomes is_wrong (without_empty_end all) old new fault → HasTaken becomes is_wrong all old new session r
  hands_on old new session all (Ok done) fault same is = absurd same
  hands_on old new session all (Err other) fault same is = subst (IsEnded becomes is_wrong (without_empty_end all) old new) (sym same) is
