-- What is taken of a piece, cut by cut.
use Rattle.std.proofs.Common.{◌≡◌, ℕ, List, [], ◌∷◌, ◌++◌, Option, Result, Ok, Err, sym, ap, ◌∙◌, subst}
use Rattle.std.specs.Prelude.{OnOk, IsErrAnd}
use Rattle.rbc_track.specs.Plan.{Plan}
use Rattle.rbc_live.specs.declared.wanted.Wanted.{Wanted}
use Rattle.rbc_text.specs.EndedLines.{but_last}
use Rattle.rbc_live.specs.UnderWay.{IsUnderWay, IsEnded, GoesOn, HasTaken}
use Rattle.rbc_text.specs.EndedLines.{joined}
use Rattle.rbc_live.specs.declared.session.Session.{Session}
use Rattle.rbc_live.specs.declared.prompt.PromptError.{PromptError}
use Rattle.rbc_text.proofs.LinePieces.{but_last_behind, but_one, line_more}
use Rattle.rbc_live.proofs.Writing.{ended_of_more}

-- a fault at a line behind which there is more
pub fault_before_more : (plan : Plan) (wanted : Wanted) (old new : Option (List ℕ)) (lines : List (List ℕ)) (begun line : List ℕ) (all pieces left : List (List ℕ)) (first : List ℕ) (more : List (List ℕ))
    (fault : PromptError) → all ≡ lines ++ joined begun pieces → pieces ≡ line ∷ left → left ≡ first ∷ more → IsEnded plan wanted (lines ++ (begun ++ line) ∷ []) old new fault
    → IsEnded plan wanted (but_last all) old new fault
fault_before_more plan wanted old new lines begun line all pieces left first more fault e cut behind is =
    let taken = lines ++ (begun ++ line) ∷ [] in
    ended_of_more plan wanted taken (but_last (first ∷ more)) (but_last all) old new fault
    (ap but_last (e ∙ line_more lines begun line pieces left cut ∙ ap (λ (all : List (List ℕ)). taken ++ all) behind) ∙ but_last_behind taken first more) is

-- a fault at what goes on
pub fault_at_last : (plan : Plan) (wanted : Wanted) (old new : Option (List ℕ)) (lines : List (List ℕ)) (begun line : List ℕ) (all pieces left : List (List ℕ)) (fault : PromptError)
    → all ≡ lines ++ joined begun pieces → pieces ≡ line ∷ left → left ≡ [] → IsEnded plan wanted lines old new fault → IsEnded plan wanted (but_last all) old new fault
fault_at_last plan wanted old new lines begun line all pieces left fault e cut none is =
    subst (λ (ls : List (List ℕ)). IsEnded plan wanted ls old new fault)
    (sym (ap but_last (e ∙ ap (λ (ps : List (List ℕ)). lines ++ joined begun ps) (cut ∙ ap (λ (ps : List (List ℕ)). line ∷ ps) none)) ∙ but_one lines (begun ++ line))) is

-- the piece is taken
pub piece_taken : {E : Type 0} (P : Type 0) (plan : Plan) (wanted : Wanted) (old new : Option (List ℕ)) (session : Session) (lines : List (List ℕ)) (begun : List ℕ) (all left : List (List ℕ)) (r : Result E PromptError)
    → all ≡ lines ++ joined begun left → left ≡ [] → GoesOn plan wanted lines old new r P → OnOk r (IsUnderWay plan wanted session old new lines begun)
    → HasTaken plan wanted all old new session r
piece_taken P plan wanted old new session lines begun all left (Ok done) e none first second = (lines, begun, e ∙ ap (λ (ps : List (List ℕ)). lines ++ joined begun ps) none, second)
piece_taken P plan wanted old new session lines begun all left (Err fault) e none first second =
    subst (λ (ls : List (List ℕ)). IsEnded plan wanted ls old new fault)
    (sym (ap but_last (e ∙ ap (λ (ps : List (List ℕ)). lines ++ joined begun ps) none) ∙ but_one lines begun)) first

-- a fault that is handed on
pub hands_on : {E : Type 0} (plan : Plan) (wanted : Wanted) (old new : Option (List ℕ)) (session : Session) (all : List (List ℕ)) (r : Result E PromptError) (fault : PromptError)
    → IsErrAnd r (λ other. other ≡ fault) → IsEnded plan wanted (but_last all) old new fault → HasTaken plan wanted all old new session r
hands_on plan wanted old new session all (Ok done) fault same is = absurd same
hands_on plan wanted old new session all (Err other) fault same is = subst (IsEnded plan wanted (but_last all) old new) (sym same) is
