-- How the calls of a reader stand at the end.
use Rattle.std.proofs.Common.{◌≡◌, ℕ, false, not, List, Option, Result, Ok, Err, subst, sym}
use Rattle.std.specs.Prelude.{IsErrAnd}
use Rattle.rbc_track.specs.Plan.{Plan}
use Rattle.rbc_live.specs.declared.wanted.Wanted.{Wanted}
use Rattle.rbc_live.specs.UnderWay.{IsEnded, GoesOn}
use Rattle.rbc_live.specs.Calls.{AreCallsAt}
use Rattle.rbc_text.specs.declared.calls.Calls.{Calls}
use Rattle.rbc_live.specs.declared.prompt.PromptError.{PromptError}
use Rattle.rbc_live.specs.declared.prompt.PromptError.TheVariants.{Read, Memory, Write}

module _ (plan : Plan) (wanted : Wanted) (lines : List (List ℕ)) (old new : Option (List ℕ)) (calls : Calls) (sound : calls.failed ≡ false) where
  -- a fault that is not the reader's
  not_reading : (E : Type 0) (fault : PromptError) → IsEnded plan wanted lines old new fault → AreCallsAt {E = E} (Err fault) calls
  not_reading E Read is = absurd is
  not_reading E Memory is = sound
  not_reading E (Write sent) is = sound

  -- the last lines were taken, or a fault came
  pub called_to_end : {E : Type 0} (P : Type 0) (r : Result E PromptError) → GoesOn plan wanted lines old new r P → AreCallsAt r calls
  called_to_end P (Ok done) is = sound
  called_to_end {E} P (Err fault) is = not_reading E fault is

  -- a fault came at the lines of a piece
  pub called_to_fault : {E : Type 0} (r : Result E PromptError) (fault : PromptError) → IsErrAnd r (λ other. other ≡ fault) → IsEnded plan wanted lines old new fault → AreCallsAt r calls
  called_to_fault (Ok done) fault same is = absurd same
  called_to_fault {E} (Err other) fault same is = subst (λ (f : PromptError). AreCallsAt {E = E} (Err f) calls) (sym same) (not_reading E fault is)
