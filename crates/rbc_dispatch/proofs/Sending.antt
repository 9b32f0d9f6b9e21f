-- What one write after another puts out.
use Rattle.std.proofs.Common.{◌≤◌, ℕ, List, Option, Result, Ok, Err, IfErr, OnOk, take, length, sym, subst, arith}
use Rattle.std.specs.Io.KnownBytes.{Appends}
use Rattle.std.proofs.lemmas.List.{take_all}
use Rattle.std.proofs.KnownBytes.{Appends-nil}
use Rattle.rbc_text.specs.declared.writing.Unwritten.{Unwritten}
use Rattle.rbc_dispatch.specs.Terminal.{SaysOnly}

-- so no more of a notice than nothing is out
pub says_nothing : (notice : List ℕ) (old : Option (List ℕ)) → SaysOnly notice old old
says_nothing notice old = (0, Appends-nil old)

-- whatever comes of writing it
pub says_only : {T : Type 0} (notice : List ℕ) (old new : Option (List ℕ)) (r : Result T Unwritten) → OnOk r (Appends old new notice)
    → IfErr r (λ unwritten. (unwritten.sent ≤ length notice) × Appends old new (take unwritten.sent notice)) → SaysOnly notice old new
says_only notice old new (Ok done) all part = (length notice, subst (Appends old new) (sym (take_all (length notice) notice (omega arith))) all)
says_only notice old new (Err unwritten) all part = (unwritten.sent, part.1)
