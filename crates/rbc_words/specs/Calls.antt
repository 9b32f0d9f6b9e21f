-- The calls of a reader.
use Rattle.std.specs.Prelude.{◌≡◌, ◌⊎◌, true, false, Result, Ok, Err}
use Rattle.rbc_text.specs.Calls.{max_calls}
use Rattle.rbc_text.specs.declared.calls.Calls.{Calls}
use Rattle.rbc_words.specs.declared.filter.FilterError.{FilterError}
use Rattle.rbc_words.specs.declared.filter.FilterError.TheVariants.{Read, Memory, Write, Line}

-- At a read fault a call failed, or all calls were made. Else no call failed.
abbrev pub AreCallsAt : {E F : Type 0} → Result E (FilterError F) → Calls → Type 0
AreCallsAt (Ok done) calls = calls.failed ≡ false
AreCallsAt (Err Read) calls = (calls.failed ≡ true) ⊎ (calls.made ≡ max_calls)
AreCallsAt (Err Memory) calls = calls.failed ≡ false
AreCallsAt (Err (Write sent)) calls = calls.failed ≡ false
AreCallsAt (Err (Line number fault)) calls = calls.failed ≡ false
