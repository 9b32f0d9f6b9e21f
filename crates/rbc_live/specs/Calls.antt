-- The calls of a reader.
use Rattle.std.specs.Prelude.{◌≡◌, ◌⊎◌, true, false, Result, Ok, Err}
use Rattle.rbc_text.specs.Calls.{max_calls}
use Rattle.rbc_text.specs.declared.calls.Calls.{Calls}
use Rattle.rbc_live.specs.declared.prompt.PromptError.{PromptError}
use Rattle.rbc_live.specs.declared.prompt.PromptError.TheVariants.{Read, Memory, Write}

-- At a read fault a call failed, or all calls were made. Otherwise no call failed.
abbrev pub AreCallsAt : {E : Type 0} → Result E PromptError → Calls → Type 0
AreCallsAt (Ok done) calls = calls.failed ≡ false
AreCallsAt (Err Read) calls = (calls.failed ≡ true) ⊎ (calls.made ≡ max_calls)
AreCallsAt (Err Memory) calls = calls.failed ≡ false
AreCallsAt (Err (Write sent)) calls = calls.failed ≡ false
