-- What closing a handle does (own rule).
use Rattle.std.specs.Prelude.{◌≡◌, ℕ, Option, Some, None}
use Rattle.rbc_live.specs.declared.desk.LiveDesk.{LiveDesk}

-- there is no desk afterwards; the code is 0, or 2 if there was none before
abbrev pub Closes : Option LiveDesk → ℕ → Option LiveDesk → Type 0
Closes (Some desk) code after = (code ≡ 0) × (after ≡ None)
Closes None code after = (code ≡ 2) × (after ≡ None)
