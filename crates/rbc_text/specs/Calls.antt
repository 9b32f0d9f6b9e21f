-- The calls of a reader.
use Rattle.std.specs.Prelude.{◌≢◌, ◌^◌, ℕ, Result, Ok, Err}
use Rattle.std.specs.IoError.{error_kind}
use Rattle.std.specs.declared.io.Error.{Error}
use Rattle.std.specs.declared.io.ErrorKind.TheVariants.{Interrupted}

-- an answer of a reader is a failure: an error other than an interruption
abbrev pub IsFailure : Result ℕ Error → Type 0
IsFailure (Ok count) = ⊥
IsFailure (Err error) = error_kind error ≢ Interrupted

-- the most calls of a reader
abbrev pub max_calls : ℕ
max_calls = 2 ^ 47
