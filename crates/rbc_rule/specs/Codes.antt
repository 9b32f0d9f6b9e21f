-- The codes with which an input is refused (own rule).
use Rattle.std.specs.Prelude.{◌≡◌, ℕ, Result, Err}
use Rattle.rbc_rule.specs.declared.refuse.NotChanged.{NotChanged}
use Rattle.rbc_rule.specs.declared.refuse.NotChanged.TheVariants.{Refused, OutOfMemory}
use Rattle.rbc_rule.specs.declared.refuse.Refusal.{Refusal}
use Rattle.rbc_rule.specs.declared.refuse.Refusal.TheVariants.{BadLine, BadHex, Length, Message, Packet, Field, UnknownTrain, AlreadyEnrolled, TooManyTrains, StopsOutstanding, NumberUsed, BadArea, TooManyActive, NoSuchNumber, StampTooHigh, NothingToAcknowledge}

-- R-INPUT-1: the code of each reason
abbrev pub code_of : Refusal → ℕ
code_of BadLine = 1
code_of BadHex = 2
code_of Length = 3
code_of Message = 4
code_of Packet = 5
code_of Field = 6
code_of UnknownTrain = 7
code_of AlreadyEnrolled = 8
code_of TooManyTrains = 9
code_of StopsOutstanding = 10
code_of NumberUsed = 11
code_of BadArea = 12
code_of TooManyActive = 13
code_of NoSuchNumber = 14
code_of StampTooHigh = 15
code_of NothingToAcknowledge = 16

-- why there is no new value, if a definition gives this result: it refuses with the code of the refusal, or memory ran out
abbrev pub IsReason : {A : Type 0} → Result A ℕ → NotChanged → Type 0
IsReason given (Refused refusal) = Err (code_of refusal) ≡ given
IsReason given OutOfMemory = Unit
