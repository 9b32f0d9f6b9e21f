-- The names of the codes with which an input is refused (own rule).
use Rattle.std.specs.Prelude.{◌≡◌, ℕ, List, codes}
use Rattle.rbc_rule.specs.Codes.{code_of}
use Rattle.rbc_rule.specs.declared.refuse.Refusal.{Refusal}
use Rattle.rbc_rule.specs.declared.refuse.Refusal.TheVariants.{BadLine, BadHex, Length, Message, Packet, Field, UnknownTrain, AlreadyEnrolled, TooManyTrains, StopsOutstanding, NumberUsed, BadArea, TooManyActive, NoSuchNumber, StampTooHigh, NothingToAcknowledge}
use Rattle.rbc_words.specs.declared.codes.Row.{Row}

-- the name of each reason
abbrev pub name_of : Refusal → List ℕ
name_of BadLine = codes "bad line"
name_of BadHex = codes "bad hex"
name_of Length = codes "length"
name_of Message = codes "message"
name_of Packet = codes "packet"
name_of Field = codes "field"
name_of UnknownTrain = codes "unknown train"
name_of AlreadyEnrolled = codes "already enrolled"
name_of TooManyTrains = codes "too many trains"
name_of StopsOutstanding = codes "stops outstanding"
name_of NumberUsed = codes "number used"
name_of BadArea = codes "bad area"
name_of TooManyActive = codes "too many active"
name_of NoSuchNumber = codes "no such number"
name_of StampTooHigh = codes "stamp too high"
name_of NothingToAcknowledge = codes "nothing to acknowledge"

-- a row is that of a reason: it has the code of the reason, and its name
abbrev pub IsRowOf : Refusal → Row → Type 0
IsRowOf refusal row = (row.code ≡ code_of refusal) × (row.name.now ≡ name_of refusal)
