-- The names of the refusals.
use Rattle.std.specs.Prelude.{ℕ, List, codes}
use Rattle.ertms_codec.specs.declared.error.DecodeError.{DecodeError}
use Rattle.ertms_codec.specs.declared.error.DecodeError.TheVariants.{Length, Message, Packet, Field}

-- the name of a refusal, as it is printed
abbrev pub name_of : DecodeError → List ℕ
name_of Length = codes "Length"
name_of Message = codes "Message"
name_of Packet = codes "Packet"
name_of Field = codes "Field"
