-- The numbers of what calls answer (own rule).
use Rattle.std.specs.Prelude.{ℕ}
use Rattle.ertms_codec.specs.declared.error.DecodeError.{DecodeError}
use Rattle.ertms_codec.specs.declared.error.DecodeError.TheVariants.{Length, Message, Packet, Field}
use Rattle.ertms_codec.specs.declared.error.ReadError.{ReadError}
use Rattle.ertms_codec.specs.declared.error.ReadError.TheVariants.{Decode, OutOfMemory}

abbrev pub code_of : DecodeError → ℕ
code_of Length = 1
code_of Message = 2
code_of Packet = 3
code_of Field = 4

-- the number of a call that is done
abbrev pub done : ℕ
done = 0

-- the number for a lack of memory
abbrev pub memory : ℕ
memory = 5

-- the numbers for fields of no message, for too little room, and for a wrong word of a text
abbrev pub no_message : ℕ
no_message = 6

abbrev pub room : ℕ
room = 7

abbrev pub wrong_word : ℕ
wrong_word = 8

abbrev pub read_code_of : ReadError → ℕ
read_code_of (Decode e) = code_of e
read_code_of OutOfMemory = memory
