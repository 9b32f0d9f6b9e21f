-- Messages as text (own rule).
use Rattle.std.specs.Prelude.{◌≡◌, ℕ, List, ◌++◌, Option, Some, None, Bool, true, false, ◌==◌, ◌||◌, codes, slice_get, Result, Err}
use Rattle.std.specs.List.{flat_map}
use Rattle.std.specs.Fmt.{decimal, signed_decimal}
use Rattle.ertms_codec.specs.declared.error.DecodeError.{DecodeError}
use Rattle.ertms_codec.specs.declared.error.ReadError.{ReadError}
use Rattle.ertms_codec.specs.declared.error.ReadError.TheVariants as reading
use Rattle.ertms_codec.specs.declared.text.DescribeError.{DescribeError}
use Rattle.ertms_codec.specs.declared.text.DescribeError.TheVariants.{Decode, OutOfMemory}
use Rattle.ertms_codec.specs.declared.to_train.Head.{Head}
use Rattle.ertms_codec.specs.declared.to_train.ToTrain.{ToTrain}
use Rattle.ertms_codec.specs.declared.to_train.ToTrain.TheVariants.{StopAt, Stop, Revoke, General}
use Rattle.ertms_codec.specs.declared.packets.Part.{Part}
use Rattle.ertms_codec.specs.declared.packets.Part.TheVariants.{Restrict, Lift}
use Rattle.ertms_codec.specs.declared.from_train.Position.{Position}
use Rattle.ertms_codec.specs.declared.from_train.FromTrain.{FromTrain}
use Rattle.ertms_codec.specs.declared.from_train.FromTrain.TheVariants.{Report, Ack, StopAck}
use Rattle.ertms_codec.specs.ToTrain as to_train
use Rattle.ertms_codec.specs.FromTrain as from_train
use Rattle.ertms_codec.specs.RefusalsToTrain as refusals_to_train
use Rattle.ertms_codec.specs.RefusalsFromTrain as refusals_from_train

-- a text, and another after it; it groups to the right
infixr 30 ◌then◌
abbrev pub ◌then◌ : List ℕ → List ℕ → List ℕ
text then more = text ++ more

abbrev pub flag_text : Bool → List ℕ
flag_text true = decimal 1
flag_text false = decimal 0

abbrev pub head_text : Head → List ℕ
head_text head = codes "stamp " then decimal head.stamp then codes " ack " then flag_text head.ack then codes " lrbg " then decimal head.lrbg

abbrev pub packet_text : Part → List ℕ
packet_text (Restrict dir scale id start length front speed) =
    codes "65 dir " then decimal dir then codes " scale " then decimal scale then codes " tsr " then decimal id
    then codes " start " then decimal start then codes " length " then decimal length then codes " front " then flag_text front then codes " speed " then decimal speed
packet_text (Lift dir id) = codes "66 dir " then decimal dir then codes " tsr " then decimal id

-- a packet follows what is before it, after a space
abbrev pub packet_behind : Part → List ℕ
packet_behind part = codes " " then packet_text part

abbrev pub text_to_train : ToTrain → List ℕ
text_to_train (StopAt head id scale reference dir distance) =
    codes "15 " then head_text head then codes " em " then decimal id then codes " scale " then decimal scale
    then codes " ref " then signed_decimal reference then codes " dir " then decimal dir then codes " stop " then decimal distance
text_to_train (Stop head id) = codes "16 " then head_text head then codes " em " then decimal id
text_to_train (Revoke head id) = codes "18 " then head_text head then codes " em " then decimal id
text_to_train (General head packets) = codes "24 " then head_text head then flat_map packet_behind packets

-- packet 1 names the balise group before the last relevant one
abbrev pub groups_text : Option ℕ → ℕ → ℕ → List ℕ
groups_text None scale lrbg = codes "0 scale " then decimal scale then codes " lrbg " then decimal lrbg
groups_text (Some previous) scale lrbg =
    codes "1 scale " then decimal scale then codes " lrbg " then decimal lrbg then codes " previous " then decimal previous

abbrev pub position_text : Position → List ℕ
position_text p =
    groups_text p.previous p.scale p.lrbg
    then codes " distance " then decimal p.distance then codes " dir " then decimal p.dir then codes " side " then decimal p.side
    then codes " over " then decimal p.over then codes " under " then decimal p.under

abbrev pub text_from_train : FromTrain → List ℕ
text_from_train (Report stamp engine position) =
    codes "136 stamp " then decimal stamp then codes " engine " then decimal engine then codes " " then position_text position
text_from_train (Ack stamp engine acked) =
    codes "146 stamp " then decimal stamp then codes " engine " then decimal engine then codes " acked " then decimal acked
text_from_train (StopAck stamp engine id answer position) =
    codes "147 stamp " then decimal stamp then codes " engine " then decimal engine then codes " em " then decimal id then codes " answer " then decimal answer
    then codes " " then position_text position

-- the first byte chooses the reader
abbrev pub is_number_to_train : ℕ → Bool
is_number_to_train number = (number == 15) || (number == 16) || (number == 18) || (number == 24)

abbrev pub is_to_train : Option ℕ → Bool
is_to_train None = false
is_to_train (Some number) = is_number_to_train number

-- bytes spell a message with this text, a line feed at its end; the flag says whether it is one to a train
abbrev pub HasTextOf : Bool → List ℕ → List ℕ → Type 0
HasTextOf true bytes text = (m : ToTrain) × to_train.Spells bytes m × (text ≡ text_to_train m ++ codes "\n")
HasTextOf false bytes text = (m : FromTrain) × from_train.Spells bytes m × (text ≡ text_from_train m ++ codes "\n")

abbrev pub HasText : List ℕ → List ℕ → Type 0
HasText bytes text = HasTextOf (is_to_train (slice_get bytes 0)) bytes text

-- bytes are refused by the reader that their first byte chooses
abbrev pub IsRefusedOf : Bool → List ℕ → DecodeError → Type 0
IsRefusedOf true bytes e = refusals_to_train.Refuses bytes e
IsRefusedOf false bytes e = refusals_from_train.Refuses bytes e

abbrev pub IsRefused : List ℕ → DecodeError → Type 0
IsRefused bytes e = IsRefusedOf (is_to_train (slice_get bytes 0)) bytes e

-- a lack of memory, or a refusal of the bytes
abbrev pub IsFaultOf : Bool → List ℕ → DescribeError → Type 0
IsFaultOf to bytes OutOfMemory = Unit {0}
IsFaultOf to bytes (Decode e) = IsRefusedOf to bytes e

abbrev pub IsFault : List ℕ → DescribeError → Type 0
IsFault bytes fault = IsFaultOf (is_to_train (slice_get bytes 0)) bytes fault

-- why bytes are not read is why they have no text
abbrev pub fault_of_reading : ReadError → DescribeError
fault_of_reading (reading.Decode e) = Decode e
fault_of_reading reading.OutOfMemory = OutOfMemory

-- memory ran out for a message 24 whose packets are read
pub record IsWantOfMemory {T : Type 0} (bytes : List ℕ) (result : Result T DescribeError) : Type 0 where
  pub read : refusals_to_train.AreReadToPackets bytes
  pub is : result ≡ Err OutOfMemory
