-- What the value of a variable means, in words and with its unit.
use Rattle.std.specs.Prelude.{ℕ, List, ◌++◌, ◌*◌, ◌/◌, ◌%◌, ◌-◌, ◌==◌, ◌||◌, if◌then◌else◌, nat_lt, codes}
use Rattle.std.specs.Fmt.{decimal}
use Rattle.rbc_dispatch.specs.declared.meaning.Meaning.{Meaning}
use Rattle.rbc_dispatch.specs.declared.meaning.Meaning.TheVariants.{Words, Bytes, Bits, Time, Length, Back, Speed, Group}
use Rattle.rbc_dispatch.specs.declared.variable.Variable.{Variable}
use Rattle.rbc_dispatch.specs.declared.variable.Variable.TheVariants.{NidMessage, LMessage, TTrain, MAck, NidLrbg, NidEngine, TTrainAcked, NidEm, QEmergencystop, QScale, DRef, QDir, DEmergencystop, NidPacket, LPacket, NidTsr, DTsr, LTsr, QFront, VTsr, NidPrvlrbg, DLrbg, QDirlrbg, QDlrbg, LDoubtover, LDoubtunder, QLength, LTrainint, VTrain, QDirtrain, MMode, MLevel, NidNtc, Passed, Fill}

-- ---- with a unit

-- a time in units of 10 ms, as seconds
abbrev pub seconds : ℕ → List ℕ
seconds count = decimal (count / 100) ++ (codes "." ++ (decimal (count / 10 % 10) ++ (decimal (count % 10) ++ codes " s")))

-- a length in units of 10 cm, as metres
abbrev pub metres : ℕ → List ℕ
metres length = decimal (length / 10) ++ (codes "." ++ (decimal (length % 10) ++ codes " m"))

-- a balise group
abbrev pub country_and_number : ℕ → List ℕ
country_and_number group = codes "NID_C " ++ (decimal (group / 16384) ++ (codes ", NID_BG " ++ decimal (group % 16384)))

abbrev pub text_of : Meaning → List ℕ
text_of (Words words) = words.now
text_of (Bytes count) = decimal count ++ codes " bytes"
text_of (Bits count) = decimal count ++ codes " bits"
text_of (Time count) = seconds count
text_of (Length length) = metres length
text_of (Back length) = codes "-" ++ metres length
text_of (Speed count) = decimal (count * 5) ++ codes " km/h"
text_of (Group group) = country_and_number group

-- ---- by value

abbrev pub message_words : ℕ → List ℕ
message_words number =
    if number == 15 then codes "conditional emergency stop"
    else (if number == 16 then codes "unconditional emergency stop"
    else (if number == 18 then codes "revocation of an emergency stop"
    else (if number == 24 then codes "general message"
    else (if number == 136 then codes "train position report"
    else (if number == 146 then codes "acknowledgement"
    else (if number == 147 then codes "acknowledgement of an emergency stop" else codes "another message"))))))

abbrev pub packet_words : ℕ → List ℕ
packet_words number =
    if number == 0 then codes "position"
    else (if number == 1 then codes "position by two balise groups"
    else (if number == 65 then codes "temporary speed restriction"
    else (if number == 66 then codes "revocation of a restriction" else codes "another packet")))

abbrev pub scale_words : ℕ → List ℕ
scale_words scale =
    if scale == 0 then codes "in units of 10 cm"
    else (if scale == 1 then codes "in units of 1 m" else (if scale == 2 then codes "in units of 10 m" else codes "spare"))

-- a direction, seen from a balise group
abbrev pub way_words : List ℕ → ℕ → List ℕ
way_words both way = if way == 0 then codes "reverse" else (if way == 1 then codes "nominal" else (if way == 2 then both else codes "spare"))

abbrev pub answer_words : ℕ → List ℕ
answer_words answer =
    if answer == 0 then codes "conditional stop accepted, end of authority changed"
    else (if answer == 1 then codes "conditional stop accepted, no change"
    else (if answer == 2 then codes "unconditional stop accepted" else codes "stop rejected"))

abbrev pub integrity_words : ℕ → List ℕ
integrity_words integrity =
    if integrity == 0 then codes "nothing is known of whether the train is whole"
    else (if (integrity == 1) || (integrity == 2) then codes "the train is whole" else codes "the train is not whole")

abbrev pub time_text : ℕ → List ℕ
time_text stamp = if stamp == 4294967295 then codes "unknown" else seconds stamp

abbrev pub group_text : ℕ → List ℕ
group_text number = if number == 16777215 then codes "unknown" else country_and_number number

-- this many units of Q_SCALE, in units of 10 cm
abbrev pub length_in : ℕ → ℕ → ℕ
length_in scale value = if scale == 1 then value * 10 else (if scale == 2 then value * 100 else value)

abbrev pub distance_text : ℕ → ℕ → List ℕ
distance_text scale value = if value == 32767 then codes "unknown" else metres (length_in scale value)

-- a distance of 16 bits in two's complement
abbrev pub reference_text : ℕ → ℕ → List ℕ
reference_text scale value = if nat_lt value 32768 then metres (length_in scale value) else codes "-" ++ metres (length_in scale (65536 - value))

-- what a value of a variable means, by the last Q_SCALE before it
abbrev pub meaning_of : Variable → ℕ → ℕ → List ℕ
meaning_of NidMessage scale value = message_words value
meaning_of LMessage scale value = decimal value ++ codes " bytes"
meaning_of TTrain scale value = time_text value
meaning_of MAck scale value = if value == 0 then codes "the train need not acknowledge it" else codes "the train has to acknowledge it"
meaning_of NidLrbg scale value = group_text value
meaning_of NidEngine scale value = codes "on-board equipment"
meaning_of TTrainAcked scale value = time_text value
meaning_of NidEm scale value = codes "identifier of the emergency stop"
meaning_of QEmergencystop scale value = answer_words value
meaning_of QScale scale value = scale_words value
meaning_of DRef scale value = reference_text scale value
meaning_of QDir scale value = way_words (codes "both") value
meaning_of DEmergencystop scale value = metres (length_in scale value)
meaning_of NidPacket scale value = packet_words value
meaning_of LPacket scale value = decimal value ++ codes " bits"
meaning_of NidTsr scale value = codes "identifier of the restriction"
meaning_of DTsr scale value = metres (length_in scale value)
meaning_of LTsr scale value = metres (length_in scale value)
meaning_of QFront scale value = if value == 0 then codes "the train's length delays the end" else codes "the train's length does not delay the end"
meaning_of VTsr scale value = decimal (value * 5) ++ codes " km/h"
meaning_of NidPrvlrbg scale value = group_text value
meaning_of DLrbg scale value = distance_text scale value
meaning_of QDirlrbg scale value = way_words (codes "unknown") value
meaning_of QDlrbg scale value = way_words (codes "unknown") value
meaning_of LDoubtover scale value = distance_text scale value
meaning_of LDoubtunder scale value = distance_text scale value
meaning_of QLength scale value = integrity_words value
meaning_of LTrainint scale value = metres (value * 10)
meaning_of VTrain scale value = decimal (value * 5) ++ codes " km/h"
meaning_of QDirtrain scale value = way_words (codes "unknown") value
meaning_of MMode scale value = codes "mode of the on-board equipment"
meaning_of MLevel scale value = codes "level of operation"
meaning_of NidNtc scale value = codes "national system"
meaning_of Passed scale value = codes "passed over"
meaning_of Fill scale value = codes "fill bits"
