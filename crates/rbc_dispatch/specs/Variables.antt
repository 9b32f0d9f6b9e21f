-- The variables of messages: their names and widths in SUBSET-026, and which follows which.
use Rattle.std.specs.Prelude.{⊤, ℕ, ◌-◌, ◌+◌, true, false, ◌==◌, ◌||◌, if◌then◌else◌, nat_lt, List, [], ◌∷◌, length, drop, min, max, codes, zero, suc}
use Rattle.ertms_bits.specs.Bits.{number_of}
use Rattle.ertms_codec.specs.Texts.{is_number_to_train}
use Rattle.rbc_dispatch.specs.declared.stand.Row.{Row}
use Rattle.rbc_dispatch.specs.declared.stand.Stand.{Stand}
use Rattle.rbc_dispatch.specs.declared.variable.Variable.{Variable}
use Rattle.rbc_dispatch.specs.declared.variable.Variable.TheVariants.{NidMessage, LMessage, TTrain, MAck, NidLrbg, NidEngine, TTrainAcked, NidEm, QEmergencystop, QScale, DRef, QDir, DEmergencystop, NidPacket, LPacket, NidTsr, DTsr, LTsr, QFront, VTsr, NidPrvlrbg, DLrbg, QDirlrbg, QDlrbg, LDoubtover, LDoubtunder, QLength, LTrainint, VTrain, QDirtrain, MMode, MLevel, NidNtc, Passed, Fill}

-- the name of a variable in SUBSET-026; bits that belong to no variable have a hyphen
abbrev pub name_of : Variable → List ℕ
name_of NidMessage = codes "NID_MESSAGE"
name_of LMessage = codes "L_MESSAGE"
name_of TTrain = codes "T_TRAIN"
name_of MAck = codes "M_ACK"
name_of NidLrbg = codes "NID_LRBG"
name_of NidEngine = codes "NID_ENGINE"
name_of TTrainAcked = codes "T_TRAIN"
name_of NidEm = codes "NID_EM"
name_of QEmergencystop = codes "Q_EMERGENCYSTOP"
name_of QScale = codes "Q_SCALE"
name_of DRef = codes "D_REF"
name_of QDir = codes "Q_DIR"
name_of DEmergencystop = codes "D_EMERGENCYSTOP"
name_of NidPacket = codes "NID_PACKET"
name_of LPacket = codes "L_PACKET"
name_of NidTsr = codes "NID_TSR"
name_of DTsr = codes "D_TSR"
name_of LTsr = codes "L_TSR"
name_of QFront = codes "Q_FRONT"
name_of VTsr = codes "V_TSR"
name_of NidPrvlrbg = codes "NID_PRVLRBG"
name_of DLrbg = codes "D_LRBG"
name_of QDirlrbg = codes "Q_DIRLRBG"
name_of QDlrbg = codes "Q_DLRBG"
name_of LDoubtover = codes "L_DOUBTOVER"
name_of LDoubtunder = codes "L_DOUBTUNDER"
name_of QLength = codes "Q_LENGTH"
name_of LTrainint = codes "L_TRAININT"
name_of VTrain = codes "V_TRAIN"
name_of QDirtrain = codes "Q_DIRTRAIN"
name_of MMode = codes "M_MODE"
name_of MLevel = codes "M_LEVEL"
name_of NidNtc = codes "NID_NTC"
name_of Passed = codes "-"
name_of Fill = codes "-"

-- how many bits it takes, by how many bits of the packet are left: further bits of a packet are passed over at most 32 at a time
abbrev pub width_of : Variable → ℕ → ℕ
width_of NidMessage left = 8
width_of LMessage left = 10
width_of TTrain left = 32
width_of MAck left = 1
width_of NidLrbg left = 24
width_of NidEngine left = 24
width_of TTrainAcked left = 32
width_of NidEm left = 4
width_of QEmergencystop left = 2
width_of QScale left = 2
width_of DRef left = 16
width_of QDir left = 2
width_of DEmergencystop left = 15
width_of NidPacket left = 8
width_of LPacket left = 13
width_of NidTsr left = 8
width_of DTsr left = 15
width_of LTsr left = 15
width_of QFront left = 1
width_of VTsr left = 7
width_of NidPrvlrbg left = 24
width_of DLrbg left = 15
width_of QDirlrbg left = 2
width_of QDlrbg left = 2
width_of LDoubtover left = 15
width_of LDoubtunder left = 15
width_of QLength left = 2
width_of LTrainint left = 15
width_of VTrain left = 7
width_of QDirtrain left = 2
width_of MMode left = 4
width_of MLevel left = 3
width_of NidNtc left = 8
width_of Passed left = max 1 (min left 32)
width_of Fill left = 32

-- what follows the last variable of a packet: its further bits, or the next packet
abbrev pub behind_variables : ℕ → Variable
behind_variables left = if left == 0 then NidPacket else Passed

-- What follows a variable with this value, by how many bits of its packet are left.
abbrev pub behind : Variable → ℕ → ℕ → Stand → Variable
behind NidMessage value left at = LMessage
behind LMessage value left at = TTrain
behind TTrain value left at = if is_number_to_train at.message then MAck else NidEngine
behind MAck value left at = NidLrbg
behind NidEngine value left at = if at.message == 146 then TTrainAcked else (if at.message == 147 then NidEm else NidPacket)
behind TTrainAcked value left at = Fill
behind NidEm value left at = if at.message == 15 then QScale else (if at.message == 147 then QEmergencystop else Fill)
behind QEmergencystop value left at = NidPacket
behind QScale value left at = if at.message == 15 then DRef else (if at.message == 24 then NidTsr else NidLrbg)
behind DRef value left at = QDir
behind QDir value left at = if at.message == 15 then DEmergencystop else LPacket
behind DEmergencystop value left at = Fill
behind NidPacket value left at = if at.message == 24 then QDir else LPacket
behind LPacket value left at =
    if at.message == 24 then (if at.packet == 65 then QScale else NidTsr)
    else (if at.is_first then QScale else behind_variables left)
behind NidTsr value left at = if at.packet == 65 then DTsr else NidPacket
behind DTsr value left at = LTsr
behind LTsr value left at = QFront
behind QFront value left at = VTsr
behind VTsr value left at = NidPacket
behind NidLrbg value left at =
    if at.message == 24 then NidPacket
    else (if is_number_to_train at.message then NidEm else (if at.packet == 1 then NidPrvlrbg else DLrbg))
behind NidPrvlrbg value left at = DLrbg
behind DLrbg value left at = QDirlrbg
behind QDirlrbg value left at = QDlrbg
behind QDlrbg value left at = LDoubtover
behind LDoubtover value left at = LDoubtunder
behind LDoubtunder value left at = QLength
behind QLength value left at = if (value == 1) || (value == 2) then LTrainint else VTrain
behind LTrainint value left at = VTrain
behind VTrain value left at = QDirtrain
behind QDirtrain value left at = MMode
behind MMode value left at = MLevel
behind MLevel value left at = if value == 1 then NidNtc else behind_variables left
behind NidNtc value left at = behind_variables left
behind Passed value left at = behind_variables left
behind Fill value left at = Fill

-- the variable is one that a train's position alone has, or bits that are passed over
abbrev pub IsOfPosition : Variable → Type 0
IsOfPosition NidPrvlrbg = ⊤
IsOfPosition DLrbg = ⊤
IsOfPosition QDirlrbg = ⊤
IsOfPosition QDlrbg = ⊤
IsOfPosition LDoubtover = ⊤
IsOfPosition LDoubtunder = ⊤
IsOfPosition QLength = ⊤
IsOfPosition LTrainint = ⊤
IsOfPosition VTrain = ⊤
IsOfPosition QDirtrain = ⊤
IsOfPosition MMode = ⊤
IsOfPosition MLevel = ⊤
IsOfPosition NidNtc = ⊤
IsOfPosition Passed = ⊤
IsOfPosition variable = ⊥

-- what stands at a place, by how many bits of the message are left: where a packet could begin, fewer than 8 bits fill the message up
abbrev pub due : Variable → ℕ → Variable
due NidPacket count = if nat_lt count 8 then Fill else NidPacket
due variable count = variable

-- the row of what stands first in some bits
abbrev pub row_at : ℕ → Stand → List ℕ → Row
row_at place at bits =
    let variable = due at.next (length bits) in
    let width = min (width_of variable at.left) (length bits) in
    record { place = place; width = width; variable = variable; scale = at.scale; value = number_of width bits }

-- how many bits of the packet are left after a variable: L_PACKET counts them, from the packet's first bit on
abbrev pub left_behind : Variable → ℕ → ℕ → ℕ → ℕ
left_behind LPacket value width left = value - 21
left_behind variable value width left = left - width

-- a value is kept for the variables after it
abbrev pub keeping : Variable → ℕ → Stand → Stand
keeping NidMessage value at = record at { message = value }
keeping NidPacket value at = record at { packet = value }
keeping QScale value at = record at { scale = value }
keeping LPacket value at = record at { is_first = false }
keeping variable value at = at

-- what is known after a row
abbrev pub after : Stand → Row → Stand
after at row =
    let left = left_behind row.variable row.value row.width at.left in
    record (keeping row.variable row.value at) { left = left; next = behind row.variable row.value left at }

-- the beginning of a message
abbrev pub beginning : Stand
beginning = record { next = NidMessage; message = 0; packet = 0; is_first = true; left = 0; scale = 0 }

-- the rows of at most this many bits, the first of which stands at this place
unfoldable pub rows_from : ℕ → ℕ → Stand → List ℕ → List Row
rows_from zero place at bits = []
rows_from (suc most) place at [] = []
rows_from (suc most) place at (bit ∷ bits) =
    row_at place at (bit ∷ bits) ∷ rows_from most (place + (row_at place at (bit ∷ bits)).width) (after at (row_at place at (bit ∷ bits))) (drop (row_at place at (bit ∷ bits)).width (bit ∷ bits))

-- the rows of a message that has these bits
abbrev pub rows_of : List ℕ → List Row
rows_of bits = rows_from (length bits) 0 beginning bits
