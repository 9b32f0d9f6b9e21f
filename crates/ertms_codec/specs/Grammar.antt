-- The texts of messages as a grammar, and the first word of a text that is wrong (own rule). A text is cut into words at single spaces.
use Rattle.std.specs.Prelude.{◌≡◌, ◌⊎◌, ℕ, zero, suc, ◌+◌, ◌≤◌, ℤ, List, [], ◌∷◌, Bool, true, false, FitsSigned, IsTrue, ◌==◌, ◌||◌, if◌then◌else◌, codes}
use Rattle.std.specs.Fmt.{decimal, signed_decimal}
use Rattle.std.specs.Int.{w16}
use Rattle.std.specs.Str.{bytes_eq}
use Rattle.ertms_codec.specs.declared.name.Name.{Name}
use Rattle.ertms_codec.specs.declared.name.Name.TheVariants as name
use Rattle.ertms_codec.specs.declared.wrong_word.Expected.{Expected}
use Rattle.ertms_codec.specs.declared.wrong_word.Expected.TheVariants as a
use Rattle.ertms_codec.specs.declared.wrong_word.WrongWord.{WrongWord}
use Rattle.ertms_codec.specs.Names.{name_text}
use Rattle.ertms_codec.specs.Texts.{is_number_to_train, ◌then◌}

-- the text of what can stand as a word
abbrev pub expected_text : Expected → List ℕ
expected_text (a.Name name) = codes "'" then name_text name then codes "'"
expected_text (a.Number most) = codes "a number, 0 to " then decimal most
expected_text a.Reference = codes "a number, -32768 to 32767"
expected_text a.FromTrain = codes "'136' or '146' or '147'"
expected_text a.Message = codes "'15' or '16' or '18' or '24' or '136' or '146' or '147'"
expected_text a.PositionPacket = codes "'0' or '1'"
expected_text a.Packet = codes "'65' or '66'"
expected_text a.End = codes "the end of the line"

-- the text of a wrong word
abbrev pub wrong_word_text : WrongWord → List ℕ
wrong_word_text wrong = codes "word " then decimal wrong.index then codes ": " then expected_text wrong.expected

abbrev pub is_number_from_train : ℕ → Bool
is_number_from_train number = (number == 136) || (number == 146) || (number == 147)

-- the numbers that can stand as a word
abbrev pub Allows : Expected → ℕ → Type 0
Allows (a.Name name) number = ⊥
Allows (a.Number most) number = number ≤ most
Allows a.Reference number = ⊥
Allows a.FromTrain number = IsTrue (is_number_from_train number)
Allows a.Message number = IsTrue (is_number_to_train number || is_number_from_train number)
Allows a.PositionPacket number = number ≤ 1
Allows a.Packet number = IsTrue ((number == 65) || (number == 66))
Allows a.End number = ⊥

-- a number that can stand as a word stands there in decimal digits
abbrev pub IsAllowedNumber : Expected → List ℕ → Type 0
IsAllowedNumber expected word = (number : ℕ) × Allows expected number × (word ≡ decimal number)

-- a word is one that can stand there
abbrev pub Fills : Expected → List ℕ → Type 0
Fills (a.Name name) word = word ≡ name_text name
Fills (a.Number most) word = IsAllowedNumber (a.Number most) word
Fills a.Reference word = (number : ℤ) × FitsSigned w16 number × (word ≡ signed_decimal number)
Fills a.FromTrain word = IsAllowedNumber a.FromTrain word
Fills a.Message word = IsAllowedNumber a.Message word
Fills a.PositionPacket word = IsAllowedNumber a.PositionPacket word
Fills a.Packet word = IsAllowedNumber a.Packet word
Fills a.End word = ⊥

-- only numbers below 2 ^ 32 can stand there
abbrev pub IsNumber : Expected → Type 0
IsNumber expected = (word : List ℕ) → Fills expected word → (number : ℕ) × (number ≤ 4294967295) × Allows expected number × (word ≡ decimal number)

-- What texts go on with: nothing, or a word and then what that word chooses. The flag says whether a text may end before it.
pub data Grammar : Type 0 where
  Ends : Grammar
  Word : Bool → Expected → (List ℕ → Grammar) → Grammar

abbrev pub wrong_at : ℕ → Expected → WrongWord
wrong_at index expected = record { index = index; expected = expected }

-- where reading stops: the next word has this number, and the first of these words that is wrong is this one
abbrev pub Stops : ℕ → Grammar → List (List ℕ) → WrongWord → Type 0
Stops index Ends [] wrong = ⊥
Stops index Ends (word ∷ words) wrong = wrong ≡ wrong_at index a.End
Stops index (Word may_end expected next) [] wrong = (may_end ≡ false) × (wrong ≡ wrong_at index expected)
Stops index (Word may_end expected next) (word ∷ words) wrong =
    ((¬ Fills expected word) × (wrong ≡ wrong_at index expected)) ⊎ (Fills expected word × Stops (index + 1) (next word) words wrong)

-- the first word that is wrong
pub record FirstWrong (index : ℕ) (grammar : Grammar) (words : List (List ℕ)) (wrong : WrongWord) : Type 0 where
  pub is : Stops index grammar words wrong

-- a word that has to stand there
abbrev pub one : Expected → (List ℕ → Grammar) → Grammar
one expected next = Word false expected next

-- the name of a variable and its value
abbrev pub named : Name → ℕ → Grammar → Grammar
named name most next = one (a.Name name) (λ _. one (a.Number most) (λ _. next))

abbrev pub head_then : Grammar → Grammar
head_then next = named name.Stamp 4294967295 (named name.Ack 1 (named name.Lrbg 16777215 next))

-- the body of an emergency stop at a place
abbrev pub stop_at : Grammar
stop_at =
    named name.Em 15 (named name.Scale 2
    (one (a.Name name.Ref) (λ _. one a.Reference (λ _. named name.Dir 2 (named name.Stop 32767 Ends)))))

-- packet 65, and packet 66, behind its number
abbrev pub restrict_then : Grammar → Grammar
restrict_then next =
    named name.Dir 2 (named name.Scale 2 (named name.Tsr 255
    (named name.Start 32767 (named name.Length 32767 (named name.Front 1 (named name.Speed 120 next))))))

abbrev pub lift_then : Grammar → Grammar
lift_then next = named name.Dir 2 (named name.Tsr 255 next)

abbrev pub packet_then : List ℕ → Grammar → Grammar
packet_then number next = if bytes_eq number (codes "65") then restrict_then next else lift_then next

-- up to so many packets more
abbrev pub packets_behind : ℕ → Grammar
packets_behind zero = Ends
packets_behind (suc more) = Word true a.Packet (λ number. packet_then number (packets_behind more))

-- 1 to 100 packets
abbrev pub first_packets : Grammar
first_packets = one a.Packet (λ number. packet_then number (packets_behind 99))

-- packet 1 names the balise group before the last relevant one
abbrev pub previous_then : List ℕ → Grammar → Grammar
previous_then packet next = if bytes_eq packet (codes "1") then named name.Previous 16777215 next else next

abbrev pub place_then : Grammar → Grammar
place_then next =
    named name.Distance 32767 (named name.Dir 2 (named name.Side 2 (named name.Over 32767 (named name.Under 32767 next))))

abbrev pub position_then : Grammar → Grammar
position_then next =
    one a.PositionPacket (λ packet. named name.Scale 2 (named name.Lrbg 16777215 (previous_then packet (place_then next))))

-- the train, which begins each message from one
abbrev pub train_then : Grammar → Grammar
train_then next = named name.Stamp 4294967295 (named name.Engine 16777215 next)

abbrev pub report_then : Grammar → Grammar
report_then next = train_then (position_then next)

abbrev pub ack_then : Grammar → Grammar
ack_then next = train_then (named name.Acked 4294967295 next)

abbrev pub stop_ack_then : Grammar → Grammar
stop_ack_then next = train_then (named name.Em 15 (named name.Answer 3 (position_then next)))

-- what stands behind the number of a message from a train
abbrev pub behind_from_train : Grammar → List ℕ → Grammar
behind_from_train next number =
    if bytes_eq number (codes "136") then report_then next
    else if bytes_eq number (codes "146") then ack_then next
    else stop_ack_then next

-- what stands behind the number of a message to a train
abbrev pub body_to_train : List ℕ → Grammar
body_to_train number =
    if bytes_eq number (codes "15") then stop_at
    else if bytes_eq number (codes "24") then first_packets
    else named name.Em 15 Ends

abbrev pub behind_to_train : List ℕ → Grammar
behind_to_train number = head_then (body_to_train number)

abbrev pub is_to_train_word : List ℕ → Bool
is_to_train_word number = bytes_eq number (codes "15") || bytes_eq number (codes "16") || bytes_eq number (codes "18") || bytes_eq number (codes "24")

-- the text of a message from a train, and of any message
abbrev pub from_train : Grammar
from_train = one a.FromTrain (behind_from_train Ends)

abbrev pub message : Grammar
message = one a.Message (λ number. if is_to_train_word number then behind_to_train number else behind_from_train Ends number)
