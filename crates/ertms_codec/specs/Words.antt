-- The words of a text that are read one after the other, and the words of messages (own rule).
use Rattle.std.specs.Prelude.{◌≡◌, ℕ, ◌+◌, List, [], ◌∷◌, ◌++◌, length, Option, Some, None, codes}
use Rattle.std.specs.Fmt.{decimal, signed_decimal}
use Rattle.std.specs.List.{flat_map}
use denote.Ref.{Bor}
use Rattle.ertms_codec.specs.declared.to_train.Head.{Head}
use Rattle.ertms_codec.specs.declared.packets.Part.{Part}
use Rattle.ertms_codec.specs.declared.packets.Part.TheVariants.{Restrict, Lift}
use Rattle.ertms_codec.specs.declared.to_train.ToTrain.{ToTrain}
use Rattle.ertms_codec.specs.declared.to_train.ToTrain.TheVariants.{StopAt, Stop, Revoke, General}
use Rattle.ertms_codec.specs.declared.from_train.Position.{Position}
use Rattle.ertms_codec.specs.declared.from_train.FromTrain.{FromTrain}
use Rattle.ertms_codec.specs.declared.from_train.FromTrain.TheVariants.{Report, Ack, StopAck}
use Rattle.ertms_codec.specs.Pieces.{pieces_behind}
use Rattle.ertms_codec.specs.Texts.{flag_text}
use Rattle.ertms_codec.specs.ToTrain.{head_of}

-- words that are not read yet, and the number of the next one
pub record Unread : Type 0 where
  pub next : ℕ
  pub words : List (List ℕ)

-- the words of a text, which may have ended
abbrev pub words_left : Option (Bor (List ℕ)) → List (List ℕ)
words_left text = pieces_behind 32 text

-- words were read, and nothing else
pub record Passes (words : List (List ℕ)) (before after : Unread) : Type 0 where
  pub are : before.words ≡ words ++ after.words
  pub next : after.next ≡ before.next + length words

abbrev pub head_words : Head → List (List ℕ)
head_words head = codes "stamp" ∷ decimal head.stamp ∷ codes "ack" ∷ flag_text head.ack ∷ codes "lrbg" ∷ decimal head.lrbg ∷ []

-- the word that says which packet it is, and the words behind it
abbrev pub part_number : Part → List ℕ
part_number (Restrict dir scale id start length front speed) = codes "65"
part_number (Lift dir id) = codes "66"

abbrev pub part_words : Part → List (List ℕ)
part_words (Restrict dir scale id start length front speed) =
    codes "dir" ∷ decimal dir ∷ codes "scale" ∷ decimal scale ∷ codes "tsr" ∷ decimal id ∷ codes "start" ∷ decimal start
    ∷ codes "length" ∷ decimal length ∷ codes "front" ∷ flag_text front ∷ codes "speed" ∷ decimal speed ∷ []
part_words (Lift dir id) = codes "dir" ∷ decimal dir ∷ codes "tsr" ∷ decimal id ∷ []

abbrev pub packet_words : Part → List (List ℕ)
packet_words part = part_number part ∷ part_words part

-- the word of a message to a train that says which it is, and the words behind it
abbrev pub kind_to_train : ToTrain → List ℕ
kind_to_train (StopAt head id scale reference dir distance) = codes "15"
kind_to_train (Stop head id) = codes "16"
kind_to_train (Revoke head id) = codes "18"
kind_to_train (General head packets) = codes "24"

abbrev pub body_words : ToTrain → List (List ℕ)
body_words (StopAt head id scale reference dir distance) =
    codes "em" ∷ decimal id ∷ codes "scale" ∷ decimal scale ∷ codes "ref" ∷ signed_decimal reference ∷ codes "dir" ∷ decimal dir ∷ codes "stop" ∷ decimal distance ∷ []
body_words (Stop head id) = codes "em" ∷ decimal id ∷ []
body_words (Revoke head id) = codes "em" ∷ decimal id ∷ []
body_words (General head packets) = flat_map packet_words packets

abbrev pub words_to_train : ToTrain → List (List ℕ)
words_to_train m = head_words (head_of m) ++ body_words m

-- the word of the packet of a position, and the words for its balise group before the last one
abbrev pub packet_word : Option ℕ → List ℕ
packet_word None = codes "0"
packet_word (Some previous) = codes "1"

abbrev pub previous_words : Option ℕ → List (List ℕ)
previous_words None = []
previous_words (Some previous) = codes "previous" ∷ decimal previous ∷ []

abbrev pub place_words : Position → List (List ℕ)
place_words p = codes "distance" ∷ decimal p.distance ∷ codes "dir" ∷ decimal p.dir ∷ codes "side" ∷ decimal p.side ∷ codes "over" ∷ decimal p.over ∷ codes "under" ∷ decimal p.under ∷ []

abbrev pub position_words : Position → List (List ℕ)
position_words p =
    (packet_word p.previous ∷ codes "scale" ∷ decimal p.scale ∷ codes "lrbg" ∷ decimal p.lrbg ∷ []) ++ (previous_words p.previous ++ place_words p)

abbrev pub train_words : ℕ → ℕ → List (List ℕ)
train_words stamp engine = codes "stamp" ∷ decimal stamp ∷ codes "engine" ∷ decimal engine ∷ []

-- the word of a message from a train that says which it is, and the words behind it
abbrev pub kind_from_train : FromTrain → List ℕ
kind_from_train (Report stamp engine position) = codes "136"
kind_from_train (Ack stamp engine acked) = codes "146"
kind_from_train (StopAck stamp engine id answer position) = codes "147"

abbrev pub words_from_train : FromTrain → List (List ℕ)
words_from_train (Report stamp engine position) = train_words stamp engine ++ position_words position
words_from_train (Ack stamp engine acked) = train_words stamp engine ++ (codes "acked" ∷ decimal acked ∷ [])
words_from_train (StopAck stamp engine id answer position) =
    train_words stamp engine ++ ((codes "em" ∷ decimal id ∷ codes "answer" ∷ decimal answer ∷ []) ++ position_words position)
