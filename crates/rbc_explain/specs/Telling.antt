-- Which lines of a log are sentences on messages and say why the messages were sent (own rule).
use Rattle.std.specs.Prelude.{◌≡◌, ℕ, Bool, false, List, [], ◌∷◌, ◌++◌, length, map, codes, filter_map, Option}
use Rattle.ertms_codec.specs.declared.packets.Part.{Part}
use Rattle.ertms_codec.specs.declared.to_train.Head.{Head}
use Rattle.ertms_codec.specs.declared.to_train.ToTrain.{ToTrain}
use Rattle.ertms_codec.specs.declared.to_train.ToTrain.TheVariants as message
use Rattle.rbc_track.specs.Plan.{Plan}
use Rattle.rbc_place.specs.Placing.{Place}
use Rattle.rbc_settle.specs.declared.sent.Sent.{Sent}
use Rattle.rbc_rule.specs.declared.outcome.Reply.{Reply}
use Rattle.rbc_rule.specs.Saying.{Said, Says, PacketSays}
use Rattle.rbc_text.specs.BatchText.{lines_of}
use Rattle.rbc_text.specs.OutputText.{answer_of, sent_line}
use Rattle.rbc_account.specs.declared.told.Told.{Told}
use Rattle.rbc_account.specs.declared.told.ToldWhat.{ToldWhat}
use Rattle.rbc_account.specs.declared.told.ToldWhat.TheVariants as what
use Rattle.rbc_account.specs.declared.told.ToldRestriction.{ToldRestriction}
use Rattle.rbc_explain.specs.Marked.{ended, shown, unmarked, AreAdded}
use Rattle.rbc_explain.specs.Reasons.{before_text, at_once_text, left_under, revoked_text, packet_text, single_text, several_text}
use Rattle.rbc_explain.specs.Said.{IsOnStop, IsStopSentence, IsRestrictionSentence, IsPacketSentence}

-- one of the lines is such a sentence
abbrev pub HasSentence : (List ℕ → Type 0) → List (List ℕ) → Type 0
HasSentence IsSentence lines = (before after : List (List ℕ)) × (line : List ℕ) × (lines ≡ before ++ line ∷ after) × IsSentence (ended line)

-- the lines of this text stand among the lines, one after another
abbrev pub HasText : List ℕ → List (List ℕ) → Type 0
HasText text lines = (before after : List (List ℕ)) × (lines ≡ before ++ (map shown (lines_of text) ++ after))

-- If a message says something about a stop, which its train may have left unanswered, the sentence on it is one of the lines.
abbrev pub TellsStop : Plan → Sent → ℕ → Bool → List (List ℕ) → Type 0
TellsStop plan sent number unanswered lines =
    (said : Said) → IsOnStop said → Says plan sent.message (said ∷ []) → HasSentence (IsStopSentence plan sent.engine number unanswered sent.message) lines

-- If a packet says something, the sentence on it is one of the lines.
abbrev pub TellsPacket : Plan → ℕ → Part → (List ℕ → Type 0) → List (List ℕ) → Type 0
TellsPacket plan lrbg packet IsSentence lines = (said : Said) → PacketSays plan lrbg packet said → HasSentence IsSentence lines

-- The lines tell what a packet says, and why it was sent, in this text.
abbrev pub TellsPacketWhy : Plan → ℕ → Part → (List ℕ → Type 0) → List ℕ → List (List ℕ) → Type 0
TellsPacketWhy plan lrbg packet IsSentence why lines = TellsPacket plan lrbg packet IsSentence lines × HasText why lines

-- the lines tell what each of several packets says, and why it was sent, one after the other
abbrev pub TellsEach : Plan → ℕ → Option Place → List Part → List ToldRestriction → List (List ℕ) → Type 0
TellsEach plan lrbg place (packet ∷ packets) (one ∷ all) lines =
    (first rest : List (List ℕ)) × (lines ≡ first ++ rest)
    × TellsPacketWhy plan lrbg packet (IsPacketSentence plan lrbg one.number packet) (packet_text packet place one) first
    × TellsEach plan lrbg place packets all rest
TellsEach plan lrbg place [] all lines = Unit
TellsEach plan lrbg place (packet ∷ packets) [] lines = Unit

-- The lines tell what the packets of a message say, and why they were sent. For one packet they say to which train it
-- is sent; for several they first say how many there are.
abbrev pub TellsPackets : Plan → ℕ → Head → Option Place → List Part → List ToldRestriction → List (List ℕ) → Type 0
TellsPackets plan engine head place (packet ∷ []) (one ∷ all) lines =
    TellsPacketWhy plan head.lrbg packet (IsRestrictionSentence plan head.lrbg engine one.number packet) (single_text head packet place one) lines
TellsPackets plan engine head place (packet ∷ next ∷ packets) all lines =
    (first rest : List (List ℕ)) × (lines ≡ first ++ rest) × HasText (several_text engine head (length (packet ∷ next ∷ packets)) place) first
    × TellsEach plan head.lrbg place (packet ∷ next ∷ packets) all rest
TellsPackets plan engine head place [] all lines = Unit
TellsPackets plan engine head place (packet ∷ []) [] lines = Unit

-- the lines tell what a message 24 says, and why it was sent
abbrev pub TellsRestrictions : Plan → ℕ → ToTrain → Option Place → List ToldRestriction → List (List ℕ) → Type 0
TellsRestrictions plan engine (message.General head packets) place all lines = TellsPackets plan engine head place packets all lines
TellsRestrictions plan engine (message.StopAt head id scale reference dir distance) place all lines = Unit
TellsRestrictions plan engine (message.Stop head id) place all lines = Unit
TellsRestrictions plan engine (message.Revoke head id) place all lines = Unit

-- The lines tell what a message on a stop says, and why it was sent, in this text.
abbrev pub TellsStopWhy : Plan → Sent → ℕ → Bool → List ℕ → List (List ℕ) → Type 0
TellsStopWhy plan sent number unanswered why lines = TellsStop plan sent number unanswered lines × HasText why lines

-- The lines tell what a message says, and why it was sent to its train, which has this place. No block has an `Unknown` message.
abbrev pub Tells : Plan → Sent → Option Place → ToldWhat → List (List ℕ) → Type 0
Tells plan sent place (what.StopBefore number before edge unit) lines = TellsStopWhy plan sent number false (before_text sent.message place before edge unit) lines
Tells plan sent place (what.StopAtOnce number why) lines = TellsStopWhy plan sent number false (at_once_text sent.message place number why) lines
Tells plan sent place (what.StopRevoked number unanswered) lines = TellsStopWhy plan sent number unanswered (revoked_text sent.message number (left_under sent.message unanswered)) lines
Tells plan sent place (what.Restrictions all) lines = TellsRestrictions plan sent.engine sent.message place all.items lines
Tells plan sent place what.Unknown lines = Unit

-- For each message that the input of this number sent, in order, the lines tell what it says and why it was sent, and
-- then comes the marked line of the message.
abbrev pub TellsAll : Plan → ℕ → List Sent → List Told → List (List ℕ) → Type 0
TellsAll plan number [] [] lines = Unit
TellsAll plan number (sent ∷ messages) (one ∷ told) lines =
    (before said after : List (List ℕ)) × (line : List ℕ) × (lines ≡ before ++ (said ++ (codes "= " ++ line) ∷ after)) × (ended line ≡ sent_line number sent)
    × Tells plan sent one.place one.what said × TellsAll plan number messages told after
TellsAll plan number [] (one ∷ told) lines = ⊥
TellsAll plan number (sent ∷ messages) [] lines = ⊥

-- Lines that tell something were added to a text. None of them is marked.
abbrev pub IsSaidOn : (List (List ℕ) → Type 0) → List ℕ → List ℕ → Type 0
IsSaidOn TellIt old new = (added : List (List ℕ)) × AreAdded added old new × (filter_map unmarked added ≡ []) × TellIt added

-- The block of an input was added to a text: the marked lines are those of the answer, and it is told what each message says.
abbrev pub IsBlockOn : Plan → ℕ → Reply → List Sent → List Told → List ℕ → List ℕ → Type 0
IsBlockOn plan number reply messages told old new =
    (added : List (List ℕ)) × AreAdded added old new × (filter_map unmarked added ≡ lines_of (answer_of number reply messages)) × TellsAll plan number messages told added
