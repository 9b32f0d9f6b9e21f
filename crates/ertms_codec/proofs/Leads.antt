-- Words that lead from one part of the grammar of texts to another.
use Rattle.std.proofs.Common.{◌≡◌, ◌≤◌, ℕ, zero, suc, ℤ, w16, FitsSigned, ◌+◌, List, [], ◌∷◌, ◌++◌, length, Bool, true, false, Option, Some, None, IsTrue, inl, inr, sym, refl, arith, ap, subst}
use Rattle.std.specs.Prelude.{codes}
use Rattle.std.specs.Fmt.{decimal, signed_decimal, digits}
use Rattle.std.proofs.lemmas.List.{append-nil}
use Rattle.std.proofs.lemmas.Bool.Decides.{nat_tests}
use Rattle.std.proofs.lemmas.Fmt.{decimal_digit}
use Rattle.ertms_codec.specs.declared.name.Name.{Name}
use Rattle.ertms_codec.specs.declared.name.Name.TheVariants as name
use Rattle.ertms_codec.specs.declared.wrong_word.Expected.TheVariants as a
use Rattle.ertms_codec.specs.declared.wrong_word.WrongWord.{WrongWord}
use Rattle.std.specs.List.{flat_map, AllByRecursion as All}
use Rattle.ertms_codec.specs.declared.to_train.Head.{Head}
use Rattle.ertms_codec.specs.declared.packets.Part.{Part}
use Rattle.ertms_codec.specs.declared.packets.Part.TheVariants.{Restrict, Lift}
use Rattle.ertms_codec.specs.PacketsToTrain.{PacketFits, IdFits}
use Rattle.ertms_codec.specs.declared.from_train.Position.{Position}
use Rattle.ertms_codec.specs.declared.from_train.FromTrain.{FromTrain}
use Rattle.ertms_codec.specs.declared.from_train.FromTrain.TheVariants.{Report, Ack, StopAck}
use Rattle.ertms_codec.specs.Names.{name_text}
use Rattle.ertms_codec.specs.Texts.{flag_text, is_number_to_train}
use Rattle.ertms_codec.specs.FromTrainWritten.{IsInRange, PositionIsInRange, IsNumberOfGroup}
use Rattle.ertms_codec.specs.Grammar.{Grammar, Ends, Word, Stops, FirstWrong, Fills, Allows, one, named, train_then, position_then, previous_then, place_then, behind_from_train, is_number_from_train, from_train, packet_then, packets_behind, first_packets, head_then}
use Rattle.ertms_codec.specs.Words.{Unread, Passes, part_number, part_words, packet_words, head_words, train_words, position_words, place_words, previous_words, packet_word, kind_from_train, words_from_train}

-- words fill what a grammar wants, and lead to another
abbrev pub Leads : Grammar → List (List ℕ) → Grammar → Type 0
Leads grammar [] to = grammar ≡ to
Leads Ends (word ∷ words) to = ⊥
Leads (Word may_end expected next) (word ∷ words) to = Fills expected word × Leads (next word) words to

pub Leads-append : (xs ys : List (List ℕ)) (from between to : Grammar) → Leads from xs between → Leads between ys to → Leads from (xs ++ ys) to
Leads-append [] ys from between to first second = subst (λ grammar. Leads grammar ys to) (sym first) second
Leads-append (x ∷ xs) ys Ends between to first second = absurd first
Leads-append (x ∷ xs) ys (Word may_end expected next) between to first second =
    (first.0, Leads-append xs ys (next x) between to first.1 second)

-- the first wrong word behind them is the first of all
stops_behind : (words rest : List (List ℕ)) (index : ℕ) (from to : Grammar) (wrong : WrongWord) → Leads from words to → Stops (index + length words) to rest wrong → Stops index from (words ++ rest) wrong
stops_behind [] rest index from to wrong leads stops =
    let same : index + 0 ≡ index = omega arith in
    rw leads (rw same at stops)
stops_behind (word ∷ words) rest index Ends to wrong leads stops = absurd leads
stops_behind (word ∷ words) rest index (Word may_end expected next) to wrong leads stops =
    let further : index + length (word ∷ words) ≡ index + 1 + length words = omega arith in
    inr (leads.0, stops_behind words rest (index + 1) (next word) to wrong leads.1 (rw further at stops))

pub past : (words : List (List ℕ)) (from to : Grammar) {before after : Unread} (wrong : WrongWord) → Leads from words to → Passes words before after → FirstWrong after.next to after.words wrong → FirstWrong before.next from before.words wrong
past words from to {before} {after} wrong leads passes first =
    rw passes.are record { is = stops_behind words after.words before.next from to wrong leads (rw passes.next at first.is) }

-- the same behind a name and its value, a number, and what a train says of itself
pub past_named : (name : Name) (most number : ℕ) (next : Grammar) {before after : Unread} (wrong : WrongWord) → (number ≤ most) × Passes (name_text name ∷ decimal number ∷ []) before after → FirstWrong after.next next after.words wrong → FirstWrong before.next (named name most next) before.words wrong
past_named name most number next wrong (small, passes) first =
    past (name_text name ∷ decimal number ∷ []) (named name most next) next wrong (refl, ((number, small, refl), refl)) passes first

pub past_packet : (number : ℕ) (next : List ℕ → Grammar) {before after : Unread} (wrong : WrongWord) → (number ≤ 1) × Passes (decimal number ∷ []) before after → FirstWrong after.next (next (decimal number)) after.words wrong → FirstWrong before.next (one a.PositionPacket next) before.words wrong
past_packet number next wrong (small, passes) first =
    past (decimal number ∷ []) (one a.PositionPacket next) (next (decimal number)) wrong ((number, small, refl), refl) passes first

pub past_train : (stamp engine : ℕ) (next : Grammar) {before after : Unread} (wrong : WrongWord) → (stamp ≤ 4294967295) × (engine ≤ 16777215) → Passes (train_words stamp engine) before after → FirstWrong after.next next after.words wrong → FirstWrong before.next (train_then next) before.words wrong
past_train stamp engine next wrong range passes first =
    past (train_words stamp engine) (train_then next) next wrong (refl, ((stamp, range.0, refl), (refl, ((engine, range.1, refl), refl)))) passes first

previous_leads : (previous : Option ℕ) (next : Grammar) → IsNumberOfGroup previous → Leads (previous_then (packet_word previous) next) (previous_words previous) next
previous_leads None next range = refl
previous_leads (Some previous) next range = (refl, ((previous, range, refl), refl))

pub past_previous : (previous : Option ℕ) (packet : ℕ) (next : Grammar) {before after : Unread} (wrong : WrongWord) → IsNumberOfGroup previous → packet_word previous ≡ decimal packet → Passes (previous_words previous) before after → FirstWrong after.next next after.words wrong → FirstWrong before.next (previous_then (decimal packet) next) before.words wrong
past_previous previous packet next {before} {after} wrong range word passes first =
    past (previous_words previous) (previous_then (decimal packet) next) next wrong (rw (sym word) (previous_leads previous next range)) passes first

-- and the other way round
pub stops_later : (words rest : List (List ℕ)) (index : ℕ) (from to : Grammar) (wrong : WrongWord) → Leads from words to → Stops index from (words ++ rest) wrong → Stops (index + length words) to rest wrong
stops_later [] rest index from to wrong leads stops =
    let same : index + 0 ≡ index = omega arith in
    rw same (rw leads at stops)
stops_later (word ∷ words) rest index Ends to wrong leads stops = absurd leads
stops_later (word ∷ words) rest index (Word may_end expected next) to wrong leads (inl unfit) = absurd (unfit.0 leads.0)
stops_later (word ∷ words) rest index (Word may_end expected next) to wrong leads (inr fits) =
    let further : index + 1 + length words ≡ index + length (word ∷ words) = omega arith in
    rw (sym further) (stops_later words rest (index + 1) (next word) to wrong leads.1 fits.1)

-- a name and its value
named_leads : (name : Name) (most number : ℕ) (next : Grammar) → number ≤ most → Leads (named name most next) (name_text name ∷ decimal number ∷ []) next
named_leads name most number next small = (refl, ((number, small, refl), refl))

-- the words of a train
train_leads : (stamp engine : ℕ) (next : Grammar) → stamp ≤ 4294967295 → engine ≤ 16777215 → Leads (train_then next) (train_words stamp engine) next
train_leads stamp engine next stamp_fits engine_fits =
    (refl, ((stamp, stamp_fits, refl), (refl, ((engine, engine_fits, refl), refl))))

-- the words of a position
packet_fills : (previous : Option ℕ) → Fills a.PositionPacket (packet_word previous)
packet_fills None = (0, omega arith, sym (decimal_digit 0 (omega arith)))
packet_fills (Some previous) = (1, omega arith, sym (decimal_digit 1 (omega arith)))

place_leads : (p : Position) (next : Grammar) → PositionIsInRange p → Leads (place_then next) (place_words p) next
place_leads p next range =
    (refl, ((p.distance, range.distance, refl), (refl, ((p.dir, range.fits.1, refl), (refl, ((p.side, range.fits.2, refl), (refl, ((p.over, range.over, refl), (refl, ((p.under, range.under, refl), refl))))))))))

pub position_leads : (p : Position) (next : Grammar) → PositionIsInRange p → Leads (position_then next) (position_words p) next
position_leads p next range =
    Leads-append (packet_word p.previous ∷ codes "scale" ∷ decimal p.scale ∷ codes "lrbg" ∷ decimal p.lrbg ∷ [])
    (previous_words p.previous ++ place_words p) (position_then next) (previous_then (packet_word p.previous) (place_then next)) next
    (packet_fills p.previous, (refl, ((p.scale, range.fits.0, refl), (refl, ((p.lrbg, range.lrbg, refl), refl)))))
    (Leads-append (previous_words p.previous) (place_words p) (previous_then (packet_word p.previous) (place_then next)) (place_then next) next (previous_leads p.previous (place_then next) range.previous) (place_leads p next range))

-- the words of a message behind its number
pub message_leads : (m : FromTrain) (next : Grammar) → IsInRange m → Leads (behind_from_train next (kind_from_train m)) (words_from_train m) next
message_leads (Report stamp engine position) next range =
    Leads-append (train_words stamp engine) (position_words position) (train_then (position_then next)) (position_then next) next (train_leads stamp engine (position_then next) range.0 range.1) (position_leads position next range.2)
message_leads (Ack stamp engine acked) next range =
    Leads-append (train_words stamp engine) (codes "acked" ∷ decimal acked ∷ []) (train_then (named name.Acked 4294967295 next)) (named name.Acked 4294967295 next) next (train_leads stamp engine (named name.Acked 4294967295 next) range.0 range.1) (named_leads name.Acked 4294967295 acked next range.2)
message_leads (StopAck stamp engine id answer position) next range =
    Leads-append (train_words stamp engine) ((codes "em" ∷ decimal id ∷ codes "answer" ∷ decimal answer ∷ []) ++ position_words position) (train_then (named name.Em 15 (named name.Answer 3 (position_then next)))) (named name.Em 15 (named name.Answer 3 (position_then next))) next (train_leads stamp engine (named name.Em 15 (named name.Answer 3 (position_then next))) range.0 range.1)
    (Leads-append (codes "em" ∷ decimal id ∷ codes "answer" ∷ decimal answer ∷ []) (position_words position) (named name.Em 15 (named name.Answer 3 (position_then next))) (position_then next) next
    (refl, ((id, range.2, refl), (refl, ((answer, range.3, refl), refl))))
    (position_leads position next range.4))

pub past_part : (number : ℕ) (next : List ℕ → Grammar) {before after : Unread} (wrong : WrongWord) → Allows a.Packet number × Passes (decimal number ∷ []) before after → FirstWrong after.next (next (decimal number)) after.words wrong → FirstWrong before.next (one a.Packet next) before.words wrong
past_part number next wrong (allowed, passes) first =
    past (decimal number ∷ []) (one a.Packet next) (next (decimal number)) wrong ((number, allowed, refl), refl) passes first

-- a flag, and D_REF
pub past_flag : (name : Name) (flag : Bool) (next : Grammar) {before after : Unread} (wrong : WrongWord) → Passes (name_text name ∷ flag_text flag ∷ []) before after → FirstWrong after.next next after.words wrong → FirstWrong before.next (named name 1 next) before.words wrong
past_flag name true next wrong passes first =
    past (name_text name ∷ decimal 1 ∷ []) (named name 1 next) next wrong (refl, ((1, omega arith, refl), refl)) passes first
past_flag name false next wrong passes first =
    past (name_text name ∷ decimal 0 ∷ []) (named name 1 next) next wrong (refl, ((0, omega arith, refl), refl)) passes first

pub past_reference : (number : ℤ) (next : List ℕ → Grammar) {before after : Unread} (wrong : WrongWord) → FitsSigned w16 number → Passes (name_text name.Ref ∷ signed_decimal number ∷ []) before after → FirstWrong after.next (next (signed_decimal number)) after.words wrong → FirstWrong before.next (one (a.Name name.Ref) (λ _. one a.Reference next)) before.words wrong
past_reference number next wrong fits passes first =
    past (name_text name.Ref ∷ signed_decimal number ∷ []) (one (a.Name name.Ref) (λ _. one a.Reference next)) (next (signed_decimal number)) wrong (refl, ((number, fits, refl), refl)) passes first

-- numbers as words
pub word_15 : decimal 15 ≡ codes "15"
unfolding digits
word_15 = refl

pub word_16 : decimal 16 ≡ codes "16"
unfolding digits
word_16 = refl

pub word_18 : decimal 18 ≡ codes "18"
unfolding digits
word_18 = refl

pub word_24 : decimal 24 ≡ codes "24"
unfolding digits
word_24 = refl

pub word_65 : decimal 65 ≡ codes "65"
unfolding digits
word_65 = refl

pub word_66 : decimal 66 ≡ codes "66"
unfolding digits
word_66 = refl

pub word_0 : decimal 0 ≡ codes "0"
word_0 = decimal_digit 0 (omega arith)

pub word_1 : decimal 1 ≡ codes "1"
word_1 = decimal_digit 1 (omega arith)

pub word_136 : decimal 136 ≡ codes "136"
unfolding digits
word_136 = refl

pub word_146 : decimal 146 ≡ codes "146"
unfolding digits
word_146 = refl

pub word_147 : decimal 147 ≡ codes "147"
unfolding digits
word_147 = refl

-- a message from a train has one of three numbers
pub from_train_number : (number : ℕ) → IsTrue (is_number_from_train number) → (number ≡ 136 → ⊥) → (number ≡ 146 → ⊥) → number ≡ 147
from_train_number number is no_report no_ack = grind (arith, nat_tests)

-- the words of a message are read, and the first wrong word is behind them
pub past_message : (m : FromTrain) (number : ℕ) {before between after : Unread} (wrong : WrongWord) → Allows a.FromTrain number × Passes (decimal number ∷ []) before between → IsInRange m → kind_from_train m ≡ decimal number → Passes (words_from_train m) between after → FirstWrong after.next Ends after.words wrong → FirstWrong before.next from_train before.words wrong
past_message m number {before} {between} {after} wrong (allowed, first) range kind passes stop =
    past (decimal number ∷ []) from_train (behind_from_train Ends (decimal number)) wrong ((number, allowed, refl), refl) first
    (rw (sym kind) (past (words_from_train m) (behind_from_train Ends (kind_from_train m)) Ends wrong (message_leads m Ends range) passes stop))

-- the number of a message fills its place
kind_fills : (m : FromTrain) → Fills a.FromTrain (kind_from_train m)
kind_fills (Report stamp engine position) = (136, refl, sym word_136)
kind_fills (Ack stamp engine acked) = (146, refl, sym word_146)
kind_fills (StopAck stamp engine id answer position) = (147, refl, sym word_147)

-- the words of a message are not refused
pub never_from_train : (m : FromTrain) (index : ℕ) (wrong : WrongWord) → IsInRange m → FirstWrong index from_train (kind_from_train m ∷ words_from_train m) wrong → ⊥
never_from_train m index wrong range first =
    let fills = kind_fills m in
    let leads : Leads from_train (kind_from_train m ∷ words_from_train m) Ends = (fills, message_leads m Ends range) in
    stops_later (kind_from_train m ∷ words_from_train m) [] index from_train Ends wrong leads (subst (λ words. Stops index from_train words wrong) (sym (append-nil (kind_from_train m ∷ words_from_train m))) first.is)

-- a packet has one of two numbers
pub packet_number : (number : ℕ) → Allows a.Packet number → (number ≡ 65 → ⊥) → number ≡ 66
packet_number number is no_restriction = grind (arith, nat_tests)

-- the words of a packet, behind its number
part_leads : (part : Part) (next : Grammar) → PacketFits part → IdFits part → Leads (packet_then (part_number part) next) (part_words part) next
part_leads (Restrict dir scale id start length true speed) next fits small =
    (refl, ((dir, fits.0, refl), (refl, ((scale, fits.1, refl), (refl, ((id, small, refl), (refl, ((start, fits.2, refl), (refl, ((length, fits.3, refl), (refl, ((1, omega arith, refl), (refl, ((speed, fits.4, refl), refl))))))))))))))
part_leads (Restrict dir scale id start length false speed) next fits small =
    (refl, ((dir, fits.0, refl), (refl, ((scale, fits.1, refl), (refl, ((id, small, refl), (refl, ((start, fits.2, refl), (refl, ((length, fits.3, refl), (refl, ((0, omega arith, refl), (refl, ((speed, fits.4, refl), refl))))))))))))))
part_leads (Lift dir id) next fits small = (refl, ((dir, fits, refl), (refl, ((id, small, refl), refl))))

part_fills : (part : Part) → Fills a.Packet (part_number part)
part_fills (Restrict dir scale id start length front speed) = (65, refl, sym word_65)
part_fills (Lift dir id) = (66, refl, sym word_66)

-- the words of packets, where so many are still possible
pub parts_lead : (parts : List Part) (possible left : ℕ) → possible ≡ length parts + left → All PacketFits parts → All IdFits parts → Leads (packets_behind possible) (flat_map packet_words parts) (packets_behind left)
parts_lead [] possible left counts fit small =
    let same : possible ≡ left = omega arith in
    ap packets_behind same
parts_lead (part ∷ parts) zero left counts fit small = absurd (omega (arith, counts))
parts_lead (part ∷ parts) (suc possible) left counts fit small =
    (part_fills part, Leads-append (part_words part) (flat_map packet_words parts) (packet_then (part_number part) (packets_behind possible)) (packets_behind possible) (packets_behind left) (part_leads part (packets_behind possible) fit.0 small.0) (parts_lead parts possible left (omega (arith, counts)) fit.1 small.1))

-- of 1 to 100 packets
pub first_parts_lead : (parts : List Part) (left : ℕ) → 100 ≡ length parts + left → 1 ≤ length parts → All PacketFits parts → All IdFits parts → Leads first_packets (flat_map packet_words parts) (packets_behind left)
first_parts_lead [] left counts some fit small = absurd (omega (arith, some))
first_parts_lead (part ∷ parts) left counts some fit small = parts_lead (part ∷ parts) 100 left counts fit small

-- a packet is wanted where words are left: then a text may not end there
pub in_a_row : (left : ℕ) (index : ℕ) (words : List (List ℕ)) (wrong : WrongWord) → (words ≡ [] → ⊥) → FirstWrong index (one a.Packet (λ number. packet_then number (packets_behind left))) words wrong → FirstWrong index (packets_behind (suc left)) words wrong
in_a_row left index [] wrong some first = absurd (some refl)
in_a_row left index (word ∷ words) wrong some first = record { is = first.is }

pub to_train_number : (number : ℕ) → IsTrue (is_number_to_train number) → (number ≡ 15 → ⊥) → (number ≡ 16 → ⊥) → (number ≡ 18 → ⊥) → number ≡ 24
to_train_number number is first second third = grind (arith, nat_tests)

-- what begins every message to a train
pub head_leads : (stamp : ℕ) (ack : Bool) (lrbg : ℕ) (next : Grammar) → stamp ≤ 4294967295 → lrbg ≤ 16777215 → Leads (head_then next) (head_words (record { stamp = stamp; ack = ack; lrbg = lrbg })) next
head_leads stamp true lrbg next early known = (refl, ((stamp, early, refl), (refl, ((1, omega arith, refl), (refl, ((lrbg, known, refl), refl))))))
head_leads stamp false lrbg next early known = (refl, ((stamp, early, refl), (refl, ((0, omega arith, refl), (refl, ((lrbg, known, refl), refl))))))

pub past_head : (head : Head) (next : Grammar) {before after : Unread} (wrong : WrongWord) → head.stamp ≤ 4294967295 → head.lrbg ≤ 16777215 → Passes (head_words head) before after → FirstWrong after.next next after.words wrong → FirstWrong before.next (head_then next) before.words wrong
past_head head next wrong early known passes first =
    past (head_words head) (head_then next) next wrong (head_leads head.stamp head.ack head.lrbg next early known) passes first
