-- The texts of messages to a train, as words, and as bytes again.
use Rattle.std.proofs.Common.{◌≡◌, ◌≤◌, ◌<◌, ◌^◌, ◌+◌, ◌-◌, ◌-◌, ◌==◌, ◌||◌, ℕ, ℤ, pos, negsuc, zero, suc, w16, FitsSigned, List, [], ◌∷◌, ◌++◌, length, Bool, true, false, IsTrue, inl, inr, sym, refl, arith, ap, subst, ◌∙◌, append_assoc}
use Rattle.std.specs.Prelude.{codes}
use Rattle.std.specs.List.{slice_split, join_with_byte, flat_map, AllByRecursion as All}
use Rattle.std.specs.Fmt.{decimal, signed_decimal}
use Rattle.std.proofs.lemmas.List.{append-nil}
use Rattle.std.proofs.lemmas.List.Splits.{join_with_byte-slice_split}
use Rattle.std.proofs.lemmas.Bool.Decides.{eqb_tells}
use Rattle.ertms_codec.specs.declared.to_train.Head.{Head}
use Rattle.ertms_codec.specs.declared.to_train.ToTrain.{ToTrain}
use Rattle.ertms_codec.specs.declared.to_train.ToTrain.TheVariants.{StopAt, Stop, Revoke, General}
use Rattle.ertms_codec.specs.declared.packets.Part.{Part}
use Rattle.ertms_codec.specs.declared.packets.Part.TheVariants.{Restrict, Lift}
use Rattle.ertms_codec.specs.declared.from_train.FromTrain.{FromTrain}
use Rattle.ertms_codec.specs.declared.from_train.FromTrain.TheVariants.{Report, Ack, StopAck}
use Rattle.ertms_codec.specs.declared.wrong_word.WrongWord.{WrongWord}
use Rattle.ertms_codec.specs.declared.wrong_word.Expected.TheVariants as a
use Rattle.ertms_codec.specs.declared.name.Name.TheVariants as name
use Rattle.ertms_codec.specs.Layout.{Field, HoldValues}
use Rattle.ertms_codec.specs.PacketsToTrain.{PacketFits, IdFits, fields_of_packet}
use Rattle.ertms_codec.specs.ToTrain.{head_of}
use Rattle.ertms_codec.specs.Encoding.{IsInRangeToTrain}
use Rattle.ertms_codec.specs.FromTrainWritten.{IsInRange}
use Rattle.ertms_codec.specs.Texts.{text_to_train, packet_text, packet_behind, flag_text, is_number_to_train}
use Rattle.ertms_codec.specs.Grammar.{Grammar, Ends, Stops, FirstWrong, Allows, Fills, message, is_to_train_word, is_number_from_train, behind_to_train, behind_from_train, head_then, stop_at, named, packets_behind, first_packets}
use Rattle.ertms_codec.specs.Words.{Unread, Passes, head_words, body_words, kind_to_train, words_to_train, packet_words, part_number, part_words, kind_from_train, words_from_train}
use Rattle.ertms_codec.proofs.TextWords.{AreWords, AreWords-append, has_no_space, decimal_is_word, split_is}
use Rattle.ertms_codec.proofs.Leads.{Leads, Leads-append, past, head_leads, first_parts_lead, message_leads, stops_later, to_train_number, from_train_number, word_15, word_16, word_18, word_24, word_136, word_146, word_147}

-- a number of a message to a train is one of four words
to_train_word : (number : ℕ) (P : List ℕ → Type 0) → IsTrue (is_number_to_train number) → P (codes "15") → P (codes "16") → P (codes "18") → P (codes "24") → P (decimal number)
to_train_word number P is first second third fourth =
    elim (eqb_tells number 15) [
      | inl (_, same) ↦ subst P (sym (ap decimal same ∙ word_15)) first
      | inr (_, no_15) ↦ elim (eqb_tells number 16) [
        | inl (_, same) ↦ subst P (sym (ap decimal same ∙ word_16)) second
        | inr (_, no_16) ↦ elim (eqb_tells number 18) [
          | inl (_, same) ↦ subst P (sym (ap decimal same ∙ word_18)) third
          | inr (_, no_18) ↦ subst P (sym (ap decimal (to_train_number number is no_15 no_16 no_18) ∙ word_24)) fourth
        ]
      ]
    ]

-- and one of a message from a train is one of three
from_train_word : (number : ℕ) (P : List ℕ → Type 0) → IsTrue (is_number_from_train number) → P (codes "136") → P (codes "146") → P (codes "147") → P (decimal number)
from_train_word number P is first second third =
    elim (eqb_tells number 136) [
      | inl (_, same) ↦ subst P (sym (ap decimal same ∙ word_136)) first
      | inr (_, no_136) ↦ elim (eqb_tells number 146) [
        | inl (_, same) ↦ subst P (sym (ap decimal same ∙ word_146)) second
        | inr (_, no_146) ↦ subst P (sym (ap decimal (from_train_number number is no_136 no_146) ∙ word_147)) third
      ]
    ]

-- a word wrong behind the number of a message
pub wrong_to_train : (number : ℕ) {before after : Unread} (wrong : WrongWord) → IsTrue (is_number_to_train number) → Allows a.Message number × Passes (decimal number ∷ []) before after → FirstWrong after.next (behind_to_train (decimal number)) after.words wrong → FirstWrong before.next message before.words wrong
wrong_to_train number wrong is (allowed, passes) first =
    let chosen = to_train_word number (λ word. is_to_train_word word ≡ true) is refl refl refl refl in
    past (decimal number ∷ []) message (behind_to_train (decimal number)) wrong ((number, allowed, refl), rw chosen refl) passes first

pub wrong_from_train : (number : ℕ) {before after : Unread} (wrong : WrongWord) → IsTrue (is_number_from_train number) → Allows a.Message number × Passes (decimal number ∷ []) before after → FirstWrong after.next (behind_from_train Ends (decimal number)) after.words wrong → FirstWrong before.next message before.words wrong
wrong_from_train number wrong is (allowed, passes) first =
    let chosen = from_train_word number (λ word. is_to_train_word word ≡ false) is refl refl refl in
    past (decimal number ∷ []) message (behind_from_train Ends (decimal number)) wrong ((number, allowed, refl), rw chosen refl) passes first

-- a word behind the last one of a message from a train
pub wrong_behind : (m : FromTrain) (number : ℕ) {before between after : Unread} (wrong : WrongWord) → IsTrue (is_number_from_train number) → Allows a.Message number × Passes (decimal number ∷ []) before between → IsInRange m → kind_from_train m ≡ decimal number → Passes (words_from_train m) between after → FirstWrong after.next Ends after.words wrong → FirstWrong before.next message before.words wrong
wrong_behind m number wrong is first range kind passes stop =
    wrong_from_train number wrong is first
    (rw (sym kind) (past (words_from_train m) (behind_from_train Ends (kind_from_train m)) Ends wrong (message_leads m Ends range) passes stop))

-- where a text may end, no word is wrong
abbrev MayEnd : Grammar → Type 0
MayEnd grammar = (index : ℕ) (wrong : WrongWord) → Stops index grammar [] wrong → ⊥

true_is_not_false : true ≡ false → ⊥
true_is_not_false is = cc

packets_may_end : (left : ℕ) → MayEnd (packets_behind left)
packets_may_end zero index wrong stops = stops
packets_may_end (suc left) index wrong stops = true_is_not_false stops.0

never_wrong : (words : List (List ℕ)) (to : Grammar) (index : ℕ) (wrong : WrongWord) → Leads message words to → MayEnd to → FirstWrong index message words wrong → ⊥
never_wrong words to index wrong leads may first =
    may (index + length words) wrong
    (stops_later words [] index message to wrong leads (subst (λ ws. Stops index message ws wrong) (sym (append-nil words)) first.is))

-- the fields of packets hold their values, so identifiers fit
holds-front : (xs ys : List Field) → HoldValues (xs ++ ys) → HoldValues xs
holds-front [] ys holds = tt
holds-front (x ∷ xs) ys holds = (holds.0, holds-front xs ys holds.1)

holds-back : (xs ys : List Field) → HoldValues (xs ++ ys) → HoldValues ys
holds-back [] ys holds = holds
holds-back (x ∷ xs) ys holds = holds-back xs ys holds.1

id_fits : (part : Part) → HoldValues (fields_of_packet part) → IdFits part
id_fits (Restrict dir scale id start length front speed) holds = let small = holds.1.1.1.1.0 in omega (arith, small)
id_fits (Lift dir id) holds = let small = holds.1.1.1.0 in omega (arith, small)

ids_fit : (parts : List Part) → HoldValues (flat_map fields_of_packet parts) → All IdFits parts
ids_fit [] holds = tt
ids_fit (part ∷ parts) holds =
    (id_fits part (holds-front (fields_of_packet part) (flat_map fields_of_packet parts) holds), ids_fit parts (holds-back (fields_of_packet part) (flat_map fields_of_packet parts) holds))

-- the words of a message to a train are not refused
pub never_to_train : (m : ToTrain) (index : ℕ) (wrong : WrongWord) → IsInRangeToTrain m → FirstWrong index message (kind_to_train m ∷ words_to_train m) wrong → ⊥
never_to_train (StopAt head id scale reference dir distance) index wrong range =
    let body = range.fits.body in
    let stamp = range.holds.1.1.0 in
    let leads = Leads-append (head_words head) (body_words (StopAt head id scale reference dir distance)) (head_then stop_at) stop_at Ends (head_leads head.stamp head.ack head.lrbg stop_at (omega (arith, stamp)) range.fits.lrbg)
    (refl, ((id, body.0, refl), (refl, ((scale, body.1, refl), (refl, ((reference, range.reference, refl), (refl, ((dir, body.2, refl), (refl, ((distance, body.3, refl), refl)))))))))) in
    never_wrong (codes "15" ∷ words_to_train (StopAt head id scale reference dir distance)) Ends index wrong ((15, refl, sym word_15), leads) (λ index wrong stops. stops)
never_to_train (Stop head id) index wrong range =
    let stamp = range.holds.1.1.0 in
    let leads = Leads-append (head_words head) (body_words (Stop head id)) (head_then (named name.Em 15 Ends)) (named name.Em 15 Ends) Ends (head_leads head.stamp head.ack head.lrbg (named name.Em 15 Ends) (omega (arith, stamp)) range.fits.lrbg)
    (refl, ((id, range.fits.body, refl), refl)) in
    never_wrong (codes "16" ∷ words_to_train (Stop head id)) Ends index wrong ((16, refl, sym word_16), leads) (λ index wrong stops. stops)
never_to_train (Revoke head id) index wrong range =
    let stamp = range.holds.1.1.0 in
    let leads = Leads-append (head_words head) (body_words (Revoke head id)) (head_then (named name.Em 15 Ends)) (named name.Em 15 Ends) Ends (head_leads head.stamp head.ack head.lrbg (named name.Em 15 Ends) (omega (arith, stamp)) range.fits.lrbg)
    (refl, ((id, range.fits.body, refl), refl)) in
    never_wrong (codes "18" ∷ words_to_train (Revoke head id)) Ends index wrong ((18, refl, sym word_18), leads) (λ index wrong stops. stops)
never_to_train (General head packets) index wrong range =
    let body = range.fits.body in
    let stamp = range.holds.1.1.0 in
    let most = body.most in
    let left : ℕ = 100 - length packets in
    let ids = ids_fit packets range.holds.1.1.1.1.1 in
    let leads = Leads-append (head_words head) (body_words (General head packets)) (head_then first_packets) first_packets (packets_behind left) (head_leads head.stamp head.ack head.lrbg first_packets (omega (arith, stamp)) range.fits.lrbg)
    (first_parts_lead packets left (omega (arith, most)) body.some body.each ids) in
    never_wrong (codes "24" ∷ words_to_train (General head packets)) (packets_behind left) index wrong ((24, refl, sym word_24), leads) (packets_may_end left)

-- and nor are those of a message from a train
kind_fills : (m : FromTrain) → Fills a.Message (kind_from_train m)
kind_fills (Report stamp engine position) = (136, refl, sym word_136)
kind_fills (Ack stamp engine acked) = (146, refl, sym word_146)
kind_fills (StopAck stamp engine id answer position) = (147, refl, sym word_147)

kind_chosen : (m : FromTrain) → is_to_train_word (kind_from_train m) ≡ false
kind_chosen (Report stamp engine position) = refl
kind_chosen (Ack stamp engine acked) = refl
kind_chosen (StopAck stamp engine id answer position) = refl

pub never_of_train : (m : FromTrain) (index : ℕ) (wrong : WrongWord) → IsInRange m → FirstWrong index message (kind_from_train m ∷ words_from_train m) wrong → ⊥
never_of_train m index wrong range =
    never_wrong (kind_from_train m ∷ words_from_train m) Ends index wrong
    (kind_fills m, rw (kind_chosen m) (message_leads m Ends range)) (λ index wrong stops. stops)

pub other_half : (first second : Bool) → IsTrue (first || second) → first ≡ false → IsTrue second
other_half true second is not = absurd (true_is_not_false not)
other_half false second is not = is

-- words and packets behind them, as a text
packet_text_is : (part : Part) → join_with_byte 32 (packet_words part) ≡ packet_text part
packet_text_is (Restrict dir scale id start length front speed) = refl
packet_text_is (Lift dir id) = refl

join-append : (x : List ℕ) (xs : List (List ℕ)) (y : List ℕ) (ys : List (List ℕ)) → join_with_byte 32 ((x ∷ xs) ++ (y ∷ ys)) ≡ join_with_byte 32 (x ∷ xs) ++ (32 ∷ join_with_byte 32 (y ∷ ys))
join-append x [] y ys = refl
join-append x (z ∷ zs) y ys = rw (join-append z zs y ys, append_assoc) refl

packets_text : (x : List ℕ) (xs : List (List ℕ)) (parts : List Part) → join_with_byte 32 ((x ∷ xs) ++ flat_map packet_words parts) ≡ join_with_byte 32 (x ∷ xs) ++ flat_map packet_behind parts
packets_text x xs [] = ap (join_with_byte 32) (append-nil (x ∷ xs)) ∙ sym (append-nil (join_with_byte 32 (x ∷ xs)))
packets_text x xs (part ∷ parts) =
    ap (join_with_byte 32) (sym (append_assoc (x ∷ xs) (packet_words part) (flat_map packet_words parts)))
    ∙ packets_text x (xs ++ packet_words part) parts
    ∙ ap (λ (text : List ℕ). text ++ flat_map packet_behind parts) (join-append x xs (part_number part) (part_words part) ∙ ap (λ (text : List ℕ). join_with_byte 32 (x ∷ xs) ++ (32 ∷ text)) (packet_text_is part))
    ∙ append_assoc (join_with_byte 32 (x ∷ xs)) (packet_behind part) (flat_map packet_behind parts)

to_train_text : (m : ToTrain) → text_to_train m ≡ join_with_byte 32 (kind_to_train m ∷ words_to_train m)
to_train_text (StopAt head id scale reference dir distance) = simp append_assoc refl
to_train_text (Stop head id) = simp append_assoc refl
to_train_text (Revoke head id) = simp append_assoc refl
to_train_text (General head packets) =
    let whole = packets_text (codes "24") (head_words head) packets in
    sym whole

pub to_train_joined : (m : ToTrain) (text : List ℕ) → slice_split (λ byte. byte == 32) text ≡ kind_to_train m ∷ words_to_train m → text ≡ text_to_train m
to_train_joined m text split =
    sym (join_with_byte-slice_split 32 text) ∙ ap (join_with_byte 32) split ∙ sym (to_train_text m)

-- no word of a message to a train has a space
flag_is_word : (flag : Bool) → has_no_space (flag_text flag) ≡ true
flag_is_word true = decimal_is_word 1 (omega arith)
flag_is_word false = decimal_is_word 0 (omega arith)

signed_is_word : (number : ℤ) → FitsSigned w16 number → has_no_space (signed_decimal number) ≡ true
signed_is_word (pos n) fits = decimal_is_word n (omega (arith, fits))
signed_is_word (negsuc n) fits = decimal_is_word (suc n) (omega (arith, fits))

head_are_words : (head : Head) → head.stamp < 2 ^ 32 → head.lrbg ≤ 16777215 → AreWords (head_words head)
head_are_words head early known =
    (refl, (decimal_is_word head.stamp (omega (arith, early)), (refl, (flag_is_word head.ack, (refl, (decimal_is_word head.lrbg (omega (arith, known)), tt))))))

part_are_words : (part : Part) → PacketFits part → IdFits part → AreWords (packet_words part)
part_are_words (Restrict dir scale id start length front speed) fits small =
    let a = decimal_is_word dir (omega (arith, fits.0)) in
    let b = decimal_is_word scale (omega (arith, fits.1)) in
    let c = decimal_is_word id (omega (arith, small)) in
    let d = decimal_is_word start (omega (arith, fits.2)) in
    let e = decimal_is_word length (omega (arith, fits.3)) in
    let f = decimal_is_word speed (omega (arith, fits.4)) in
    (refl, (refl, (a, (refl, (b, (refl, (c, (refl, (d, (refl, (e, (refl, (flag_is_word front, (refl, (f, tt)))))))))))))))
part_are_words (Lift dir id) fits small =
    (refl, (refl, (decimal_is_word dir (omega (arith, fits)), (refl, (decimal_is_word id (omega (arith, small)), tt)))))

parts_are_words : (parts : List Part) → All PacketFits parts → All IdFits parts → AreWords (flat_map packet_words parts)
parts_are_words [] fit small = tt
parts_are_words (part ∷ parts) fit small =
    AreWords-append (packet_words part) (flat_map packet_words parts) (part_are_words part fit.0 small.0) (parts_are_words parts fit.1 small.1)

body_are_words : (m : ToTrain) → IsInRangeToTrain m → AreWords (body_words m)
body_are_words (StopAt head id scale reference dir distance) range =
    let body = range.fits.body in
    let a = decimal_is_word id (omega (arith, body.0)) in
    let b = decimal_is_word scale (omega (arith, body.1)) in
    let c = signed_is_word reference range.reference in
    let d = decimal_is_word dir (omega (arith, body.2)) in
    let e = decimal_is_word distance (omega (arith, body.3)) in
    (refl, (a, (refl, (b, (refl, (c, (refl, (d, (refl, (e, tt))))))))))
body_are_words (Stop head id) range = let body = range.fits.body in (refl, (decimal_is_word id (omega (arith, body)), tt))
body_are_words (Revoke head id) range = let body = range.fits.body in (refl, (decimal_is_word id (omega (arith, body)), tt))
body_are_words (General head packets) range = parts_are_words packets range.fits.body.each (ids_fit packets range.holds.1.1.1.1.1)

kind_is_word : (m : ToTrain) → has_no_space (kind_to_train m) ≡ true
kind_is_word (StopAt head id scale reference dir distance) = refl
kind_is_word (Stop head id) = refl
kind_is_word (Revoke head id) = refl
kind_is_word (General head packets) = refl

pub to_train_split : (m : ToTrain) → IsInRangeToTrain m → slice_split (λ byte. byte == 32) (text_to_train m) ≡ kind_to_train m ∷ words_to_train m
to_train_split m range =
    let stamp = range.holds.1.1.0 in
    ap (slice_split (λ byte. byte == 32)) (to_train_text m)
    ∙ split_is (kind_to_train m) (words_to_train m) (kind_is_word m, AreWords-append (head_words (head_of m)) (body_words m) (head_are_words (head_of m) stamp range.fits.lrbg) (body_are_words m range))
