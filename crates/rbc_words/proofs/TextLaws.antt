-- Texts of messages against their bytes.
use Rattle.std.proofs.Common.{◌≡◌, ◌∙◌, ◌==◌, ℕ, suc, ◌+◌, ◌/◌, ◌<◌, List, [], ◌∷◌, ◌++◌, length, drop, get_or, Bool, true, false, Option, Some, None, slice_get, inl, inr, refl, sym, ap, subst, arith, mod-eq_of_lt}
use Rattle.std.specs.Prelude.{codes}
use Rattle.std.specs.List.{slice_split}
use Rattle.std.proofs.lemmas.List.{append_cancel_right}
use Rattle.ertms_bits.specs.Bits.{bits_of, bytes_for, bytes_of}
use Rattle.ertms_bits.proofs.Bits.{length-bits_of}
use Rattle.ertms_bits.proofs.Bytes.{number_of-bits_of, number_of-append}
use Rattle.ertms_codec.specs.declared.from_train.Position.{Position}
use Rattle.ertms_codec.specs.declared.from_train.FromTrain.{FromTrain}
use Rattle.ertms_codec.specs.declared.from_train.FromTrain.TheVariants.{Report, Ack, StopAck}
use Rattle.ertms_codec.specs.declared.to_train.ToTrain.{ToTrain}
use Rattle.ertms_codec.specs.declared.wrong_word.WrongWord.{WrongWord}
use Rattle.ertms_codec.specs.declared.to_train.ToTrain.TheVariants.{StopAt, Stop, Revoke, General}
use Rattle.ertms_codec.specs.Encoding.{Encodes, IsInRangeToTrain, EncodesToTrain, EncodesFromTrain}
use Rattle.ertms_codec.specs.FromTrain as from_train
use Rattle.ertms_codec.specs.FromTrain.{Train, PositionFits, fields_of_position}
use Rattle.ertms_codec.specs.FromTrainWritten as from_train_written
use Rattle.ertms_codec.specs.FromTrainWritten.{IsInRange, PositionIsInRange}
use Rattle.ertms_codec.specs.Layout.{Field, width_of, bits_of_fields, bytes_of_fields, HoldValues}
use Rattle.ertms_codec.specs.Texts.{HasTextOf, is_to_train, text_to_train, text_from_train}
use Rattle.ertms_codec.specs.ToTrain as to_train
use Rattle.ertms_codec.specs.Variables.{nid_message}
use Rattle.ertms_codec.specs.Grammar.{Grammar, Ends, Word, Stops, FirstWrong, message, is_to_train_word}
use Rattle.ertms_codec.specs.Words.{kind_to_train, words_to_train, kind_from_train, words_from_train}
use Rattle.ertms_codec.proofs.Fields.{width_of-cons}
use Rattle.ertms_codec.proofs.SameWords.{same_from_train}
use Rattle.ertms_codec.proofs.NumberWords.{false_is_not_true}
use Rattle.ertms_codec.proofs.TextWords.{from_train_split}
use Rattle.ertms_codec.proofs.ToTrainTexts.{to_train_split, never_to_train, never_of_train}
use Rattle.rbc_words.proofs.SameTexts.{same_to_train}
use Rattle.rbc_words.specs.TextLaw.{IsTextOfAMessage, EachIsEncoded, EachEncodedIsDescribed, EachDescribedIsOfAMessage, OneMessageEach, OneEncodingEach, OneWrongWordEach}
use Rattle.rbc_words.proofs.Spellings.{position_of, to_train_spelled, from_train_spelled}

pub each_is_encoded : EachIsEncoded
each_is_encoded =
    record {
      to_a_train = λ m range. inl record { message = m; fits = range.fits; text_is = refl; bytes_are = refl; spelled = to_train_spelled m range };
      from_a_train = λ m range. inr record { message = m; range = range; text_is = refl; bytes_are = refl; spelled = from_train_spelled m range };
    }

-- the first byte of a message is its number
first_by : (number count : ℕ) (rest : List ℕ) → number < 256 → slice_get (bytes_of (suc count) (bits_of 8 number ++ rest)) 0 ≡ Some number
unfolding bytes_of
first_by number count rest small =
    let long = length-bits_of 8 number in
    ap Some (number_of-append 8 (bits_of 8 number) rest (omega (arith, long)) ∙ number_of-bits_of 8 number ∙ mod-eq_of_lt small)

first_byte : (number : ℕ) (fields : List Field) → number < 256 → slice_get (bytes_of_fields (nid_message number ∷ fields)) 0 ≡ Some number
first_byte number fields small =
    let widths = width_of-cons (nid_message number) fields in
    let one_more : bytes_for (width_of (nid_message number ∷ fields)) ≡ suc ((width_of fields + 7) / 8) = omega (arith, widths) in
    ap (λ count. slice_get (bytes_of count (bits_of_fields (nid_message number ∷ fields))) 0) one_more
    ∙ first_by number ((width_of fields + 7) / 8) (bits_of_fields fields) small

to_train_first : (m : ToTrain) → is_to_train (slice_get (to_train.spelling_of m) 0) ≡ true
to_train_first (StopAt head id scale reference dir distance) = ap is_to_train (first_byte 15 (drop 1 (to_train.fields_of (StopAt head id scale reference dir distance))) (omega arith))
to_train_first (Stop head id) = ap is_to_train (first_byte 16 (drop 1 (to_train.fields_of (Stop head id))) (omega arith))
to_train_first (Revoke head id) = ap is_to_train (first_byte 18 (drop 1 (to_train.fields_of (Revoke head id))) (omega arith))
to_train_first (General head packets) = ap is_to_train (first_byte 24 (drop 1 (to_train.fields_of (General head packets))) (omega arith))

from_train_first : (m : FromTrain) → is_to_train (slice_get (from_train_written.spelling_of m) 0) ≡ false
from_train_first (Report stamp engine position) = ap is_to_train (first_byte 136 (drop 1 (from_train_written.fields_of_message (Report stamp engine position))) (omega arith))
from_train_first (Ack stamp engine acked) = ap is_to_train (first_byte 146 (drop 1 (from_train_written.fields_of_message (Ack stamp engine acked))) (omega arith))
from_train_first (StopAck stamp engine id answer position) = ap is_to_train (first_byte 147 (drop 1 (from_train_written.fields_of_message (StopAck stamp engine id answer position))) (omega arith))

-- bytes that a text is encoded to are described as that text
described_to_train : (text bytes : List ℕ) → EncodesToTrain text bytes → HasTextOf (is_to_train (slice_get bytes 0)) bytes (text ++ codes "\n")
described_to_train text bytes e =
    let first = ap (λ (these : List ℕ). is_to_train (slice_get these 0)) e.bytes_are ∙ to_train_first e.message in
    subst (λ to. HasTextOf to bytes (text ++ codes "\n")) (sym first) (e.message, e.spelled, ap (λ (line : List ℕ). line ++ codes "\n") e.text_is)

described_from_train : (text bytes : List ℕ) → EncodesFromTrain text bytes → HasTextOf (is_to_train (slice_get bytes 0)) bytes (text ++ codes "\n")
described_from_train text bytes e =
    let first = ap (λ (these : List ℕ). is_to_train (slice_get these 0)) e.bytes_are ∙ from_train_first e.message in
    subst (λ to. HasTextOf to bytes (text ++ codes "\n")) (sym first) (e.message, e.spelled, ap (λ (line : List ℕ). line ++ codes "\n") e.text_is)

pub each_encoded_is_described : EachEncodedIsDescribed
each_encoded_is_described text bytes (inl e) = described_to_train text bytes e
each_encoded_is_described text bytes (inr e) = described_from_train text bytes e

-- a message that is spelled is in range
position_in_range_by : (previous : Option ℕ) (scale lrbg distance dir side over under size : ℕ) (t : Train) → PositionFits (position_of previous scale lrbg distance dir side over under) → HoldValues (fields_of_position size (position_of previous scale lrbg distance dir side over under) t) → PositionIsInRange (position_of previous scale lrbg distance dir side over under)
unfolding position_of
position_in_range_by None scale lrbg distance dir side over under size t fits h =
    let a = h.1.1.1.0 in
    let b = h.1.1.1.1.0 in
    let c = h.1.1.1.1.1.1.1.0 in
    let d = h.1.1.1.1.1.1.1.1.0 in
    record { fits = fits; previous = tt; lrbg = omega (arith, a); distance = omega (arith, b); over = omega (arith, c); under = omega (arith, d) }
position_in_range_by (Some previous) scale lrbg distance dir side over under size t fits h =
    let a = h.1.1.1.0 in
    let e = h.1.1.1.1.0 in
    let b = h.1.1.1.1.1.0 in
    let c = h.1.1.1.1.1.1.1.1.0 in
    let d = h.1.1.1.1.1.1.1.1.1.0 in
    record { fits = fits; previous = omega (arith, e); lrbg = omega (arith, a); distance = omega (arith, b); over = omega (arith, c); under = omega (arith, d) }

position_in_range : (p : Position) (size : ℕ) (t : Train) → PositionFits p → HoldValues (fields_of_position size p t) → PositionIsInRange p
unfolding position_of
position_in_range p size t fits holds =
    position_in_range_by p.previous p.scale p.lrbg p.distance p.dir p.side p.over p.under size t fits holds

in_range : (m : FromTrain) (bytes : List ℕ) → from_train.Spells bytes m → IsInRange m
in_range (Report stamp engine position) bytes s =
    let h = s.holds in
    let a = h.1.1.0 in
    let b = h.1.1.1.0 in
    let packet = s.stands.position in
    (omega (arith, a), omega (arith, b), position_in_range position (length s.stands.packet) packet.train s.fits packet.holds)
in_range (Ack stamp engine acked) bytes s =
    let h = s.holds in
    let a = h.1.1.0 in
    let b = h.1.1.1.0 in
    let c = h.1.1.1.1.0 in
    (omega (arith, a), omega (arith, b), omega (arith, c))
in_range (StopAck stamp engine id answer position) bytes s =
    let h = s.holds in
    let a = h.1.1.0 in
    let b = h.1.1.1.0 in
    let c = h.1.1.1.1.0 in
    let d = h.1.1.1.1.1.0 in
    let packet = s.stands.position in
    (omega (arith, a), omega (arith, b), omega (arith, c), omega (arith, d), position_in_range position (length s.stands.packet) packet.train s.fits packet.holds)

of_a_message : (to : Bool) (text bytes : List ℕ) → HasTextOf to bytes (text ++ codes "\n") → IsTextOfAMessage text bytes
of_a_message true text bytes (m, s, is) =
    inl record {
      message = m;
      range = record { fits = s.fits; reference = s.reference; holds = s.holds };
      text_is = append_cancel_right text (text_to_train m) (codes "\n") is;
      spelled = s;
    }
of_a_message false text bytes (m, s, is) =
    inr record { message = m; range = in_range m bytes s; text_is = append_cancel_right text (text_from_train m) (codes "\n") is; spelled = s }

pub each_described_is_of_a_message : EachDescribedIsOfAMessage
each_described_is_of_a_message text bytes described = of_a_message (is_to_train (slice_get bytes 0)) text bytes described

-- the first word says whether a message goes to a train
to_a_train_kind : (m : ToTrain) → is_to_train_word (kind_to_train m) ≡ true
to_a_train_kind (StopAt head id scale reference dir distance) = refl
to_a_train_kind (Stop head id) = refl
to_a_train_kind (Revoke head id) = refl
to_a_train_kind (General head packets) = refl

from_a_train_kind : (m : FromTrain) → is_to_train_word (kind_from_train m) ≡ false
from_a_train_kind (Report stamp engine position) = refl
from_a_train_kind (Ack stamp engine acked) = refl
from_a_train_kind (StopAck stamp engine id answer position) = refl

pub not_both : (m : ToTrain) (n : FromTrain) → IsInRangeToTrain m → IsInRange n → text_to_train m ≡ text_from_train n → ⊥
not_both m n first second same =
    let words : (kind_to_train m ∷ words_to_train m) ≡ kind_from_train n ∷ words_from_train n =
    sym (to_train_split m first) ∙ ap (slice_split (λ byte. byte == 32)) same ∙ from_train_split n second in
    let kinds : kind_to_train m ≡ kind_from_train n = ap (λ ws. get_or ws 0 []) words in
    false_is_not_true (sym (from_a_train_kind n) ∙ sym (ap is_to_train_word kinds) ∙ to_a_train_kind m)

pub one_message_each : OneMessageEach
one_message_each =
    record {
      to_a_train = λ m n first second same.
          same_to_train m n first second (sym (to_train_split m first) ∙ ap (slice_split (λ byte. byte == 32)) same ∙ to_train_split n second);
      from_a_train = λ m n first second same.
          same_from_train m n first second (sym (from_train_split m first) ∙ ap (slice_split (λ byte. byte == 32)) same ∙ from_train_split n second);
      not_both = not_both;
    }

-- a message that is encoded is in range
of_encoded : {text bytes : List ℕ} (e : EncodesToTrain text bytes) → IsInRangeToTrain e.message
of_encoded e = record { fits = e.fits; reference = e.spelled.reference; holds = e.spelled.holds }

pub one_encoding_each : OneEncodingEach
one_encoding_each text bytes others (inl e) (inl f) =
    let same = one_message_each.to_a_train e.message f.message (of_encoded e) (of_encoded f) (sym e.text_is ∙ f.text_is) in
    e.bytes_are ∙ ap to_train.spelling_of same ∙ sym f.bytes_are
one_encoding_each text bytes others (inr e) (inr f) =
    let same = one_message_each.from_a_train e.message f.message e.range f.range (sym e.text_is ∙ f.text_is) in
    e.bytes_are ∙ ap from_train_written.spelling_of same ∙ sym f.bytes_are
one_encoding_each text bytes others (inl e) (inr f) = absurd (not_both e.message f.message (of_encoded e) f.range (sym e.text_is ∙ f.text_is))
one_encoding_each text bytes others (inr e) (inl f) = absurd (not_both f.message e.message (of_encoded f) e.range (sym f.text_is ∙ e.text_is))

-- reading stops at one word at most
one_stop : (grammar : Grammar) (words : List (List ℕ)) (index : ℕ) (wrong other : WrongWord) → Stops index grammar words wrong → Stops index grammar words other → wrong ≡ other
one_stop Ends [] index wrong other first second = absurd first
one_stop Ends (word ∷ words) index wrong other first second = first ∙ sym second
one_stop (Word may_end expected next) [] index wrong other first second = first.1 ∙ sym second.1
one_stop (Word may_end expected next) (word ∷ words) index wrong other (inl x) (inl y) = x.1 ∙ sym y.1
one_stop (Word may_end expected next) (word ∷ words) index wrong other (inl x) (inr y) = absurd (x.0 y.0)
one_stop (Word may_end expected next) (word ∷ words) index wrong other (inr x) (inl y) = absurd (y.0 x.0)
one_stop (Word may_end expected next) (word ∷ words) index wrong other (inr x) (inr y) = one_stop (next word) words (index + 1) wrong other x.1 y.1

none_encoded : (text bytes : List ℕ) (wrong : WrongWord) → Encodes text bytes → FirstWrong 1 message (slice_split (λ byte. byte == 32) text) wrong → ⊥
none_encoded text bytes wrong (inl e) first =
    let words : slice_split (λ byte. byte == 32) text ≡ kind_to_train e.message ∷ words_to_train e.message =
    ap (slice_split (λ byte. byte == 32)) e.text_is ∙ to_train_split e.message (of_encoded e) in
    never_to_train e.message 1 wrong (of_encoded e) (subst (λ these. FirstWrong 1 message these wrong) words first)
none_encoded text bytes wrong (inr e) first =
    let words : slice_split (λ byte. byte == 32) text ≡ kind_from_train e.message ∷ words_from_train e.message =
    ap (slice_split (λ byte. byte == 32)) e.text_is ∙ from_train_split e.message e.range in
    never_of_train e.message 1 wrong e.range (subst (λ these. FirstWrong 1 message these wrong) words first)

pub one_wrong_word_each : OneWrongWordEach
one_wrong_word_each =
    record {
      one = λ text wrong other first second. one_stop message (slice_split (λ byte. byte == 32) text) 1 wrong other first.is second.is;
      none = none_encoded;
    }
