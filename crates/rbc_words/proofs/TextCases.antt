-- The worked cases of texts.
use Rattle.std.proofs.Common.{◌≡◌, ◌∙◌, ◌==◌, ℕ, negsuc, zero, suc, ◌+◌, ◌%◌, ◌^◌, ◌<◌, ◌≤◌, List, [], ◌∷◌, ◌++◌, length, get_or, Bool, true, false, Option, Some, None, nat_lt, inl, inr, refl, sym, ap, subst, arith}
use Rattle.std.specs.Prelude.{codes}
use Rattle.std.specs.List.{slice_split, list_all}
use Rattle.std.specs.Fmt.{decimal, digits}
use Rattle.std.proofs.lemmas.Bool.{lt-ltb}
use Rattle.std.proofs.lemmas.Bool.Decides.{nat_tests}
use Rattle.std.proofs.lemmas.Fmt.{decimal_by_steps, first_decimal}
use Rattle.std.proofs.lemmas.List.Folds.{list_all-append}
use Rattle.ertms_bits.specs.Bits.{bits_of, number_of, bytes_of}
use Rattle.ertms_codec.specs.declared.from_train.Position.{Position}
use Rattle.ertms_codec.specs.declared.from_train.FromTrain.{FromTrain}
use Rattle.ertms_codec.specs.declared.from_train.FromTrain.TheVariants.{Report, Ack, StopAck}
use Rattle.ertms_codec.specs.declared.to_train.Head.{Head}
use Rattle.ertms_codec.specs.declared.to_train.ToTrain.{ToTrain}
use Rattle.ertms_codec.specs.declared.to_train.ToTrain.TheVariants.{StopAt, Stop, Revoke, General}
use Rattle.ertms_codec.specs.declared.packets.Part.TheVariants.{Restrict, Lift}
use Rattle.ertms_codec.specs.declared.name.Name.TheVariants as name
use Rattle.ertms_codec.specs.declared.wrong_word.Expected.{Expected}
use Rattle.ertms_codec.specs.declared.wrong_word.Expected.TheVariants as a
use Rattle.ertms_codec.specs.Encoding.{IsInRangeToTrain}
use Rattle.ertms_codec.specs.FromTrain as from_train
use Rattle.ertms_codec.specs.FromTrainWritten as from_train_written
use Rattle.ertms_codec.specs.FromTrainWritten.{IsInRange, PositionIsInRange, IsNumberOfGroup}
use Rattle.ertms_codec.specs.Grammar.{Grammar, Ends, Stops, Fills, Allows, message, first_packets, wrong_at, one, named, place_then, packets_behind, head_then}
use Rattle.ertms_codec.specs.Texts.{text_to_train, text_from_train}
use Rattle.ertms_codec.specs.ToTrain as to_train
use Rattle.ertms_codec.specs.Words.{Unread, head_words, train_words}
use Rattle.ertms_codec.proofs.Leads.{Leads, Leads-append, past, head_leads, word_0, word_16, word_18, word_24, word_65, word_136}
use Rattle.ertms_codec.proofs.NumberWords.{false_is_not_true}
use Rattle.std.specs.Str.{bytes_eq}
use Rattle.ertms_codec.proofs.WordsLeft.{other_number, numbers_to}
use Rattle.rbc_words.specs.TextWitnesses.{bytes_of_hex, IsEncoded, IsWrongAt}
use Rattle.rbc_words.proofs.SameTexts.{unlike}
use Rattle.rbc_words.proofs.Spellings.{to_train_spelled, from_train_spelled}
use Rattle.rbc_words.proofs.TextLaws.{one_encoding_each}

-- texts that are encoded, by their messages
encoded_to : (m : ToTrain) (text hex : List ℕ) → IsInRangeToTrain m → text ≡ text_to_train m → bytes_of_hex hex ≡ to_train.spelling_of m → IsEncoded text hex
encoded_to m text hex range is bytes =
    inl record { message = m; fits = range.fits; text_is = is; bytes_are = bytes; spelled = subst (λ these. to_train.Spells these m) (sym bytes) (to_train_spelled m range) }

encoded_from : (m : FromTrain) (text hex : List ℕ) → IsInRange m → text ≡ text_from_train m → bytes_of_hex hex ≡ from_train_written.spelling_of m → IsEncoded text hex
encoded_from m text hex range is bytes =
    inr record { message = m; range = range; text_is = is; bytes_are = bytes; spelled = subst (λ these. from_train.Spells these m) (sym bytes) (from_train_spelled m range) }

abbrev near_5 : Option ℕ → Position
near_5 previous = record { previous = previous; scale = 0; lrbg = 5; distance = 2000; dir = 1; side = 1; over = 100; under = 100 }

near_5_in_range : (previous : Option ℕ) → IsNumberOfGroup previous → PositionIsInRange (near_5 previous)
near_5_in_range previous range =
    record { fits = (omega arith, omega arith, omega arith); previous = range; lrbg = omega arith; distance = omega arith; over = omega arith; under = omega arith }

pub report : IsEncoded (codes "136 stamp 1000 engine 7 0 scale 0 lrbg 5 distance 2000 dir 1 side 1 over 100 under 100") (codes "8806000000FA000001C000E400000287D0500C8019000830")
unfolding digits bits_of number_of bytes_of
report = encoded_from (Report 1000 7 (near_5 None)) (codes "136 stamp 1000 engine 7 0 scale 0 lrbg 5 distance 2000 dir 1 side 1 over 100 under 100") (codes "8806000000FA000001C000E400000287D0500C8019000830") (omega arith, omega arith, near_5_in_range None tt) refl refl

pub report_of_two_groups : IsEncoded (codes "136 stamp 1000 engine 7 1 scale 0 lrbg 5 previous 6 distance 2000 dir 1 side 1 over 100 under 100") (codes "8806C00000FA000001C0411400000280000307D0500C8019000830")
unfolding digits bits_of number_of bytes_of
report_of_two_groups = encoded_from (Report 1000 7 (near_5 (Some 6))) (codes "136 stamp 1000 engine 7 1 scale 0 lrbg 5 previous 6 distance 2000 dir 1 side 1 over 100 under 100") (codes "8806C00000FA000001C0411400000280000307D0500C8019000830") (omega arith, omega arith, near_5_in_range (Some 6) (omega arith)) refl refl

pub acknowledgement : IsEncoded (codes "146 stamp 1000 engine 7 acked 16") (codes "9203800000FA000001C000000400")
unfolding digits bits_of number_of bytes_of
acknowledgement = encoded_from (Ack 1000 7 16) (codes "146 stamp 1000 engine 7 acked 16") (codes "9203800000FA000001C000000400") (omega arith, omega arith, omega arith) refl refl

pub stop_acknowledgement : IsEncoded (codes "147 stamp 2000 engine 7 em 0 answer 3 0 scale 0 lrbg 5 distance 2000 dir 1 side 1 over 100 under 100") (codes "9306400001F4000001C300039000000A1F41403200640020C0")
unfolding digits bits_of number_of bytes_of
stop_acknowledgement = encoded_from (StopAck 2000 7 0 3 (near_5 None)) (codes "147 stamp 2000 engine 7 em 0 answer 3 0 scale 0 lrbg 5 distance 2000 dir 1 side 1 over 100 under 100") (codes "9306400001F4000001C300039000000A1F41403200640020C0") (omega arith, omega arith, omega arith, omega arith, near_5_in_range None tt) refl refl

-- what begins the messages to a train
abbrev head_1 : Head
head_1 = record { stamp = 1; ack = false; lrbg = 5 }

abbrev head_1001 : Head
head_1001 = record { stamp = 1001; ack = true; lrbg = 5 }

pub stop_at : IsEncoded (codes "15 stamp 1 ack 0 lrbg 5 em 0 scale 2 ref -32768 dir 2 stop 32767") (codes "0F03C0000000400000A140005FFFC0")
unfolding digits bits_of number_of bytes_of
stop_at =
    encoded_to (StopAt head_1 0 2 (negsuc 32767) 2 32767) (codes "15 stamp 1 ack 0 lrbg 5 em 0 scale 2 ref -32768 dir 2 stop 32767") (codes "0F03C0000000400000A140005FFFC0")
    record {
      fits = record { lrbg = omega arith; body = (omega arith, omega arith, omega arith, omega arith) };
      reference = omega arith;
      holds = (omega arith, (omega arith, (omega arith, (omega arith, (omega arith, (omega arith, (omega arith, (omega arith, (omega arith, (omega arith, tt))))))))));
    }
    refl refl

pub stop : IsEncoded (codes "16 stamp 1 ack 0 lrbg 5 em 15") (codes "100280000000400000BE")
unfolding digits bits_of number_of bytes_of
stop =
    encoded_to (Stop head_1 15) (codes "16 stamp 1 ack 0 lrbg 5 em 15") (codes "100280000000400000BE")
    record {
      fits = record { lrbg = omega arith; body = omega arith };
      reference = tt;
      holds = (omega arith, (omega arith, (omega arith, (omega arith, (omega arith, (omega arith, tt))))));
    }
    refl refl

pub revoke : IsEncoded (codes "18 stamp 1 ack 0 lrbg 5 em 0") (codes "120280000000400000A0")
unfolding digits bits_of number_of bytes_of
revoke =
    encoded_to (Revoke head_1 0) (codes "18 stamp 1 ack 0 lrbg 5 em 0") (codes "120280000000400000A0")
    record {
      fits = record { lrbg = omega arith; body = omega arith };
      reference = tt;
      holds = (omega arith, (omega arith, (omega arith, (omega arith, (omega arith, (omega arith, tt))))));
    }
    refl refl

pub restrict : IsEncoded (codes "24 stamp 1001 ack 1 lrbg 5 65 dir 1 scale 0 tsr 255 start 0 length 1000 front 1 speed 120") (codes "1804C00000FA600000A82811CFF00000FA3E00")
unfolding digits bits_of number_of bytes_of
restrict =
    encoded_to (General head_1001 (Restrict 1 0 255 0 1000 true 120 ∷ [])) (codes "24 stamp 1001 ack 1 lrbg 5 65 dir 1 scale 0 tsr 255 start 0 length 1000 front 1 speed 120") (codes "1804C00000FA600000A82811CFF00000FA3E00")
    record {
      fits = record { lrbg = omega arith; body = record { some = omega arith; most = omega arith; each = ((omega arith, omega arith, omega arith, omega arith, omega arith), tt) } };
      reference = tt;
      holds = (omega arith, (omega arith, (omega arith, (omega arith, (omega arith, (omega arith, (omega arith, (omega arith, (omega arith, (omega arith, (omega arith, (omega arith, (omega arith, (omega arith, tt))))))))))))));
    }
    refl refl

pub lift : IsEncoded (codes "24 stamp 1001 ack 1 lrbg 5 66 dir 2 tsr 255") (codes "1803800000FA600000A85007FFC0")
unfolding digits bits_of number_of bytes_of
lift =
    encoded_to (General head_1001 (Lift 2 255 ∷ [])) (codes "24 stamp 1001 ack 1 lrbg 5 66 dir 2 tsr 255") (codes "1803800000FA600000A85007FFC0")
    record {
      fits = record { lrbg = omega arith; body = record { some = omega arith; most = omega arith; each = (omega arith, tt) } };
      reference = tt;
      holds = (omega arith, (omega arith, (omega arith, (omega arith, (omega arith, (omega arith, (omega arith, (omega arith, (omega arith, tt)))))))));
    }
    refl refl

-- bytes that differ are not those of the text
not_encoded : (text hex wrong : List ℕ) → IsEncoded text hex → bytes_eq (bytes_of_hex hex) (bytes_of_hex wrong) ≡ false → IsEncoded text wrong → ⊥
not_encoded text hex wrong right apart e = unlike (bytes_of_hex hex) (bytes_of_hex wrong) apart (one_encoding_each text (bytes_of_hex hex) (bytes_of_hex wrong) right e)

pub fill_bits_of_1 : IsEncoded (codes "136 stamp 1000 engine 7 0 scale 0 lrbg 5 distance 2000 dir 1 side 1 over 100 under 100") (codes "8806000000FA000001C000E400000287D0500C801900083F") → ⊥
fill_bits_of_1 = not_encoded (codes "136 stamp 1000 engine 7 0 scale 0 lrbg 5 distance 2000 dir 1 side 1 over 100 under 100") (codes "8806000000FA000001C000E400000287D0500C8019000830") (codes "8806000000FA000001C000E400000287D0500C801900083F") report refl

pub level_2 : IsEncoded (codes "136 stamp 1000 engine 7 0 scale 0 lrbg 5 distance 2000 dir 1 side 1 over 100 under 100") (codes "8806000000FA000001C000E400000287D0500C8019000820") → ⊥
level_2 = not_encoded (codes "136 stamp 1000 engine 7 0 scale 0 lrbg 5 distance 2000 dir 1 side 1 over 100 under 100") (codes "8806000000FA000001C000E400000287D0500C8019000830") (codes "8806000000FA000001C000E400000287D0500C8019000820") report refl

pub moving : IsEncoded (codes "136 stamp 1000 engine 7 0 scale 0 lrbg 5 distance 2000 dir 1 side 1 over 100 under 100") (codes "8806000000FA000001C000E400000287D0500C8019002830") → ⊥
moving = not_encoded (codes "136 stamp 1000 engine 7 0 scale 0 lrbg 5 distance 2000 dir 1 side 1 over 100 under 100") (codes "8806000000FA000001C000E400000287D0500C8019000830") (codes "8806000000FA000001C000E400000287D0500C8019002830") report refl

pub stop_for_revocation : IsEncoded (codes "18 stamp 1 ack 0 lrbg 5 em 0") (codes "100280000000400000A0") → ⊥
stop_for_revocation = not_encoded (codes "18 stamp 1 ack 0 lrbg 5 em 0") (codes "120280000000400000A0") (codes "100280000000400000A0") revoke refl

-- a text is wrong behind words that lead so far
wrong_behind : (good rest : List (List ℕ)) (to : Grammar) (text : List ℕ) (index : ℕ) (expected : Expected) → slice_split (λ byte. byte == 32) text ≡ good ++ rest → index ≡ 1 + length good → Leads message good to → Stops index to rest (wrong_at index expected) → IsWrongAt text index expected
wrong_behind good rest to text index expected split counted leads stops =
    let before : Unread = record { next = 1; words = good ++ rest } in
    let after : Unread = record { next = index; words = rest } in
    rw split (past good message to {before = before} {after = after} (wrong_at index expected) leads (record { are = refl; next = counted }) (record { is = stops }))

-- a number of two digits does not begin with 0
no_leading_zero : (most : ℕ) → most < 4294967296 → Fills (a.Number most) (codes "01") → ⊥
no_leading_zero most small (zero, fits, is) = let long = ap length is ∙ ap length word_0 in omega (arith, long)
no_leading_zero most small (suc n, fits, is) =
    let first = first_decimal (suc n) (omega arith) (omega arith) in
    let same = ap (λ (word : List ℕ). get_or word 0 0) is in
    omega (arith, first, same)

-- each byte of a number is a digit
abbrev are_digits : List ℕ → Bool
are_digits word = list_all (λ byte. nat_lt byte 58) word

one_more_digit : (n : ℕ) (before : List ℕ) → 10 ≤ n → are_digits before ≡ true → are_digits (before ++ (48 + n % 10) ∷ []) ≡ true
one_more_digit n before large is =
    let last : nat_lt (48 + n % 10) 58 ≡ true = lt-ltb (48 + n % 10) 58 (omega arith) in
    rw (list_all-append, is, last) refl

number_has_digits : (n : ℕ) → n < 2 ^ 64 → are_digits (decimal n) ≡ true
number_has_digits = decimal_by_steps (λ n word. are_digits word ≡ true) (λ n small. rw (lt-ltb (48 + n) 58 (omega arith)) refl) one_more_digit

message_is_small : (n : ℕ) → Allows a.Message n → n < 2 ^ 64
message_is_small n allowed = grind (arith, nat_tests)

no_number : Fills a.Message (codes "recv") → ⊥
no_number (n, allowed, is) =
    let all = ap are_digits is ∙ number_has_digits n (message_is_small n allowed) in
    false_is_not_true all

-- the words of a message to a train up to its body
head_leads_on : (to : Grammar) → Leads (head_then to) (head_words head_1) to
head_leads_on to = head_leads 1 false 5 to (omega arith) (omega arith)

pub word_too_many : IsWrongAt (codes "18 stamp 1 ack 0 lrbg 5 em 0 em 0") 10 a.End
unfolding digits
word_too_many =
    wrong_behind (codes "18" ∷ (head_words head_1 ++ (codes "em" ∷ decimal 0 ∷ []))) (codes "em" ∷ codes "0" ∷ []) Ends (codes "18 stamp 1 ack 0 lrbg 5 em 0 em 0") 10 a.End refl refl (
      (18, refl, sym word_18),
      Leads-append (head_words head_1) (codes "em" ∷ decimal 0 ∷ []) (head_then (named name.Em 15 Ends)) (named name.Em 15 Ends) Ends (head_leads_on (named name.Em 15 Ends)) (refl, ((0, omega arith, refl), refl)),
    )
    refl

pub out_of_range : IsWrongAt (codes "16 stamp 1 ack 0 lrbg 5 em 16") 9 (a.Number 15)
unfolding digits
out_of_range =
    wrong_behind (codes "16" ∷ (head_words head_1 ++ (codes "em" ∷ []))) (codes "16" ∷ []) (one (a.Number 15) (λ _. Ends)) (codes "16 stamp 1 ack 0 lrbg 5 em 16") 9 (a.Number 15) refl refl (
      (16, refl, sym word_16),
      Leads-append (head_words head_1) (codes "em" ∷ []) (head_then (named name.Em 15 Ends)) (named name.Em 15 Ends) (one (a.Number 15) (λ _. Ends)) (head_leads_on (named name.Em 15 Ends)) (refl, refl),
    )
    (inl (other_number (a.Number 15) (codes "16") 16 (numbers_to 15 (omega arith)) (omega arith) (sym word_16) (λ few. omega (arith, few)), refl))

pub leading_zero : IsWrongAt (codes "16 stamp 01 ack 0 lrbg 5 em 0") 3 (a.Number 4294967295)
leading_zero =
    wrong_behind (codes "16" ∷ codes "stamp" ∷ []) (codes "01" ∷ codes "ack" ∷ codes "0" ∷ codes "lrbg" ∷ codes "5" ∷ codes "em" ∷ codes "0" ∷ [])
    (one (a.Number 4294967295) (λ _. named name.Ack 1 (named name.Lrbg 16777215 (named name.Em 15 Ends)))) (codes "16 stamp 01 ack 0 lrbg 5 em 0") 3 (a.Number 4294967295) refl refl
    ((16, refl, sym word_16), (refl, refl))
    (inl (no_leading_zero 4294967295 (omega arith), refl))

-- the words of packet 65 up to its speed
abbrev words_65 : List (List ℕ)
words_65 =
    codes "65" ∷ codes "dir" ∷ decimal 1 ∷ codes "scale" ∷ decimal 0 ∷ codes "tsr" ∷ decimal 0 ∷ codes "start" ∷ decimal 0
    ∷ codes "length" ∷ decimal 10 ∷ codes "front" ∷ decimal 1 ∷ []

words_65_lead : Leads first_packets words_65 (named name.Speed 120 (packets_behind 99))
words_65_lead =
    ((65, refl, sym word_65), (refl, ((1, omega arith, refl), (refl, ((0, omega arith, refl), (refl, ((0, omega arith, refl), (refl, ((0, omega arith, refl), (refl, ((10, omega arith, refl), (refl, ((1, omega arith, refl), refl)))))))))))))

pub without_speed : IsWrongAt (codes "24 stamp 1 ack 0 lrbg 5 65 dir 1 scale 0 tsr 0 start 0 length 10 front 1") 21 (a.Name name.Speed)
unfolding digits
without_speed =
    wrong_behind (codes "24" ∷ (head_words head_1 ++ words_65)) [] (named name.Speed 120 (packets_behind 99)) (codes "24 stamp 1 ack 0 lrbg 5 65 dir 1 scale 0 tsr 0 start 0 length 10 front 1") 21 (a.Name name.Speed) refl refl (
      (24, refl, sym word_24),
      Leads-append (head_words head_1) words_65 (head_then first_packets) first_packets (named name.Speed 120 (packets_behind 99)) (head_leads_on first_packets) words_65_lead,
    )
    (refl, refl)

pub previous_in_packet_0 : IsWrongAt (codes "136 stamp 1 engine 7 0 scale 0 lrbg 5 previous 6 distance 2000 dir 1 side 1 over 100 under 100") 11 (a.Name name.Distance)
unfolding digits
previous_in_packet_0 =
    wrong_behind (codes "136" ∷ (train_words 1 7 ++ (codes "0" ∷ codes "scale" ∷ decimal 0 ∷ codes "lrbg" ∷ decimal 5 ∷ [])))
    (codes "previous" ∷ codes "6" ∷ codes "distance" ∷ codes "2000" ∷ codes "dir" ∷ codes "1" ∷ codes "side" ∷ codes "1" ∷ codes "over" ∷ codes "100" ∷ codes "under" ∷ codes "100" ∷ [])
    (place_then Ends) (codes "136 stamp 1 engine 7 0 scale 0 lrbg 5 previous 6 distance 2000 dir 1 side 1 over 100 under 100") 11 (a.Name name.Distance) refl refl (
      (136, refl, sym word_136),
      (refl, ((1, omega arith, refl), (refl, ((7, omega arith, refl), ((0, omega arith, sym word_0), (refl, ((0, omega arith, refl), (refl, ((5, omega arith, refl), refl))))))))),
    )
    (inl (unlike (codes "previous") (codes "distance") refl, refl))

pub unknown_message : IsWrongAt (codes "recv 16 stamp 1 ack 0 lrbg 5 em 0") 1 a.Message
unknown_message =
    wrong_behind [] (codes "recv" ∷ codes "16" ∷ codes "stamp" ∷ codes "1" ∷ codes "ack" ∷ codes "0" ∷ codes "lrbg" ∷ codes "5" ∷ codes "em" ∷ codes "0" ∷ [])
    message (codes "recv 16 stamp 1 ack 0 lrbg 5 em 0") 1 a.Message refl refl refl (inl (no_number, refl))

pub two_spaces : IsWrongAt (codes "16 stamp 1 ack 0 lrbg 5  em 0") 8 (a.Name name.Em)
unfolding digits
two_spaces =
    wrong_behind (codes "16" ∷ head_words head_1) ([] ∷ codes "em" ∷ codes "0" ∷ []) (named name.Em 15 Ends) (codes "16 stamp 1 ack 0 lrbg 5  em 0") 8 (a.Name name.Em) refl refl
    ((16, refl, sym word_16), head_leads_on (named name.Em 15 Ends))
    (inl (unlike [] (codes "em") refl, refl))
