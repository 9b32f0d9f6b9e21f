-- Messages to a train with the same text are the same.
use Rattle.std.proofs.Common.{◌≡◌, ◌∙◌, ◌≤◌, ◌<◌, ◌^◌, ℕ, ℤ, pos, negsuc, w16, FitsSigned, List, [], ◌∷◌, ◌++◌, length, get_or, drop, Bool, true, false, refl, sym, ap, arith}
use Rattle.std.specs.Prelude.{codes}
use Rattle.std.specs.Fmt.{decimal, signed_decimal}
use Rattle.std.specs.Int.Signed.{mag}
use Rattle.std.specs.List.{flat_map, AllByRecursion as All}
use Rattle.std.specs.Str.{bytes_eq}
use Rattle.std.proofs.lemmas.Fmt.{decimal_injective, signed_decimal_injective}
use Rattle.ertms_codec.specs.declared.to_train.Head.{Head}
use Rattle.ertms_codec.specs.declared.to_train.ToTrain.{ToTrain}
use Rattle.ertms_codec.specs.declared.to_train.ToTrain.TheVariants.{StopAt, Stop, Revoke, General}
use Rattle.ertms_codec.specs.declared.packets.Part.{Part}
use Rattle.ertms_codec.specs.declared.packets.Part.TheVariants.{Restrict, Lift}
use Rattle.ertms_codec.specs.Encoding.{IsInRangeToTrain}
use Rattle.ertms_codec.specs.Layout.{Field, HoldValues}
use Rattle.ertms_codec.specs.PacketsToTrain.{PacketFits, fields_of_packet}
use Rattle.ertms_codec.specs.Texts.{flag_text}
use Rattle.ertms_codec.specs.Words.{head_words, packet_words, kind_to_train, words_to_train}
use Rattle.ertms_codec.proofs.NumberWords.{bytes_eq-same, false_is_not_true}

-- words that differ
pub unlike : (word other : List ℕ) → bytes_eq word other ≡ false → word ≡ other → ⊥
unlike word other apart is = false_is_not_true (sym apart ∙ bytes_eq-same word other is)

-- the numbers at a place of the same words
at : (words others : List (List ℕ)) (place m n most : ℕ) → words ≡ others → get_or words place [] ≡ decimal m → get_or others place [] ≡ decimal n → m ≤ most → n ≤ most → most < 2 ^ 64 → m ≡ n
at words others place m n most same first second low high small =
    decimal_injective m n (omega arith) (omega arith) (sym first ∙ ap (λ ws. get_or ws place []) same ∙ second)

-- and the flags
one_is_not_zero : decimal 1 ≡ decimal 0 → ⊥
one_is_not_zero is = let same = decimal_injective 1 0 (omega arith) (omega arith) is in omega (arith, same)

same_flag : (a b : Bool) → flag_text a ≡ flag_text b → a ≡ b
same_flag true true is = refl
same_flag false false is = refl
same_flag true false is = absurd (one_is_not_zero is)
same_flag false true is = absurd (one_is_not_zero (sym is))

flag_at : (words others : List (List ℕ)) (place : ℕ) (a b : Bool) → words ≡ others → get_or words place [] ≡ flag_text a → get_or others place [] ≡ flag_text b → a ≡ b
flag_at words others place a b same first second = same_flag a b (sym first ∙ ap (λ ws. get_or ws place []) same ∙ second)

-- and D_REF
mag_is_small : (number : ℤ) → FitsSigned w16 number → mag number < 2 ^ 63
mag_is_small (pos n) fits = omega (arith, fits)
mag_is_small (negsuc n) fits = omega (arith, fits)

reference_at : (words others : List (List ℕ)) (place : ℕ) (y z : ℤ) → words ≡ others → get_or words place [] ≡ signed_decimal y → get_or others place [] ≡ signed_decimal z → FitsSigned w16 y → FitsSigned w16 z → y ≡ z
reference_at words others place y z same first second low high =
    signed_decimal_injective y z (mag_is_small y low) (mag_is_small z high) (sym first ∙ ap (λ ws. get_or ws place []) same ∙ second)

-- the first words of the same words
two_kinds : (first second : List ℕ) (words others : List (List ℕ)) → bytes_eq first second ≡ false → (first ∷ words) ≡ (second ∷ others) → ⊥
two_kinds first second words others apart same = unlike first second apart (ap (λ ws. get_or ws 0 []) same)

-- what begins a message
head_by : (stamp : ℕ) (ack : Bool) (lrbg stamp_2 : ℕ) (ack_2 : Bool) (lrbg_2 : ℕ) → stamp ≡ stamp_2 → ack ≡ ack_2 → lrbg ≡ lrbg_2 → (let first : Head = record { stamp = stamp; ack = ack; lrbg = lrbg } in first) ≡ record { stamp = stamp_2; ack = ack_2; lrbg = lrbg_2 }
head_by stamp ack lrbg stamp_2 ack_2 lrbg_2 stamps acks groups = rw (stamps, acks, groups) refl

same_head : (head other : Head) (kind kind_2 : List ℕ) (body body_2 : List (List ℕ)) → head.stamp < 2 ^ 32 → other.stamp < 2 ^ 32 → head.lrbg ≤ 16777215 → other.lrbg ≤ 16777215 → (kind ∷ (head_words head ++ body)) ≡ (kind_2 ∷ (head_words other ++ body_2)) → head ≡ other
same_head head other kind kind_2 body body_2 early early_2 known known_2 same =
    head_by head.stamp head.ack head.lrbg other.stamp other.ack other.lrbg
    (at _ _ 2 head.stamp other.stamp 4294967295 same refl refl (omega arith) (omega arith) (omega arith))
    (flag_at _ _ 4 head.ack other.ack same refl refl)
    (at _ _ 6 head.lrbg other.lrbg 16777215 same refl refl known known_2 (omega arith))

-- the first packet of the same words, and the words behind it
record SameFirst (part other : Part) (words others : List (List ℕ)) : Type 0 where
  parts : part ≡ other
  rest : words ≡ others

same_first : (part other : Part) (words others : List (List ℕ)) → PacketFits part → PacketFits other → HoldValues (fields_of_packet part) → HoldValues (fields_of_packet other) → packet_words part ++ words ≡ packet_words other ++ others → SameFirst part other words others
same_first (Restrict dir scale id start length front speed) (Restrict dir_2 scale_2 id_2 start_2 length_2 front_2 speed_2) words others fits fits_2 holds holds_2 same =
    let small = holds.1.1.1.1.0 in
    let small_2 = holds_2.1.1.1.1.0 in
    let dirs = at _ _ 2 dir dir_2 2 same refl refl fits.0 fits_2.0 (omega arith) in
    let scales = at _ _ 4 scale scale_2 2 same refl refl fits.1 fits_2.1 (omega arith) in
    let ids = at _ _ 6 id id_2 255 same refl refl (omega (arith, small)) (omega (arith, small_2)) (omega arith) in
    let starts = at _ _ 8 start start_2 32767 same refl refl fits.2 fits_2.2 (omega arith) in
    let lengths = at _ _ 10 length length_2 32767 same refl refl fits.3 fits_2.3 (omega arith) in
    let fronts = flag_at _ _ 12 front front_2 same refl refl in
    let speeds = at _ _ 14 speed speed_2 120 same refl refl fits.4 fits_2.4 (omega arith) in
    record { parts = rw (dirs, scales, ids, starts, lengths, fronts, speeds) refl; rest = ap (drop 15) same }
same_first (Lift dir id) (Lift dir_2 id_2) words others fits fits_2 holds holds_2 same =
    let small = holds.1.1.1.0 in
    let small_2 = holds_2.1.1.1.0 in
    let dirs = at _ _ 2 dir dir_2 2 same refl refl fits fits_2 (omega arith) in
    let ids = at _ _ 4 id id_2 255 same refl refl (omega (arith, small)) (omega (arith, small_2)) (omega arith) in
    record { parts = rw (dirs, ids) refl; rest = ap (drop 5) same }
same_first (Restrict dir scale id start length front speed) (Lift dir_2 id_2) words others fits fits_2 holds holds_2 same =
    absurd (two_kinds (codes "65") (codes "66") _ _ refl same)
same_first (Lift dir id) (Restrict dir_2 scale_2 id_2 start_2 length_2 front_2 speed_2) words others fits fits_2 holds holds_2 same =
    absurd (two_kinds (codes "66") (codes "65") _ _ refl same)

-- fields in two parts
holds-front : (xs ys : List Field) → HoldValues (xs ++ ys) → HoldValues xs
holds-front [] ys holds = tt
holds-front (x ∷ xs) ys holds = (holds.0, holds-front xs ys holds.1)

holds-back : (xs ys : List Field) → HoldValues (xs ++ ys) → HoldValues ys
holds-back [] ys holds = holds
holds-back (x ∷ xs) ys holds = holds-back xs ys holds.1

same_packets : (parts others : List Part) → All PacketFits parts → All PacketFits others → HoldValues (flat_map fields_of_packet parts) → HoldValues (flat_map fields_of_packet others) → flat_map packet_words parts ≡ flat_map packet_words others → parts ≡ others
same_packets [] [] fit fit_2 holds holds_2 same = refl
same_packets [] (other ∷ others) fit fit_2 holds holds_2 same = let counts = ap length same in absurd (omega (arith, counts))
same_packets (part ∷ parts) [] fit fit_2 holds holds_2 same = let counts = ap length same in absurd (omega (arith, counts))
same_packets (part ∷ parts) (other ∷ others) fit fit_2 holds holds_2 same =
    let fields = flat_map fields_of_packet parts in
    let fields_2 = flat_map fields_of_packet others in
    let first = same_first part other (flat_map packet_words parts) (flat_map packet_words others) fit.0 fit_2.0 (holds-front (fields_of_packet part) fields holds) (holds-front (fields_of_packet other) fields_2 holds_2) same in
    let rest = same_packets parts others fit.1 fit_2.1 (holds-back (fields_of_packet part) fields holds) (holds-back (fields_of_packet other) fields_2 holds_2) first.rest in
    let parts_are : part ≡ other = first.parts in
    rw (parts_are, rest) refl

-- messages with the same words are the same
pub same_to_train : (m n : ToTrain) → IsInRangeToTrain m → IsInRangeToTrain n → (kind_to_train m ∷ words_to_train m) ≡ (kind_to_train n ∷ words_to_train n) → m ≡ n
same_to_train (StopAt head id scale reference dir distance) (StopAt head_2 id_2 scale_2 reference_2 dir_2 distance_2) m n same =
    let heads = same_head head head_2 _ _ _ _ m.holds.1.1.0 n.holds.1.1.0 m.fits.lrbg n.fits.lrbg same in
    let body = m.fits.body in
    let body_2 = n.fits.body in
    let ids = at _ _ 8 id id_2 15 same refl refl body.0 body_2.0 (omega arith) in
    let scales = at _ _ 10 scale scale_2 2 same refl refl body.1 body_2.1 (omega arith) in
    let references = reference_at _ _ 12 reference reference_2 same refl refl m.reference n.reference in
    let dirs = at _ _ 14 dir dir_2 2 same refl refl body.2 body_2.2 (omega arith) in
    let distances = at _ _ 16 distance distance_2 32767 same refl refl body.3 body_2.3 (omega arith) in
    rw (heads, ids, scales, references, dirs, distances) refl
same_to_train (Stop head id) (Stop head_2 id_2) m n same =
    let heads = same_head head head_2 _ _ _ _ m.holds.1.1.0 n.holds.1.1.0 m.fits.lrbg n.fits.lrbg same in
    let ids = at _ _ 8 id id_2 15 same refl refl m.fits.body n.fits.body (omega arith) in
    rw (heads, ids) refl
same_to_train (Revoke head id) (Revoke head_2 id_2) m n same =
    let heads = same_head head head_2 _ _ _ _ m.holds.1.1.0 n.holds.1.1.0 m.fits.lrbg n.fits.lrbg same in
    let ids = at _ _ 8 id id_2 15 same refl refl m.fits.body n.fits.body (omega arith) in
    rw (heads, ids) refl
same_to_train (General head packets) (General head_2 packets_2) m n same =
    let heads = same_head head head_2 _ _ _ _ m.holds.1.1.0 n.holds.1.1.0 m.fits.lrbg n.fits.lrbg same in
    let parts = same_packets packets packets_2 m.fits.body.each n.fits.body.each m.holds.1.1.1.1.1 n.holds.1.1.1.1.1 (ap (drop 7) same) in
    rw (heads, parts) refl
same_to_train (StopAt head id scale reference dir distance) (Stop head_2 id_2) m n same = absurd (two_kinds (codes "15") (codes "16") _ _ refl same)
same_to_train (StopAt head id scale reference dir distance) (Revoke head_2 id_2) m n same = absurd (two_kinds (codes "15") (codes "18") _ _ refl same)
same_to_train (StopAt head id scale reference dir distance) (General head_2 packets_2) m n same = absurd (two_kinds (codes "15") (codes "24") _ _ refl same)
same_to_train (Stop head id) (StopAt head_2 id_2 scale_2 reference_2 dir_2 distance_2) m n same = absurd (two_kinds (codes "16") (codes "15") _ _ refl same)
same_to_train (Stop head id) (Revoke head_2 id_2) m n same = absurd (two_kinds (codes "16") (codes "18") _ _ refl same)
same_to_train (Stop head id) (General head_2 packets_2) m n same = absurd (two_kinds (codes "16") (codes "24") _ _ refl same)
same_to_train (Revoke head id) (StopAt head_2 id_2 scale_2 reference_2 dir_2 distance_2) m n same = absurd (two_kinds (codes "18") (codes "15") _ _ refl same)
same_to_train (Revoke head id) (Stop head_2 id_2) m n same = absurd (two_kinds (codes "18") (codes "16") _ _ refl same)
same_to_train (Revoke head id) (General head_2 packets_2) m n same = absurd (two_kinds (codes "18") (codes "24") _ _ refl same)
same_to_train (General head packets) (StopAt head_2 id_2 scale_2 reference_2 dir_2 distance_2) m n same = absurd (two_kinds (codes "24") (codes "15") _ _ refl same)
same_to_train (General head packets) (Stop head_2 id_2) m n same = absurd (two_kinds (codes "24") (codes "16") _ _ refl same)
same_to_train (General head packets) (Revoke head_2 id_2) m n same = absurd (two_kinds (codes "24") (codes "18") _ _ refl same)
