-- Messages with the same words are the same.
use Rattle.std.proofs.Common.{◌≡◌, ◌≤◌, ◌<◌, ◌^◌, ℕ, List, [], ◌∷◌, get_or, drop, Option, Some, None, sym, refl, arith, ap, ◌∙◌, Result, Ok, Err}
use Rattle.std.specs.Prelude.{IfOk, IfErr}
use Rattle.std.specs.Prelude.{codes}
use Rattle.std.specs.Fmt.{decimal}
use Rattle.std.proofs.lemmas.Fmt.{decimal_injective}
use Rattle.ertms_codec.specs.declared.from_train.Position.{Position}
use Rattle.ertms_codec.specs.declared.from_train.FromTrain.{FromTrain}
use Rattle.ertms_codec.specs.declared.from_train.FromTrain.TheVariants.{Report, Ack, StopAck}
use Rattle.ertms_codec.specs.FromTrainWritten.{IsInRange, PositionIsInRange}
use Rattle.ertms_codec.specs.Words.{kind_from_train, words_from_train, position_words}

-- the numbers at a place of the same words
at : (words others : List (List ℕ)) (place m n most : ℕ) → words ≡ others → get_or words place [] ≡ decimal m → get_or others place [] ≡ decimal n → m ≤ most → n ≤ most → most < 2 ^ 64 → m ≡ n
at words others place m n most same first second low high small =
    decimal_injective m n (omega arith) (omega arith) (sym first ∙ ap (λ ws. get_or ws place []) same ∙ second)

two_kinds : (first second : List ℕ) (words others : List (List ℕ)) → (first ≡ second → ⊥) → (first ∷ words) ≡ (second ∷ others) → ⊥
two_kinds first second words others apart same = apart (ap (λ ws. get_or ws 0 []) same)

apart_136_146 : codes "136" ≡ codes "146" → ⊥
apart_136_146 is = omega (arith, ap (λ word. get_or word 1 0) is)

apart_136_147 : codes "136" ≡ codes "147" → ⊥
apart_136_147 is = omega (arith, ap (λ word. get_or word 1 0) is)

apart_146_147 : codes "146" ≡ codes "147" → ⊥
apart_146_147 is = omega (arith, ap (λ word. get_or word 2 0) is)

apart_0_1 : codes "0" ≡ codes "1" → ⊥
apart_0_1 is = omega (arith, ap (λ word. get_or word 0 0) is)

position_of : Option ℕ → (scale lrbg distance dir side over under : ℕ) → Position
position_of previous scale lrbg distance dir side over under =
    record { previous = previous; scale = scale; lrbg = lrbg; distance = distance; dir = dir; side = side; over = over; under = under }

same_by : (first second : Option ℕ) (scale lrbg distance dir side over under scale_2 lrbg_2 distance_2 dir_2 side_2 over_2 under_2 : ℕ) → PositionIsInRange (position_of first scale lrbg distance dir side over under) → PositionIsInRange (position_of second scale_2 lrbg_2 distance_2 dir_2 side_2 over_2 under_2) → position_words (position_of first scale lrbg distance dir side over under) ≡ position_words (position_of second scale_2 lrbg_2 distance_2 dir_2 side_2 over_2 under_2) → position_of first scale lrbg distance dir side over under ≡ position_of second scale_2 lrbg_2 distance_2 dir_2 side_2 over_2 under_2
unfolding position_of
same_by None None scale lrbg distance dir side over under scale_2 lrbg_2 distance_2 dir_2 side_2 over_2 under_2 p q same =
    let scales = at _ _ 2 scale scale_2 2 same refl refl p.fits.0 q.fits.0 (omega arith) in
    let groups = at _ _ 4 lrbg lrbg_2 16777215 same refl refl p.lrbg q.lrbg (omega arith) in
    let distances = at _ _ 6 distance distance_2 32767 same refl refl p.distance q.distance (omega arith) in
    let dirs = at _ _ 8 dir dir_2 2 same refl refl p.fits.1 q.fits.1 (omega arith) in
    let sides = at _ _ 10 side side_2 2 same refl refl p.fits.2 q.fits.2 (omega arith) in
    let overs = at _ _ 12 over over_2 32767 same refl refl p.over q.over (omega arith) in
    let unders = at _ _ 14 under under_2 32767 same refl refl p.under q.under (omega arith) in
    rw (scales, groups, distances, dirs, sides, overs, unders) refl
same_by (Some group) (Some group_2) scale lrbg distance dir side over under scale_2 lrbg_2 distance_2 dir_2 side_2 over_2 under_2 p q same =
    let scales = at _ _ 2 scale scale_2 2 same refl refl p.fits.0 q.fits.0 (omega arith) in
    let groups = at _ _ 4 lrbg lrbg_2 16777215 same refl refl p.lrbg q.lrbg (omega arith) in
    let before = at _ _ 6 group group_2 16777215 same refl refl p.previous q.previous (omega arith) in
    let distances = at _ _ 8 distance distance_2 32767 same refl refl p.distance q.distance (omega arith) in
    let dirs = at _ _ 10 dir dir_2 2 same refl refl p.fits.1 q.fits.1 (omega arith) in
    let sides = at _ _ 12 side side_2 2 same refl refl p.fits.2 q.fits.2 (omega arith) in
    let overs = at _ _ 14 over over_2 32767 same refl refl p.over q.over (omega arith) in
    let unders = at _ _ 16 under under_2 32767 same refl refl p.under q.under (omega arith) in
    rw (scales, groups, before, distances, dirs, sides, overs, unders) refl
same_by None (Some group_2) scale lrbg distance dir side over under scale_2 lrbg_2 distance_2 dir_2 side_2 over_2 under_2 p q same =
    absurd (two_kinds (codes "0") (codes "1") _ _ apart_0_1 same)
same_by (Some group) None scale lrbg distance dir side over under scale_2 lrbg_2 distance_2 dir_2 side_2 over_2 under_2 p q same =
    absurd (two_kinds (codes "1") (codes "0") _ _ (λ is. apart_0_1 (sym is)) same)

same_position : (p q : Position) → PositionIsInRange p → PositionIsInRange q → position_words p ≡ position_words q → p ≡ q
unfolding position_of
same_position p q first second same =
    same_by p.previous q.previous p.scale p.lrbg p.distance p.dir p.side p.over p.under q.scale q.lrbg q.distance q.dir q.side q.over q.under first second same

pub same_from_train : (m n : FromTrain) → IsInRange m → IsInRange n → (kind_from_train m ∷ words_from_train m) ≡ (kind_from_train n ∷ words_from_train n) → m ≡ n
same_from_train (Report stamp engine position) (Report stamp_2 engine_2 position_2) m n same =
    let stamps = at _ _ 2 stamp stamp_2 4294967295 same refl refl m.0 n.0 (omega arith) in
    let engines = at _ _ 4 engine engine_2 16777215 same refl refl m.1 n.1 (omega arith) in
    let positions = same_position position position_2 m.2 n.2 (ap (drop 5) same) in
    rw (stamps, engines, positions) refl
same_from_train (Ack stamp engine acked) (Ack stamp_2 engine_2 acked_2) m n same =
    let stamps = at _ _ 2 stamp stamp_2 4294967295 same refl refl m.0 n.0 (omega arith) in
    let engines = at _ _ 4 engine engine_2 16777215 same refl refl m.1 n.1 (omega arith) in
    let answered = at _ _ 6 acked acked_2 4294967295 same refl refl m.2 n.2 (omega arith) in
    rw (stamps, engines, answered) refl
same_from_train (StopAck stamp engine id answer position) (StopAck stamp_2 engine_2 id_2 answer_2 position_2) m n same =
    let stamps = at _ _ 2 stamp stamp_2 4294967295 same refl refl m.0 n.0 (omega arith) in
    let engines = at _ _ 4 engine engine_2 16777215 same refl refl m.1 n.1 (omega arith) in
    let ids = at _ _ 6 id id_2 15 same refl refl m.2 n.2 (omega arith) in
    let answers = at _ _ 8 answer answer_2 3 same refl refl m.3 n.3 (omega arith) in
    let positions = same_position position position_2 m.4 n.4 (ap (drop 9) same) in
    rw (stamps, engines, ids, answers, positions) refl
same_from_train (Report stamp engine position) (Ack stamp_2 engine_2 acked_2) m n same = absurd (two_kinds (codes "136") (codes "146") _ _ apart_136_146 same)
same_from_train (Report stamp engine position) (StopAck stamp_2 engine_2 id_2 answer_2 position_2) m n same = absurd (two_kinds (codes "136") (codes "147") _ _ apart_136_147 same)
same_from_train (Ack stamp engine acked) (Report stamp_2 engine_2 position_2) m n same = absurd (two_kinds (codes "146") (codes "136") _ _ (λ is. apart_136_146 (sym is)) same)
same_from_train (Ack stamp engine acked) (StopAck stamp_2 engine_2 id_2 answer_2 position_2) m n same = absurd (two_kinds (codes "146") (codes "147") _ _ apart_146_147 same)
same_from_train (StopAck stamp engine id answer position) (Report stamp_2 engine_2 position_2) m n same = absurd (two_kinds (codes "147") (codes "136") _ _ (λ is. apart_136_147 (sym is)) same)
same_from_train (StopAck stamp engine id answer position) (Ack stamp_2 engine_2 acked_2) m n same = absurd (two_kinds (codes "147") (codes "146") _ _ (λ is. apart_146_147 (sym is)) same)

-- what is read of the text of a message is that message
pub read_again : {E : Type 0} (m : FromTrain) (words : List (List ℕ)) (result : Result FromTrain E) (Wrong : E → Type 0) → IsInRange m → words ≡ kind_from_train m ∷ words_from_train m → IfOk result IsInRange → IfOk result (λ n. words ≡ kind_from_train n ∷ words_from_train n) → IfErr result Wrong → ((e : E) → Wrong e → ⊥) → result ≡ Ok m
read_again m words (Ok n) Wrong range is fits read fault never = ap Ok (same_from_train n m fits range (sym read ∙ is))
read_again m words (Err e) Wrong range is fits read fault never = absurd (never e fault)

-- two facts of what is read, as one
pub about_both : {A E : Type 0} {P Q R : A → Type 0} (result : Result A E) → ((value : A) → P value → Q value → R value) → IfOk result P → IfOk result Q → IfOk result R
about_both (Ok value) then first second = then value first second
about_both (Err e) then first second = tt
