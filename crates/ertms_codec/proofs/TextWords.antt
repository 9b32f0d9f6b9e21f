-- The text of a message as words with a space between them.
use Rattle.std.proofs.Common.{◌≡◌, ◌≤◌, ◌<◌, ◌^◌, ◌+◌, ◌%◌, ℕ, List, [], ◌∷◌, ◌++◌, Bool, true, false, not, ◌==◌, Option, Some, None, sym, refl, arith, ap, ◌∙◌, append_assoc}
use Rattle.std.specs.Prelude.{codes}
use Rattle.std.specs.List.{slice_split, join_with_byte, list_all, All}
use Rattle.std.specs.Fmt.{decimal}
use Rattle.std.proofs.lemmas.Fmt.{decimal_by_steps}
use Rattle.std.proofs.lemmas.Bool.Decides.{nat_tests}
use Rattle.std.proofs.lemmas.List.Sums.{AllPass-from_list_all}
use Rattle.std.proofs.lemmas.List.Folds.{list_all-append}
use Rattle.std.proofs.lemmas.List.Splits.{slice_split_at, slice_split_none, join_with_byte-slice_split}
use Rattle.ertms_codec.specs.declared.from_train.Position.{Position}
use Rattle.ertms_codec.specs.declared.from_train.FromTrain.{FromTrain}
use Rattle.ertms_codec.specs.declared.from_train.FromTrain.TheVariants.{Report, Ack, StopAck}
use Rattle.ertms_codec.specs.FromTrainWritten.{IsInRange, PositionIsInRange, IsNumberOfGroup}
use Rattle.ertms_codec.specs.Texts.{text_from_train, position_text}
use Rattle.ertms_codec.specs.Words.{kind_from_train, words_from_train, position_words, place_words, previous_words, packet_word, train_words}

-- no byte of a word is a space
abbrev pub has_no_space : List ℕ → Bool
has_no_space word = list_all (λ byte. not (byte == 32)) word

abbrev IsWord : List ℕ → Type 0
IsWord word = All (λ byte. (byte == 32) ≡ false) word

is_false : (b : Bool) → not b ≡ true → b ≡ false
is_false true is = sym is
is_false false is = refl

is_word : (word : List ℕ) → has_no_space word ≡ true → IsWord word
is_word word is = λ k d within. is_false _ (AllPass-from_list_all (λ byte. not (byte == 32)) word is k d within)

abbrev pub AreWords : List (List ℕ) → Type 0
AreWords [] = Unit {0}
AreWords (word ∷ words) = (has_no_space word ≡ true) × AreWords words

-- the words of their text are these
pub split_is : (word : List ℕ) (words : List (List ℕ)) → AreWords (word ∷ words) → slice_split (λ byte. byte == 32) (join_with_byte 32 (word ∷ words)) ≡ word ∷ words
split_is word [] are = slice_split_none (λ byte. byte == 32) word (is_word word are.0)
split_is word (next ∷ words) are =
    slice_split_at (λ byte. byte == 32) word 32 (join_with_byte 32 (next ∷ words)) (is_word word are.0) refl ∙ ap (λ (rest : List (List ℕ)). word ∷ rest) (split_is next words are.1)

-- a number has no space
digit_is_no_space : (digit : ℕ) → digit < 10 → not (48 + digit == 32) ≡ true
digit_is_no_space digit small = grind (arith, nat_tests)

one_more_digit : (n : ℕ) (digits : List ℕ) → 10 ≤ n → has_no_space digits ≡ true → has_no_space (digits ++ (48 + n % 10) ∷ []) ≡ true
one_more_digit n digits large is =
    let last : not (48 + n % 10 == 32) ≡ true = digit_is_no_space (n % 10) (omega arith) in
    rw (list_all-append, is, last) refl

pub decimal_is_word : (number : ℕ) → number < 2 ^ 64 → has_no_space (decimal number) ≡ true
decimal_is_word = decimal_by_steps (λ n digits. has_no_space digits ≡ true) (λ n small. rw (digit_is_no_space n small) refl) one_more_digit

pub AreWords-append : (xs ys : List (List ℕ)) → AreWords xs → AreWords ys → AreWords (xs ++ ys)
AreWords-append [] ys first second = second
AreWords-append (x ∷ xs) ys first second = (first.0, AreWords-append xs ys first.1 second)

-- the words of a position
packet_is_word : (previous : Option ℕ) → has_no_space (packet_word previous) ≡ true
packet_is_word None = refl
packet_is_word (Some previous) = refl

previous_are_words : (previous : Option ℕ) → IsNumberOfGroup previous → AreWords (previous_words previous)
previous_are_words None range = tt
previous_are_words (Some previous) range = (refl, (decimal_is_word previous (omega (arith, range)), tt))

position_are_words : (p : Position) → PositionIsInRange p → AreWords (position_words p)
position_are_words p range =
    let scale = decimal_is_word p.scale (omega (arith, range.fits.0)) in
    let lrbg = decimal_is_word p.lrbg (omega (arith, range.lrbg)) in
    let distance = decimal_is_word p.distance (omega (arith, range.distance)) in
    let dir = decimal_is_word p.dir (omega (arith, range.fits.1)) in
    let side = decimal_is_word p.side (omega (arith, range.fits.2)) in
    let over = decimal_is_word p.over (omega (arith, range.over)) in
    let under = decimal_is_word p.under (omega (arith, range.under)) in
    AreWords-append (packet_word p.previous ∷ codes "scale" ∷ decimal p.scale ∷ codes "lrbg" ∷ decimal p.lrbg ∷ []) (previous_words p.previous ++ place_words p)
    (packet_is_word p.previous, (refl, (scale, (refl, (lrbg, tt)))))
    (AreWords-append (previous_words p.previous) (place_words p) (previous_are_words p.previous range.previous)
    (refl, (distance, (refl, (dir, (refl, (side, (refl, (over, (refl, (under, tt)))))))))))

train_are_words : (stamp engine : ℕ) → stamp ≤ 4294967295 → engine ≤ 16777215 → AreWords (train_words stamp engine)
train_are_words stamp engine first second =
    (refl, (decimal_is_word stamp (omega (arith, first)), (refl, (decimal_is_word engine (omega (arith, second)), tt))))

-- the words of a message from a train
pub from_train_are_words : (m : FromTrain) → IsInRange m → AreWords (kind_from_train m ∷ words_from_train m)
from_train_are_words (Report stamp engine position) range =
    (refl, AreWords-append (train_words stamp engine) (position_words position) (train_are_words stamp engine range.0 range.1) (position_are_words position range.2))
from_train_are_words (Ack stamp engine acked) range =
    (refl, AreWords-append (train_words stamp engine) (codes "acked" ∷ decimal acked ∷ []) (train_are_words stamp engine range.0 range.1) (refl, (decimal_is_word acked (omega (arith, range.2)), tt)))
from_train_are_words (StopAck stamp engine id answer position) range =
    let named : AreWords (codes "em" ∷ decimal id ∷ codes "answer" ∷ decimal answer ∷ []) =
    (refl, (decimal_is_word id (omega (arith, range.2)), (refl, (decimal_is_word answer (omega (arith, range.3)), tt)))) in (
      refl,
      AreWords-append (train_words stamp engine) ((codes "em" ∷ decimal id ∷ codes "answer" ∷ decimal answer ∷ []) ++ position_words position) (train_are_words stamp engine range.0 range.1)
          (AreWords-append (codes "em" ∷ decimal id ∷ codes "answer" ∷ decimal answer ∷ []) (position_words position) named (position_are_words position range.4)),
    )

-- the text of a position is its words, with a space between two of them
position_of : Option ℕ → (scale lrbg distance dir side over under : ℕ) → Position
position_of previous scale lrbg distance dir side over under =
    record { previous = previous; scale = scale; lrbg = lrbg; distance = distance; dir = dir; side = side; over = over; under = under }

position_text_by : (previous : Option ℕ) (scale lrbg distance dir side over under : ℕ) → position_text (position_of previous scale lrbg distance dir side over under) ≡ join_with_byte 32 (position_words (position_of previous scale lrbg distance dir side over under))
unfolding position_of
position_text_by None scale lrbg distance dir side over under = simp append_assoc refl
position_text_by (Some previous) scale lrbg distance dir side over under = simp append_assoc refl

position_text_is : (p : Position) → position_text p ≡ join_with_byte 32 (position_words p)
unfolding position_of
position_text_is p = position_text_by p.previous p.scale p.lrbg p.distance p.dir p.side p.over p.under

-- and so is the text of a message
pub from_train_text : (m : FromTrain) → text_from_train m ≡ join_with_byte 32 (kind_from_train m ∷ words_from_train m)
from_train_text (Report stamp engine position) =
    ap (λ (text : List ℕ). codes "136 stamp " ++ (decimal stamp ++ (codes " engine " ++ (decimal engine ++ (codes " " ++ text))))) (position_text_is position)
from_train_text (Ack stamp engine acked) = refl
from_train_text (StopAck stamp engine id answer position) =
    ap (λ (text : List ℕ). codes "147 stamp " ++ (decimal stamp ++ (codes " engine " ++ (decimal engine ++ (codes " em " ++ (decimal id ++ (codes " answer " ++ (decimal answer ++ (codes " " ++ text))))))))) (position_text_is position)

-- so the words of the text are those of the message, and the text of these words is that of the message
pub from_train_split : (m : FromTrain) → IsInRange m → slice_split (λ byte. byte == 32) (text_from_train m) ≡ kind_from_train m ∷ words_from_train m
from_train_split m range =
    ap (slice_split (λ byte. byte == 32)) (from_train_text m) ∙ split_is (kind_from_train m) (words_from_train m) (from_train_are_words m range)

pub from_train_joined : (m : FromTrain) (text : List ℕ) → slice_split (λ byte. byte == 32) text ≡ kind_from_train m ∷ words_from_train m → text ≡ text_from_train m
from_train_joined m text split =
    sym (join_with_byte-slice_split 32 text) ∙ ap (join_with_byte 32) split ∙ sym (from_train_text m)
