use Rattle.std.proofs.Common.{◌≡◌, ◌∙◌, ◌==◌, ◌∷◌, ap}
use Rattle.std.specs.List.{slice_split}
use Rattle.ertms_codec.specs.Words.{kind_to_train, words_to_train, kind_from_train, words_from_train}
use Rattle.ertms_codec.proofs.TextWords.{from_train_split}
use Rattle.ertms_codec.proofs.ToTrainTexts.{to_train_split, never_to_train, never_of_train}
use Rattle.ertms_codec.proofs.Encoded.{only_memory, encodes}
use Rattle.ertms_codec.proofs.WordsLeft.{handed_on}
use Rattle.ertms_codec.proofs.FirstWrongWord.{named, none_wrong, refused_with}
use Rattle.ertms_codec.proofs.encoder.encode.Goals as goal

pub returns-in_err-used-clause-to_train : goal.returns-in_err-used-clause-to_train
returns-in_err-used-clause-to_train c = λ m range text.
    let words : c.new.result.words ≡ kind_to_train m ∷ words_to_train m =
    rw c.new.ensures (ap (slice_split (λ byte. byte == 32)) text ∙ to_train_split m range) in
    handed_on c.from_residual.result _ _ c.from_residual.ensures.1
    (only_memory _ c.in_err-used.ensures.err (λ wrong first. never_to_train m _ wrong range (rw words at first)))

pub returns-in_err-used-clause-from_train : goal.returns-in_err-used-clause-from_train
returns-in_err-used-clause-from_train c = λ m range text.
    let words : c.new.result.words ≡ kind_from_train m ∷ words_from_train m =
    rw c.new.ensures (ap (slice_split (λ byte. byte == 32)) text ∙ from_train_split m range) in
    handed_on c.from_residual.result _ _ c.from_residual.ensures.1
    (only_memory _ c.in_err-used.ensures.err (λ wrong first. never_of_train m _ wrong range (rw words at first)))

pub returns-clause-encodes : goal.returns-clause-encodes
returns-clause-encodes c =
    rw c.in_ok-from_slice.ensures.items (encodes c.args.text.now _ (rw c.new.ensures at c.in_ok-used.ensures.ok))

pub returns-in_err-used-clause-wrong : goal.returns-in_err-used-clause-wrong
returns-in_err-used-clause-wrong c = λ wrong first.
    let words = slice_split (λ byte. byte == 32) c.args.text.now in
    refused_with words _ wrong c.from_residual.result c.from_residual.ensures.1
    (named words _ _ wrong (rw c.new.ensures at c.in_err-used.ensures.err) (rw c.new.ensures at c.in_err-used.ensures.memory) first)

pub returns-in_err-from_slice-clause-wrong : goal.returns-in_err-from_slice-clause-wrong
returns-in_err-from_slice-clause-wrong c = λ wrong first.
    absurd (none_wrong _ _ 1 wrong (rw c.new.ensures at c.in_ok-used.ensures.ok) first)

pub returns-clause-wrong : goal.returns-clause-wrong
returns-clause-wrong c = λ wrong first.
    absurd (none_wrong _ _ 1 wrong (rw c.new.ensures at c.in_ok-used.ensures.ok) first)
