use Rattle.std.proofs.Common.{◌≡◌, ◌∙◌, ap, ◌==◌, ◌∷◌}
use Rattle.std.specs.List.{slice_split}
use Rattle.ertms_codec.specs.Words.{kind_from_train, words_from_train}
use Rattle.ertms_codec.proofs.TextWords.{from_train_split, from_train_joined}
use Rattle.ertms_codec.proofs.SameWords.{read_again, about_both}
use Rattle.ertms_codec.proofs.Leads.{never_from_train}
use Rattle.ertms_codec.proofs.from_train_parser.parse_from_train.Goals as goal

pub returns-clause-found : goal.returns-clause-found
returns-clause-found c =
    about_both c.message.result (λ m range words. (range, from_train_joined m c.args.text.now (rw c.new.ensures at words)))
    c.message.ensures.range c.message.ensures.ok

pub returns-clause-only : goal.returns-clause-only
returns-clause-only c = λ m range text.
    let split : slice_split (λ byte. byte == 32) c.args.text.now ≡ kind_from_train m ∷ words_from_train m =
    ap (slice_split (λ byte. byte == 32)) text ∙ from_train_split m range in
    let words : c.new.result.words ≡ kind_from_train m ∷ words_from_train m = rw c.new.ensures split in
    read_again m _ c.message.result _ range words c.message.ensures.range c.message.ensures.ok c.message.ensures.err
    (λ wrong first. never_from_train m _ wrong range (rw words at first))
