use Rattle.std.proofs.Common.{◌∙◌, List, map, subst, string_bytes}
use Rattle.rbc_live.specs.declared.waiting.Waiting.{Waiting}
use Rattle.rbc_picture.specs.Shown.{IsShownOn}
use Rattle.rbc_picture.specs.Titles.{train_title, waiting_sentence}
use Rattle.rbc_picture.proofs.Joining.{train_joined, of_text}
use Rattle.rbc_picture.proofs.train_texts.push_train.Goals as goal

pub returns : goal.returns
returns c =
    let train = c.args.train.now in
    let title = c.as_str.ensures.value ∙ c.in_ok-title.ensures in
    train_joined c.push_piece-2.result (train_title train.engine train.place)
    (map (λ (one : Waiting). waiting_sentence one.what) train.waiting.items) (string_bytes c.args.document.now)
    (string_bytes c.push_text.new.document) (string_bytes c.push_piece.new.document) (string_bytes c.push_waiting.new.document)
    (string_bytes c.push_piece-2.new.document)
    (of_text c.as_str.result.now _ (string_bytes c.args.document.now) (string_bytes c.push_text.new.document) title
    c.in_ok-push_text.ensures) c.in_ok-push_piece.ensures
    (subst (λ (all : List Waiting). IsShownOn (map (λ (one : Waiting). waiting_sentence one.what) all) (string_bytes c.push_piece.new.document)
    (string_bytes c.push_waiting.new.document)) c.deref.ensures.value c.in_ok-push_waiting.ensures) c.push_piece-2.ensures
