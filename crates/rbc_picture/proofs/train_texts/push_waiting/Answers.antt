use Rattle.std.proofs.Common.{◌∙◌, get_or, string_bytes}
use Rattle.rbc_live.specs.declared.waiting.Waiting.{Waiting}
use Rattle.rbc_picture.specs.Titles.{waiting_sentence}
use Rattle.rbc_picture.proofs.Joining.{is_next, more_text, of_text}
use Rattle.rbc_picture.proofs.train_texts.push_waiting.Goals as goal

pub loop-one-preserved : goal.loop-one-preserved
loop-one-preserved c =
    let sentence = c.as_str.ensures.value ∙ c.in_ok-waiting_sentence.ensures in
    more_text (λ (one : Waiting). waiting_sentence one.what) c.args.waiting.now c.loop-one.one-index (get_or c.args.waiting.now c.loop-one.one-index _)
    (string_bytes c.args.document.now) (string_bytes c.loop-one.document) (string_bytes c.push_text.new.document)
    (is_next c.args.waiting.now c.loop-one.one-index _ c.loop-one-test.true) c.loop-one.invariant
    (of_text c.as_str.result.now _ (string_bytes c.loop-one.document) (string_bytes c.push_text.new.document) sentence
    c.in_ok-push_text.ensures)
