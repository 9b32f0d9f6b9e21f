use Rattle.std.proofs.Common.{◌≡◌, ℕ, List, [], ◌∷◌, ◌++◌, Some, ap, arith, length, subst, sym, take, ◌∙◌}
use Rattle.std.specs.Prelude.{slice_get}
use Rattle.std.proofs.lemmas.Result.{IfOk-weaker}
use Rattle.rbc_account.specs.declared.told.Told.{Told}
use Rattle.rbc_json.specs.Messages.{AreOfMessages, IsOfSent}
use Rattle.rbc_json.proofs.Together.{together_more, together_all}
use Rattle.rbc_json.proofs.input_object.messages_text.Goals as goal

pub loop-index-preserved : goal.loop-index-preserved
loop-index-preserved c =
    let block = c.args.block.now in
    let before = c.loop-index.invariant in
    let message = c.in_ok-message.ensures in
    let told = sym (ap (λ (all : List Told). slice_get all c.loop-index.index) c.deref.ensures.value) ∙ c.told_of-told.ensures in (
      before.0 ++ message.0 ∷ [],
      c.in_ok-add.ensures before.0 message.0 before.1 (ap (λ (text : List ℕ). Some text) message.2),
      together_more (IsOfSent c.args.track.now block.number) block.messages block.told.items before.0 c.loop-index.index c.at-sent.result.now c.told_of-told.result.now message.0 c.at-sent.ensures told before.2
          message.1,
    )

pub returns : goal.returns
returns c =
    let block = c.args.block.now in
    let all = c.loop-index.invariant in
    let low = c.loop-index-test.false in
    let high = c.loop-index.auto.index-end in
    let count = c.len-index-end.ensures in
    let end : c.loop-index.index ≡ length block.messages = omega (arith, low, high, count) in
    let whole = subst (λ (n : ℕ). AreOfMessages c.args.track.now block.number (take n block.messages) (take n block.told.items) all.0) end all.2 in
    IfOk-weaker c.ended.result _ _
    (λ text is. (all.0, together_all (IsOfSent c.args.track.now block.number) block.messages block.told.items all.0 c.requires.paired whole, is))
    (c.ended.ensures all.0 all.1)
