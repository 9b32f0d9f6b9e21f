use Rattle.std.proofs.Common.{rules, ◌≤◌, length, List, ap, sym, ◌∙◌}
use Rattle.std.specs.Prelude.{slice_get}
use Rattle.rbc_text.specs.BatchText.{lines_of}
use Rattle.rbc_account.specs.declared.told.Told.{Told}
use Rattle.rbc_explain.proofs.Lines.{first_is_line}
use Rattle.rbc_explain.proofs.Told.{all_begins, all_next, all_ends, rest_is_left}
use Rattle.rbc_explain.proofs.input_block.push_answer.Goals as goal

-- the first line, and words
pub loop-index-init : goal.loop-index-init
loop-index-init c =
    let b = c.args.block.now in
    let line = c.first_line.result.0.now in
    let behind = c.first_line.result.1.now in
    let words = c.in_ok-push_words.ensures in
    all_begins c.args.of.track.now b.number b.reply b.messages b.told.items c.args.answer.now line behind c.args.log.now.items c.push_line.new.log.items c.push_words.new.log.items c.requires.answer
    c.first_line.ensures.line (c.in_ok-push_line.ensures (first_is_line c.args.answer.now line (lines_of behind) c.first_line.ensures.line)) (words.0, words.1, words.2)

-- a line is left for the message
pub first_line-requires-in-loop-index : goal.first_line-requires-in-loop-index
first_line-requires-in-loop-index c =
    let b = c.args.block.now in
    rest_is_left c.args.of.track.now b.number b.reply b.messages b.told.items c.loop-index.index c.at.result.now c.loop-index.rest.now c.args.log.now.items c.loop-index.log.items c.at.ensures
    c.loop-index.invariant

-- one message more
pub loop-index-preserved : goal.loop-index-preserved
loop-index-preserved c =
    let b = c.args.block.now in
    let line = c.first_line-in-loop-index.result.0.now in
    let behind = c.first_line-in-loop-index.result.1.now in
    let first = c.first_line-in-loop-index.ensures.line in
    let told = sym (ap (λ (all : List Told). slice_get all c.loop-index.index) c.deref.ensures.value) ∙ c.told_of-told.ensures in
    all_next c.args.of.track.now b.number b.reply b.messages b.told.items c.loop-index.index c.at.result.now c.told_of-told.result.now c.loop-index.rest.now line behind c.args.log.now.items
    c.loop-index.log.items c.push_message.new.log.items c.push_line-in-loop-index.new.log.items c.at.ensures told c.loop-index.invariant c.in_ok-push_message.ensures first
    (c.in_ok-push_line-2.ensures (first_is_line c.loop-index.rest.now line (lines_of behind) first))

-- each of them
pub returns : goal.returns
returns c =
    let b = c.args.block.now in
    let past : length b.messages ≤ c.loop-index.index = search rules in
    all_ends c.args.of.track.now b.number b.reply b.messages b.told.items c.loop-index.index c.loop-index.rest.now c.args.log.now.items c.loop-index.log.items past c.requires.paired
    c.loop-index.invariant
