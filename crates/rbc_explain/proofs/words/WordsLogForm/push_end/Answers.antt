use Rattle.std.proofs.Common.{rules, ◌≡◌}
use Rattle.rbc_explain.specs.Sentences.{sums_text}
use Rattle.rbc_explain.proofs.InWords.{end_pushed_if}
use Rattle.rbc_explain.proofs.words.WordsLogForm.push_end.Goals as goal

pub returns : goal.returns
returns c =
    let sums = c.args.account.now.sums in
    let same : c.as_bytes.result.now ≡ sums_text sums = search rules in
    end_pushed_if c.push_words-2.result sums c.as_bytes.result.now c.as_bytes-2.result.now c.args.log.now.items c.push_gap.new.log.items c.push_words.new.log.items c.push_words-2.new.log.items same
    c.in_ok-push_gap.ensures c.in_ok-push_words.ensures c.push_words-2.ensures
