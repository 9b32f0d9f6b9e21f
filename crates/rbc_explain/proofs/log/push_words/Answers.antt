use Rattle.rbc_explain.proofs.Marking.{plain_said}
use Rattle.rbc_explain.proofs.log.push_words.Goals as goal

pub returns-then-is_plain : goal.returns-then-is_plain
returns-then-is_plain c =
    plain_said _ _ c.extend_from_slice.result c.args.words.now c.args.log.now.items c.extend_from_slice.new.self.items (c.is_plain.ensures c.if-is_plain.true) c.extend_from_slice.ensures.items
