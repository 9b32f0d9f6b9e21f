use Rattle.rbc_text.proofs.words.segment.Goals as goal

pub returns : goal.returns
returns c = rw (c.segment_from.ensures, c.decimal.ensures, c.decimal-2.ensures, c.decimal-3.ensures, c.halves-2.ensures.before, c.halves-2.ensures.behind, c.halves.ensures.before, c.halves.ensures.behind)
