use Rattle.std.proofs.Common.{[], ◌∷◌}
use Rattle.rbc_explain.proofs.Marking.{told_none}
use Rattle.rbc_explain.proofs.InWords.{gap_told}
use Rattle.rbc_explain.proofs.words.push_gap.Goals as goal

-- the end stands alone
pub returns-then-eq : goal.returns-then-eq
returns-then-eq c = told_none c.args.log.now.items

-- an empty line is added
pub returns : goal.returns
returns c = gap_told c.push_words.result (10 ∷ []) c.args.log.now.items c.push_words.new.log.items c.push_words.ensures
