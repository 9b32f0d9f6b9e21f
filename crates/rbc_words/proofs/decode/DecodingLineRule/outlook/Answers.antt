use Rattle.rbc_words.proofs.LastWords.{long_line}
use Rattle.rbc_words.proofs.decode.DecodingLineRule.outlook.Goals as goal

pub returns-then-begun-gt-LONGEST : goal.returns-then-begun-gt-LONGEST
returns-then-begun-gt-LONGEST c = long_line c.args.begun.now c.if-begun-gt-LONGEST.true
