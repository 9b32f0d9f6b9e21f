use Rattle.std.proofs.Common.{◌∙◌}
use Rattle.rbc_dispatch.proofs.Findings.{number_read}
use Rattle.rbc_dispatch.proofs.words.number_of.Goals as goal

pub returns : goal.returns
returns c = c.ok.ensures.value ∙ number_read c.args.word.now c.parse.result c.parse.ensures.value.0
