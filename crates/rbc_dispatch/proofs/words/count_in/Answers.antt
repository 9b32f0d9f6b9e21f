use Rattle.std.proofs.Common.{ap, ◌∙◌, option_and_then}
use Rattle.std.specs.Str.Parse.{ParsesUnsigned, ExplainsUnsignedError, HasUnsignedDigitsIfOk}
use Rattle.clap.specs.Matches.{found_of, one_text}
use Rattle.clap.proofs.WalkLemmas.{one_text-rows}
use Rattle.rbc_dispatch.specs.Words.{count_in}
use Rattle.rbc_dispatch.proofs.Findings.{count_found}
use Rattle.rbc_dispatch.proofs.words.count_in.Goals as goal

pub returns : goal.returns
returns c =
    let found = found_of c.args.found.now in
    let id = c.args.id.now in
    count_found (λ bs r. ParsesUnsigned 64 10 bs r × ExplainsUnsignedError 10 bs r × HasUnsignedDigitsIfOk bs r) (one_text found id) c.get_one.result
    c.get_one.ensures.none c.get_one.ensures.value (λ t r read. read.0)
    ∙ ap (λ o. option_and_then count_in o) (one_text-rows found id)
