use Rattle.std.proofs.Common.{ap, ◌∙◌}
use Rattle.std.specs.Option.{option_map_or}
use Rattle.std.specs.Str.Parse.{ParsesUnsigned, ExplainsUnsignedError, HasUnsignedDigitsIfOk}
use Rattle.clap.specs.Matches.{found_of, one_text}
use Rattle.clap.specs.Walk.{byte_or_zero}
use Rattle.clap.proofs.WalkLemmas.{one_text-rows}
use Rattle.rbc_dispatch.proofs.Findings.{byte_found}
use Rattle.rbc_dispatch.proofs.words.byte_in.Goals as goal

pub returns : goal.returns
returns c =
    let found = found_of c.args.found.now in
    let id = c.args.id.now in
    c.unwrap_or.ensures
    ∙ byte_found (λ bs r. ParsesUnsigned 8 10 bs r × ExplainsUnsignedError 10 bs r × HasUnsignedDigitsIfOk bs r) (one_text found id) c.get_one.result
    c.get_one.ensures.none c.get_one.ensures.value (λ t r read. read.0)
    ∙ ap (λ o. option_map_or byte_or_zero o 0) (one_text-rows found id)
