use Rattle.std.proofs.Common.{ap, ◌∙◌}
use Rattle.std.specs.Str.Parse.{ParsesBool}
use Rattle.clap.specs.Matches.{found_of, one_text}
use Rattle.clap.proofs.WalkLemmas.{one_text-rows}
use Rattle.rbc_dispatch.proofs.Findings.{flag_found, is_set}
use Rattle.rbc_dispatch.proofs.words.flag_in.Goals as goal

pub returns : goal.returns
returns c =
    let found = found_of c.args.found.now in
    let id = c.args.id.now in
    c.unwrap_or.ensures
    ∙ flag_found ParsesBool (one_text found id) c.get_one.result c.get_one.ensures.none c.get_one.ensures.value (λ t r read. read)
    ∙ ap is_set (one_text-rows found id)
