use Rattle.std.proofs.Common.{rules, ◌∙◌}
use Rattle.std.proofs.lemmas.Iterator.{YieldsList-from_slice}
use Rattle.std.proofs.lemmas.Iterator.Search.{find_from_yields_List}
use Rattle.rbc_account.specs.Reasons.{is_met}
use Rattle.rbc_account.proofs.reason.first_met.Goals as goal

pub returns : goal.returns
returns c =
    c.copied.ensures
    ∙ find_from_yields_List (is_met c.args.place.now) _ _ c.find.result c.find.ensures.ran (YieldsList-from_slice c.args.segments.now c.iter.ensures.rest) (λ x b q k. search rules)
