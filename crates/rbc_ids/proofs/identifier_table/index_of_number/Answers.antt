use Rattle.std.proofs.Common.{rules, tests, is_some, ◌∙◌, ap}
use Rattle.std.proofs.lemmas.Iterator.{YieldsList-from_slice}
use Rattle.std.proofs.lemmas.Iterator.Search.{position_from_yields_List}
use Rattle.rbc_ids.specs.Table.{tells}
use Rattle.rbc_ids.proofs.Near.{position_is_some}
use Rattle.rbc_ids.proofs.identifier_table.index_of_number.Goals as goal

pub returns-clause-told : goal.returns-clause-told
returns-clause-told c =
    ap is_some (position_from_yields_List (λ held. tells c.args.number held.1) _ _ c.position.result c.position.ensures.ran (YieldsList-from_slice c.args.held.now (cc)) (λ x b q k. search (rules, tests)))
    ∙ position_is_some (λ held. tells c.args.number held.1) c.args.held.now
