use Rattle.std.proofs.Common.{◌∙◌}
use Rattle.rbc_ids.proofs.Near.{found_behind, found_before, found_nowhere}
use Rattle.rbc_ids.proofs.identifier_table.IdTable.tells.Goals as goal

pub returns-in-Some : goal.returns-in-Some
returns-in-Some g c =
    found_behind c.deref-2.result.now c.args.self.now c.min-start.result c.args.number (c.deref-2.ensures.value ∙ c.self.view_is) c.in-Some.ensures.told

pub returns-in_default-index_of_number : goal.returns-in_default-index_of_number
returns-in_default-index_of_number g c =
    found_nowhere c.deref.result.now c.args.self.now c.min-start.result c.args.number (c.deref.ensures.value ∙ c.self.view_is)
    (let missed = c.in_default.ensures.told in cc) c.in_default-index_of_number.ensures.told

pub returns : goal.returns
returns g c =
    found_before c.deref.result.now c.args.self.now c.min-start.result c.args.number (c.deref.ensures.value ∙ c.self.view_is) (let found = c.in-Some-index_of_number.ensures.told in cc)
