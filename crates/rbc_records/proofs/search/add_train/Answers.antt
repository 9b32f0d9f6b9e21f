use Rattle.std.proofs.Common.{◌∙◌, sym, rules}
use Rattle.rbc_records.proofs.Passing.{engine_added}
use Rattle.rbc_records.proofs.search.add_train.Goals as goal

pub returns : goal.returns
returns c _ =
    let found = rw c.unwrap.ensures at c.get_index.ensures.entry in
    engine_added c.args.found.now c.add.new.self c.in-Train-Train.engine c.in-Train-Train.field-0-1 _ c.in_ok-add.ensures.ok (sym found ∙ search rules)
