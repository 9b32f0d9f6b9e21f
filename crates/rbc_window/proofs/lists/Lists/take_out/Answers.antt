use Rattle.rbc_settle.specs.Numbers.{without_number}
use Rattle.rbc_records.specs.Notes.{record_in}
use Rattle.rbc_window.proofs.ChangedLists.{changed_there}
use Rattle.rbc_window.proofs.lists.Lists.take_out.Goals as goal

pub returns : goal.returns
returns c =
    changed_there c.args.self.now c.own.new.self c.self.inside.all.items (record_in c.args.store.now)
    c.args.key c.in_ok-index.index c.index_mut.result.now (without_number c.args.engine) c.remove.new.self
    c.self.view_is
    c.in_ok-index.ensures.same c.in_ok-index.ensures.first c.in_ok-index.ensures.within
    c.index_mut.ensures.value c.remove.ensures.numbers
