use Rattle.std.proofs.Common.{◌∙◌, sym}
use Rattle.rbc_live.proofs.NothingWaits.{nothing_waits}
use Rattle.rbc_account.proofs.coming.waiting_now.Goals as goal

pub returns-else-lacks_something : goal.returns-else-lacks_something
returns-else-lacks_something c =
    c.new.ensures.items
    ∙ sym (nothing_waits c.args.desk.now.track c.args.desk.now.records c.args.engine c.args.train.now c.requires
    (sym c.lacks_something.ensures ∙ c.if-lacks_something.false) c.args.desk.now.serial)
