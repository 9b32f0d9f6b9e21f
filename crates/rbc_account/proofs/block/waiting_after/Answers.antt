use Rattle.std.proofs.Common.{◌∙◌, sym, option_copied}
use Rattle.rbc_account.proofs.NoneUntold.{none_come_to_wait}
use Rattle.rbc_account.proofs.block.waiting_after.Goals as goal

pub returns : goal.returns
returns c =
    c.new.ensures.items
    ∙ sym (none_come_to_wait c.args.desk.now.track.horizon c.args.desk.now.records (option_copied c.args.before) c.in-Some.counts c.if-counts-eq0.true
    c.args.input.now c.args.reply (sym c.requires ∙ c.in-Some.is))
