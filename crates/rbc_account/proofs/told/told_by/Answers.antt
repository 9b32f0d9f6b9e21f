use Rattle.std.proofs.Common.{take, ◌+◌, option_copied, sym, subst}
use Rattle.rbc_account.specs.Subjects.{ArePaired, IsToldOf}
use Rattle.rbc_account.specs.Found.{IsKnown}
use Rattle.rbc_account.proofs.Listing.{paired_more}
use Rattle.rbc_account.proofs.told.told_by.Goals as goal

pub loop-index-preserved : goal.loop-index-preserved
loop-index-preserved c =
    let Is = IsToldOf c.args.desk.now.records c.args.input.now (option_copied c.args.before) in
    let Known = IsKnown c.args.desk.now.records c.args.input.now (option_copied c.args.before) in
    let told = c.loop-index.told.items in
    let one = c.in_ok-told_by_one.field-0 in
    record {
      right =
          subst (ArePaired Is (take (c.loop-index.index + 1) c.args.messages.now)) (sym c.in_ok-push.ensures.items)
          (paired_more Is c.args.messages.now told c.loop-index.index c.at.result.now one c.at.ensures c.loop-index.invariant.right c.in_ok-told_by_one.ensures.right);
      known =
          subst (ArePaired Known (take (c.loop-index.index + 1) c.args.messages.now)) (sym c.in_ok-push.ensures.items)
          (paired_more Known c.args.messages.now told c.loop-index.index c.at.result.now one c.at.ensures c.loop-index.invariant.known c.in_ok-told_by_one.ensures.known);
    }
