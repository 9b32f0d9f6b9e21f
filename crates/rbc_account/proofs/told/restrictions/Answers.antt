use Rattle.std.proofs.Common.{[], ◌∷◌, ◌++◌, take, ◌+◌, option_copied, sym, subst}
use Rattle.std.specs.List.{AllByRecursion}
use Rattle.std.proofs.lemmas.List.Elements.{All-from_recursion, recursion_from_All, All-push}
use Rattle.rbc_account.specs.Whys.{IsPacket}
use Rattle.rbc_account.specs.Places.{TellsPart}
use Rattle.rbc_account.specs.Subjects.{ArePaired, IsOfLimit}
use Rattle.rbc_account.specs.Found.{IsKnownPacket}
use Rattle.rbc_account.proofs.Listing.{paired_more}
use Rattle.rbc_account.proofs.told.restrictions.Goals as goal

pub loop-index-preserved : goal.loop-index-preserved
loop-index-preserved c =
    let Is = IsPacket c.args.desk.now.records c.args.train.now in
    let About = IsOfLimit c.args.input.now (option_copied c.args.before) c.args.train.now in
    let Known = IsKnownPacket c.args.desk.now.records c.args.input.now (option_copied c.args.before) c.args.train.now in
    let told = c.loop-index.told.items in
    let one = c.restriction.result in
    record {
      each =
          subst (AllByRecursion Is) (sym c.in_ok-push.ensures.items)
          (recursion_from_All Is (told ++ one ∷ []) (All-push Is told one (All-from_recursion Is told c.loop-index.invariant.each) c.restriction.ensures.why));
      about =
          subst (ArePaired About (take (c.loop-index.index + 1) c.args.packets.now)) (sym c.in_ok-push.ensures.items)
          (paired_more About c.args.packets.now told c.loop-index.index c.at.result one c.at.ensures c.loop-index.invariant.about c.restriction.ensures.about);
      kind =
          subst (ArePaired TellsPart (take (c.loop-index.index + 1) c.args.packets.now)) (sym c.in_ok-push.ensures.items)
          (paired_more TellsPart c.args.packets.now told c.loop-index.index c.at.result one c.at.ensures c.loop-index.invariant.kind c.restriction.ensures.kind);
      known =
          subst (ArePaired Known (take (c.loop-index.index + 1) c.args.packets.now)) (sym c.in_ok-push.ensures.items)
          (paired_more Known c.args.packets.now told c.loop-index.index c.at.result one c.at.ensures c.loop-index.invariant.known c.restriction.ensures.known);
    }
