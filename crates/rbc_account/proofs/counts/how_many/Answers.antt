use Rattle.std.proofs.Common.{rules}
use Rattle.std.proofs.lemmas.Iterator.{YieldsList-from_slice}
use Rattle.std.proofs.lemmas.Iterator.Consumers.{YieldsList-at, YieldsList-from_filter, count_from_yields_List}
use Rattle.rbc_account.specs.Counting.{is_share}
use Rattle.rbc_account.proofs.counts.how_many.Goals as goal

pub returns : goal.returns
returns c =
    count_from_yields_List _ c.count.result c.count.ensures.ran
    (YieldsList-from_filter _ (is_share c.args.wanted)
    (YieldsList-at c.filter.ensures.source (YieldsList-from_slice c.args.shares.now c.iter.ensures.rest))
    c.filter.ensures.closure (λ x b q k. search rules))
