use Rattle.std.proofs.Common.{◌≡◌, min, ap, ◌∙◌}
use Rattle.rbc_core.specs.Searches.{bound_of}
use Rattle.rbc_core.proofs.Bounding.{none_to_last, latest_to_last}
use Rattle.rbc_core.proofs.book.latest_put.Goals as goal

pub returns-clause-some : goal.returns-clause-some
returns-clause-some g c =
    let is : c.min-highest.result ≡ min (bound_of c.args.bounds.now c.args.key) c.args.last = c.min-highest.ensures ∙ ap (λ n. min n c.args.last) c.of.ensures in
    latest_to_last c.args.bounds.now c.args.stages.now.items c.args.committed c.min-highest.result c.args.last c.args.key _ c.requires.bound c.requires.within is c.forwarded.ensures.some

pub returns-clause-none : goal.returns-clause-none
returns-clause-none g c e =
    let is : c.min-highest.result ≡ min (bound_of c.args.bounds.now c.args.key) c.args.last = c.min-highest.ensures ∙ ap (λ n. min n c.args.last) c.of.ensures in
    none_to_last c.args.bounds.now c.args.stages.now.items c.args.committed c.min-highest.result c.args.last c.args.key c.requires.bound c.requires.within is (c.forwarded.ensures.none e)
