use Rattle.std.proofs.Common.{IfSome, subst}
use Rattle.rbc_records.specs.Seeking.{AreFound}
use Rattle.rbc_rule.proofs.Seeking.{found_sought}
use Rattle.rbc_rule.proofs.fetch.search.Goals as goal

pub returns-in-Some-clause-sought : goal.returns-in-Some-clause-sought
returns-in-Some-clause-sought g c = λ plan w m.
    let notes = g.S.Reader.notes c.args.store.now in
    found_sought plan notes c.args.sought c.in-Some.engines w m (subst (λ found. IfSome found (AreFound notes c.args.sought)) c.in-Some.is c.in_ok-engines.ensures)
