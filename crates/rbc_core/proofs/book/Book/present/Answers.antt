use Rattle.std.proofs.Common.{subst, refl}
use Rattle.rbc_core.specs.Books.{BookValue, state_of}
use Rattle.rbc_core.specs.Forwards.{IsLatest}
use Rattle.rbc_core.proofs.Searching.{latest_found, latest_present, latest_happens}
use Rattle.rbc_core.proofs.book.Book.present.Goals as goal

pub latest_put-requires-clause-bound : goal.latest_put-requires-clause-bound
latest_put-requires-clause-bound g c = c.self.invariant.3

pub returns-in-Some-clause-latest : goal.returns-in-Some-clause-latest
returns-in-Some-clause-latest g c =
    subst (λ (b : BookValue). IsLatest (state_of b) c.args.input c.args.key c.in-Some.number) c.self.view_is
    (latest_found g.N.RunName.run _ c.self.invariant.2.kept c.args.input c.last_before-last.result c.args.key c.last_before-last.ensures.before c.last_before-last.ensures.all c.in-Some.number c.in-Some.ensures.some)

pub returns-in-Some-clause-event : goal.returns-in-Some-clause-event
returns-in-Some-clause-event g c = latest_happens g.N.RunName.run _ c.args.input c.args.key c.in-Some.number (returns-in-Some-clause-latest g c)

pub returns-in-None-clause-latest : goal.returns-in-None-clause-latest
returns-in-None-clause-latest g c =
    subst (λ (b : BookValue). IsLatest (state_of b) c.args.input c.args.key c.number.result) c.self.view_is
    (latest_present g.N.RunName.run _ c.self.invariant.2.kept c.args.input c.last_before-last.result c.args.key c.last_before-last.ensures.before c.last_before-last.ensures.all c.number.result (c.in-None.ensures.none refl) c.number.ensures)
