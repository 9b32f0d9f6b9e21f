use Rattle.std.proofs.Common.{◌<◌, subst}
use Rattle.rbc_core.specs.Books.{state_of}
use Rattle.rbc_core.specs.Core.{State}
use Rattle.rbc_core.specs.Events.{Happens}
use Rattle.rbc_core.specs.Events.Event.{Takes}
use Rattle.rbc_engine.proofs.Fronts.{takes_and_gives_up, left_untaken}
use Rattle.rbc_engine.proofs.workers.give_up.Goals as goal

-- the input was not out, so nobody had taken it
pub returns-clause-given_up : goal.returns-clause-given_up
returns-clause-given_up g c given =
    let run = g.N.RunName.run in
    let kept = c.if-void.ensures in
    let took = subst (λ (s : State). Happens run s (Takes c.take.result) (state_of c.take.new.self)) kept.leads c.take.ensures.event in
    takes_and_gives_up run _ _ _ _ _ _ c.requires.front c.requires.waiting kept.may took c.void-2.ensures

pub returns-then-number-gt1-clause-not_taken : goal.returns-then-number-gt1-clause-not_taken
returns-then-number-gt1-clause-not_taken g c not_given =
    let later : 1 < c.args.number = c.if-number-gt1.true in
    left_untaken g.N.RunName.run _ _ c.args.number c.requires.front c.requires.waiting c.if-void.ensures.may later c.if-void.ensures.leads
