use Rattle.std.proofs.Common.{arith, ap, sym, ◌∙◌, subst}
use Rattle.rbc_settle.specs.declared.change.StopChange.{StopChange}
use Rattle.rbc_settle.specs.declared.change.StopChange.TheVariants.{Revoke}
use Rattle.rbc_settle.specs.Actions.{ChangesStop}
use Rattle.rbc_settle.specs.Settling.{message_of}
use Rattle.rbc_settle.specs.Following.{Allows}
use Rattle.rbc_settle.proofs.Carrying.{used_below}
use Rattle.rbc_settle.proofs.carrying_out.stop_message.Goals as goal

pub returns-in-Revoke-clause-fits : goal.returns-in-Revoke-clause-fits
returns-in-Revoke-clause-fits c =
    let train = c.args.train.now in
    let allowed : Allows train (ChangesStop (Revoke c.in-Revoke.id c.in-Revoke.number)) = subst (λ (change : StopChange). Allows train (ChangesStop change)) c.in-Revoke.is c.requires.allowed in
    let below = used_below 15 train.stops c.requires.tables.stops c.in-Revoke.id allowed in
    record { lrbg = c.head_of.ensures.group; body = omega arith }

pub returns-in-Tell-clause-message : goal.returns-in-Tell-clause-message
returns-in-Tell-clause-message c = c.told_message.ensures.message c.in-Tell.number ∙ ap (λ (change : StopChange). message_of c.args.train.now (ChangesStop change)) (sym c.in-Tell.is)
