use Rattle.std.proofs.Common.{subst, sym}
use Rattle.rbc_picture.specs.Drawn.{HasTaken}
use Rattle.rbc_picture.proofs.Taking.{taken_among}
use Rattle.rbc_picture.proofs.batch_picture.pass_among.Goals as goal

-- the line is left
pub returns-then-not-is_taken : goal.returns-then-not-is_taken
returns-then-not-is_taken c = λ plan lines many has.
    subst (HasTaken plan c.args.account.now) (sym (c.is_taken.ensures.left c.if-not-is_taken.true lines c.args.line.now many)) has

-- it is taken
pub returns : goal.returns
returns c = λ plan lines many has.
    taken_among c.pass.result plan c.args.after c.args.account.now c.pass.new.account lines c.args.line.now has (c.is_taken.ensures.taken c.if-not-is_taken.false lines c.args.line.now many)
    (c.pass.ensures plan lines)
