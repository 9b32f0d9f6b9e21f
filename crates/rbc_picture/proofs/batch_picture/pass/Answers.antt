use Rattle.std.proofs.Common.{refl}
use Rattle.rbc_live.specs.History.{Taken}
use Rattle.rbc_picture.proofs.Taking.{takes_one}
use Rattle.rbc_picture.proofs.batch_picture.pass.Goals as goal

pub returns : goal.returns
returns c = λ plan lines has.
    let answer = c.in_ok-_answer._answer in
    let one : Taken = record { line = c.args.line.now; reply = answer.reply; messages = answer.messages } in
    takes_one plan c.args.account.now c.pass.new.self lines c.args.line.now one refl has c.in_ok-_answer.ensures.fed
    c.in_ok-_answer.ensures.track c.in_ok-_answer.ensures.sums
