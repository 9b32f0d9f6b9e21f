use Rattle.std.proofs.Common.{rules, ◌≡◌, codes, false}
use Rattle.std.specs.Str.{bytes_eq}
use Rattle.std.proofs.lemmas.Result.{IfOk-weaker}
use Rattle.ertms_codec.specs.Pieces.{pieces_behind}
use Rattle.rbc_live.proofs.Alike.{one_long_word, more_than_recv, other_command}
use Rattle.rbc_live.proofs.stand_in.shortened.Goals as goal

-- no space is there
pub returns-in-None-clause-alike : goal.returns-in-None-clause-alike
returns-in-None-clause-alike c =
    IfOk-weaker c.bad_line.result _ _ (λ kept is. one_long_word kept.items c.args.line.now is c.requires c.in-None.ensures.none) c.bad_line.ensures

-- a command that is no stop, and no message
pub returns-in-Some-3-clause-alike : goal.returns-in-Some-3-clause-alike
returns-in-Some-3-clause-alike c =
    let line = c.args.line.now in
    let front = c.in-Some.front.now in
    let command = c.cut.result.0.now in
    let no_message : bytes_eq front (codes "recv") ≡ false = search rules in
    let no_stop : bytes_eq command (codes "stop") ≡ false = search rules in
    IfOk-weaker c.bad_line-in-Some-3.result _ _ (λ kept is.
    other_command kept.items line front c.in-Some.word.now command (pieces_behind 32 c.cut.result.1) is c.requires c.in-Some.ensures.words c.cut.ensures.pieces no_stop
    (more_than_recv front command c.cut.result.1 c.cut.ensures.whole no_message)) c.bad_line-in-Some-3.ensures
