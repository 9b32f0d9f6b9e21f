use Rattle.std.proofs.Common.{◌≡◌, drop, length, arith}
use Rattle.std.proofs.lemmas.List.{length-drop}
use Rattle.rbc_batch.proofs.LineInputs.{all_read}
use Rattle.rbc_batch.proofs.inputs.inputs_in_turn.Goals as goal

-- no line is left
pub returns-clause-inputs : goal.returns-clause-inputs
returns-clause-inputs c =
    let rest = drop c.loop-line.line-index c.args.lines.now in
    let none : length rest ≡ 0 = omega (arith, length-drop c.loop-line.line-index c.args.lines.now) in
    all_read c.args.lines.now rest c.loop-line.inputs.items none c.loop-line.invariant.onward
