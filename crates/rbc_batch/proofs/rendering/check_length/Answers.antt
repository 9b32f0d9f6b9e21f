use Rattle.std.proofs.Common.{ap, length, arith}
use Rattle.rbc_batch.proofs.Texts.{all_joined}
use Rattle.rbc_batch.proofs.rendering.check_length.Goals as goal

pub returns : goal.returns
returns c =
    let all = ap length (all_joined c.args.texts.now c.loop-text.text-index (omega (arith, c.loop-text-test.false))) in
    omega (arith, all, c.loop-text.invariant.length, c.loop-text.invariant.fits)
