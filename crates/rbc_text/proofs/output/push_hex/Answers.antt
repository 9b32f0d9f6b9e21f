use Rattle.rbc_text.proofs.HexDigits.{one_more_part}
use Rattle.rbc_text.proofs.output.push_hex.Goals as goal

pub loop-rest-preserved : goal.loop-rest-preserved
loop-rest-preserved c =
    one_more_part 32 c.args.text.now.items c.loop-rest.text.items c.push_digits.new.text.items c.args.bytes.now c.loop-rest.rest.now c.split_at.result.0.now c.split_at.result.1.now
    c.split_at.ensures.front c.split_at.ensures.back c.in_ok-push_digits.ensures c.loop-rest.invariant
