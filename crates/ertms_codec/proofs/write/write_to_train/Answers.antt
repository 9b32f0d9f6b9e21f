use Rattle.std.proofs.Common.{◌∙◌}
use Rattle.ertms_codec.proofs.Written.{Writes-append}
use Rattle.ertms_codec.proofs.write.write_to_train.Goals as goal

pub returns-clause-behind : goal.returns-clause-behind
returns-clause-behind c =
    let whole = Writes-append c.put_header.ensures c.put_body.ensures.written in
    c.put_fill_bits.ensures.behind ∙ (rw c.put_fill_bits.ensures.used whole.behind)
