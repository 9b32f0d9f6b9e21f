use Rattle.std.proofs.Common.{◌*◌, ◌^◌, ◌<◌, ◌∙◌, bit_or, ap, arith, mod-eq_of_lt}
use Rattle.std.proofs.lemmas.Nat.{or_shifted}
use Rattle.ertms_codec.proofs.write.joined.Goals as goal

pub returns : goal.returns
returns c =
    let below : c.args.first * 2 ^ c.args.width < 2 ^ 64 = omega (arith, c.requires.room) in
    ap (λ n. bit_or n c.args.second) (mod-eq_of_lt below)
    ∙ or_shifted c.args.first c.args.width c.args.second c.requires.second
