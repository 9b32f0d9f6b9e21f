use Rattle.std.proofs.Common.{◌≡◌, ◌*◌, ◌∙◌, refl, ap, arith}
use Rattle.ertms_bits.specs.Bits.{bits_of_bytes, number_of}
use Rattle.ertms_bits.proofs.Numbers.{AreBits-bits_of_bytes, number_of-window, number_of-more}
use Rattle.ertms_bits.proofs.reader.first_bits.Goals as goal

pub loop-i-init : goal.loop-i-init
unfolding number_of
loop-i-init c = refl

pub loop-i-preserved : goal.loop-i-preserved
loop-i-preserved c =
    rw (c.from.ensures, c.loop-i.invariant)
    (number_of-more c.loop-i.i c.args.bytes.now (omega arith) (omega arith) (c.type_inv.bytes c.loop-i.i).fits)

pub returns-then-bytes-ge8 : goal.returns-then-bytes-ge8
returns-then-bytes-ge8 c =
    number_of-window 64 c.args.width _ (bits_of_bytes c.args.bytes.now) (AreBits-bits_of_bytes c.args.bytes.now) (omega arith) c.first_eight.ensures

pub returns : goal.returns
returns c =
    let all : c.loop-i.i ≡ c.div_ceil-count.result = omega arith in
    number_of-window (8 * c.div_ceil-count.result) c.args.width _ (bits_of_bytes c.args.bytes.now) (AreBits-bits_of_bytes c.args.bytes.now) (omega arith)
    (c.loop-i.invariant ∙ ap (λ n. number_of (8 * n) (bits_of_bytes c.args.bytes.now)) all)
