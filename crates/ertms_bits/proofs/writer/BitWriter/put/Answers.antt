use Rattle.std.proofs.Common.{◌≡◌, ◌+◌, ◌-◌, append_assoc, append-nil, arith, refl, ◌∙◌}
use Rattle.ertms_bits.specs.Bits.{bits_of, bytes_for}
use Rattle.ertms_bits.proofs.Bits.{bits_of_more, drop_same}
use Rattle.ertms_bits.proofs.writer.BitWriter.put.Goals as goal

pub loop-rest-init : goal.loop-rest-init
unfolding bits_of
loop-rest-init c =
    let none : c.args.width - c.args.width ≡ 0 = omega arith in
    record { left = omega arith; place = refl; bits = rw (none, append-nil); behind = refl }

pub loop-rest-preserved : goal.loop-rest-preserved
loop-rest-preserved c =
    let before = c.loop-rest.invariant in
    let step = c.put_some-rest.ensures in
    record {
      left = omega arith;
      place = omega arith;
      bits = rw (step.bits, before.bits, bits_of_more c.args.width c.loop-rest.rest c.put_some-rest.result c.args.value (omega arith) (omega arith), append_assoc);
      behind = drop_same (bytes_for c.put_some-rest.new.self) (bytes_for (c.args.self.now + c.args.width)) _ _ (omega arith) step.behind ∙ before.behind;
    }
