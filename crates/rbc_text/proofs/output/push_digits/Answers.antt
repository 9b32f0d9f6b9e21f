use Rattle.std.proofs.Common.{◌*◌, ◌+◌, ap, slice_set, ◌∙◌, arith}
use Rattle.std.specs.Prelude.{slice_index}
use Rattle.std.proofs.lemmas.List.{length-set}
use Rattle.std.proofs.lemmas.Nat.{and_mask}
use Rattle.hex.specs.Hex.{encode_upper, upper_digits}
use Rattle.hex.proofs.Pairs.{encode_step, encode_done}
use Rattle.rbc_text.proofs.Texts.{appended}
use Rattle.rbc_text.proofs.output.push_digits.Goals as goal

pub loop-index-preserved : goal.loop-index-preserved
loop-index-preserved c = record {
  room = length-set (slice_set c.loop-index.digits (2 * c.loop-index.index) _) (2 * c.loop-index.index + 1) _ ∙ length-set c.loop-index.digits (2 * c.loop-index.index) _ ∙ c.loop-index.invariant.room;
  written =
      encode_step upper_digits c.args.bytes.now c.loop-index.digits c.loop-index.index _ _ (omega arith) (omega (arith, c.loop-index.invariant.room))
      (ap (slice_index upper_digits) c.from.ensures)
      (ap (slice_index upper_digits) (c.from-in-loop-index.ensures ∙ and_mask (slice_index c.args.bytes.now c.loop-index.index) 4))
      c.loop-index.invariant.written;
}

pub returns : goal.returns
returns c =
    appended c.extend_from_slice.result c.extend_from_slice.new.self.items c.args.text.now.items _ (encode_upper c.args.bytes.now) c.extend_from_slice.ensures.items
    (encode_done upper_digits c.args.bytes.now c.loop-index.digits c.loop-index.index (omega arith) (omega (arith, c.loop-index.invariant.room)) c.loop-index.invariant.written)
