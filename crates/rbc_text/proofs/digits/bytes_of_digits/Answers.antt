use Rattle.std.proofs.Common.{◌≡◌, ◌<◌, Ok, arith, lt-ltb, ltb-true}
use Rattle.hex.specs.Hex.{decode_of}
use Rattle.hex.proofs.HexLemmas.{decode_of-ok}
use Rattle.hex.proofs.Pairs.{decode_start}
use Rattle.rbc_text.proofs.DigitValues.{all_decoded, one_more_below, one_more_decoded}
use Rattle.rbc_text.proofs.digits.bytes_of_digits.Goals as goal

pub loop-index-init : goal.loop-index-init
loop-index-init c = record {
  spelled = λ below. decode_start c.args.digits.now c.args.bytes.now;
  found = λ digits. omega arith;
}

pub loop-index-preserved : goal.loop-index-preserved
loop-index-preserved c = record {
  spelled =
      one_more_decoded _ c.loop-index.bytes c.loop-index.index c.loop-index.all _ _ (omega arith) (omega arith)
      c.value_of-high.ensures c.value_of-low.ensures c.loop-index.invariant.spelled;
  found =
      one_more_below _ c.loop-index.index c.loop-index.all _ _ (omega arith)
      c.value_of-high.ensures c.value_of-low.ensures c.loop-index.invariant.found;
}

-- what is below 256 is decoded
decoded : (c : goal.After-loop-index) → c.loop-index.all < 256 → decode_of c.args.digits.now ≡ Ok c.loop-index.bytes
decoded c below =
    all_decoded _ c.loop-index.bytes c.loop-index.index (omega arith) (omega arith) (c.loop-index.invariant.spelled below)

pub returns-clause-all : goal.returns-clause-all
returns-clause-all c = (
  λ all. (decode_of-ok _ _ (decoded c (ltb-true c.loop-index.all 256 all))).1,
  λ digits. lt-ltb c.loop-index.all 256 (c.loop-index.invariant.found digits),
)

pub returns-clause-spelled : goal.returns-clause-spelled
returns-clause-spelled c = λ all. decoded c (ltb-true c.loop-index.all 256 all)
