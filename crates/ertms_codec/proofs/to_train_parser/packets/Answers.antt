use Rattle.std.proofs.Common.{◌≡◌, length, arith, refl}
use Rattle.ertms_codec.proofs.PacketTexts.{wrong_packet, wrong_end, no_wrong_end}
use Rattle.ertms_codec.proofs.WordsLeft.{handed_on}
use Rattle.ertms_codec.proofs.to_train_parser.packets.Goals.{then-loop-words-test+else-not-is_empty, else-loop-words-test}
use Rattle.ertms_codec.proofs.to_train_parser.packets.Goals as goal

pub returns-in_err-first-clause-err : goal.returns-in_err-first-clause-err
returns-in_err-first-clause-err c =
    handed_on c.from_residual.result _ _ c.from_residual.ensures.1 (c.in_err-first.ensures.err _)

pub returns-in_err-part-clause-err : goal.returns-in_err-part-clause-err
returns-in_err-part-clause-err c =
    handed_on c.from_residual-in_err-part.result _ _ c.from_residual-in_err-part.ensures.1
    (wrong_packet c.loop-words.packets c.args.words.now c.loop-words.words _ c.loop-words.invariant (omega arith) (c.if-not-is_empty.ensures.some refl) c.in_err-part.ensures.err)

pub returns-in_err-end-clause-err : goal.returns-in_err-end-clause-err
returns-in_err-end-clause-err c =
    handed_on c.from_residual-in_err-end.result _ _ c.from_residual-in_err-end.ensures.1
    (elim c.loop-words-test.branch [
      | then-loop-words-test+else-not-is_empty w ↦ absurd (no_wrong_end _ _ _ (w.if-not-is_empty.ensures.none refl) c.in_err-end.ensures.err)
      | else-loop-words-test w ↦
          let full : length c.loop-words.packets ≡ 100 = omega arith in
          wrong_end c.loop-words.packets c.args.words.now c.loop-words.words _ c.loop-words.invariant full c.in_err-end.ensures.err
    ])
