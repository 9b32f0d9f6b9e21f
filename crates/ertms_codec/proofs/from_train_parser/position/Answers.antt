use Rattle.ertms_codec.proofs.Leads.{past_packet, past_named, past_previous}
use Rattle.ertms_codec.proofs.WordsLeft.{handed_on}
use Rattle.ertms_codec.proofs.from_train_parser.position.Goals as goal

pub returns-in_err-packet-clause-err : goal.returns-in_err-packet-clause-err
returns-in_err-packet-clause-err c =
    handed_on c.from_residual.result _ _ c.from_residual.ensures.1
    (λ next. c.in_err-packet.ensures.err _)

pub returns-in_err-scale-clause-err : goal.returns-in_err-scale-clause-err
returns-in_err-scale-clause-err c =
    handed_on c.from_residual-in_err-scale.result _ _ c.from_residual-in_err-scale.ensures.1
    (λ next. past_packet _ _ _ c.in_ok-packet.ensures.ok
    (c.in_err-scale.ensures.err _))

pub returns-in_err-lrbg-clause-err : goal.returns-in_err-lrbg-clause-err
returns-in_err-lrbg-clause-err c =
    handed_on c.from_residual-in_err-lrbg.result _ _ c.from_residual-in_err-lrbg.ensures.1
    (λ next. past_packet _ _ _ c.in_ok-packet.ensures.ok
    (past_named _ _ _ _ _ c.in_ok-scale.ensures.ok
    (c.in_err-lrbg.ensures.err _)))

pub returns-in_err-previous-clause-err : goal.returns-in_err-previous-clause-err
returns-in_err-previous-clause-err c =
    handed_on c.from_residual-in_err-previous.result _ _ c.from_residual-in_err-previous.ensures.1
    (λ next. past_packet _ _ _ c.in_ok-packet.ensures.ok
    (past_named _ _ _ _ _ c.in_ok-scale.ensures.ok
    (past_named _ _ _ _ _ c.in_ok-lrbg.ensures.ok
    (c.in_err-previous.ensures.err _))))

pub returns-in_err-distance-clause-err : goal.returns-in_err-distance-clause-err
returns-in_err-distance-clause-err c =
    handed_on c.from_residual-in_err-distance.result _ _ c.from_residual-in_err-distance.ensures.1
    (λ next. past_packet _ _ _ c.in_ok-packet.ensures.ok
    (past_named _ _ _ _ _ c.in_ok-scale.ensures.ok
    (past_named _ _ _ _ _ c.in_ok-lrbg.ensures.ok
    (past_previous _ _ _ _ c.in_ok-previous.ensures.range c.in_ok-previous.ensures.packet c.in_ok-previous.ensures.ok
    (c.in_err-distance.ensures.err _)))))

pub returns-in_err-dir-clause-err : goal.returns-in_err-dir-clause-err
returns-in_err-dir-clause-err c =
    handed_on c.from_residual-in_err-dir.result _ _ c.from_residual-in_err-dir.ensures.1
    (λ next. past_packet _ _ _ c.in_ok-packet.ensures.ok
    (past_named _ _ _ _ _ c.in_ok-scale.ensures.ok
    (past_named _ _ _ _ _ c.in_ok-lrbg.ensures.ok
    (past_previous _ _ _ _ c.in_ok-previous.ensures.range c.in_ok-previous.ensures.packet c.in_ok-previous.ensures.ok
    (past_named _ _ _ _ _ c.in_ok-distance.ensures.ok
    (c.in_err-dir.ensures.err _))))))

pub returns-in_err-side-clause-err : goal.returns-in_err-side-clause-err
returns-in_err-side-clause-err c =
    handed_on c.from_residual-in_err-side.result _ _ c.from_residual-in_err-side.ensures.1
    (λ next. past_packet _ _ _ c.in_ok-packet.ensures.ok
    (past_named _ _ _ _ _ c.in_ok-scale.ensures.ok
    (past_named _ _ _ _ _ c.in_ok-lrbg.ensures.ok
    (past_previous _ _ _ _ c.in_ok-previous.ensures.range c.in_ok-previous.ensures.packet c.in_ok-previous.ensures.ok
    (past_named _ _ _ _ _ c.in_ok-distance.ensures.ok
    (past_named _ _ _ _ _ c.in_ok-dir.ensures.ok
    (c.in_err-side.ensures.err _)))))))

pub returns-in_err-over-clause-err : goal.returns-in_err-over-clause-err
returns-in_err-over-clause-err c =
    handed_on c.from_residual-in_err-over.result _ _ c.from_residual-in_err-over.ensures.1
    (λ next. past_packet _ _ _ c.in_ok-packet.ensures.ok
    (past_named _ _ _ _ _ c.in_ok-scale.ensures.ok
    (past_named _ _ _ _ _ c.in_ok-lrbg.ensures.ok
    (past_previous _ _ _ _ c.in_ok-previous.ensures.range c.in_ok-previous.ensures.packet c.in_ok-previous.ensures.ok
    (past_named _ _ _ _ _ c.in_ok-distance.ensures.ok
    (past_named _ _ _ _ _ c.in_ok-dir.ensures.ok
    (past_named _ _ _ _ _ c.in_ok-side.ensures.ok
    (c.in_err-over.ensures.err _))))))))

pub returns-in_err-under-clause-err : goal.returns-in_err-under-clause-err
returns-in_err-under-clause-err c =
    handed_on c.from_residual-in_err-under.result _ _ c.from_residual-in_err-under.ensures.1
    (λ next. past_packet _ _ _ c.in_ok-packet.ensures.ok
    (past_named _ _ _ _ _ c.in_ok-scale.ensures.ok
    (past_named _ _ _ _ _ c.in_ok-lrbg.ensures.ok
    (past_previous _ _ _ _ c.in_ok-previous.ensures.range c.in_ok-previous.ensures.packet c.in_ok-previous.ensures.ok
    (past_named _ _ _ _ _ c.in_ok-distance.ensures.ok
    (past_named _ _ _ _ _ c.in_ok-dir.ensures.ok
    (past_named _ _ _ _ _ c.in_ok-side.ensures.ok
    (past_named _ _ _ _ _ c.in_ok-over.ensures.ok
    (c.in_err-under.ensures.err _)))))))))
