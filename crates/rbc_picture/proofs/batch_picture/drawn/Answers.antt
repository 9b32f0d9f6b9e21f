use Rattle.std.proofs.Common.{◌∙◌, length, ap, string_bytes}
use Rattle.std.proofs.lemmas.Result.{IfOk-weaker, IfErr-weaker}
use Rattle.rbc_track.specs.Plan.{Plan}
use Rattle.rbc_picture.specs.NotDrawn.{LacksTrain}
use Rattle.rbc_picture.proofs.Failing.{memory_fails}
use Rattle.rbc_picture.proofs.Taking.{drawn_after, fails_after}
use Rattle.rbc_picture.proofs.batch_picture.drawn.Goals as goal

pub returns-in_err-named-clause-fails : goal.returns-in_err-named-clause-fails
returns-in_err-named-clause-fails c = λ plan lines has few. memory_fails (LacksTrain plan c.args.selection.now lines) _ c.from_residual.ensures.1

pub returns-clause-drawn : goal.returns-clause-drawn
returns-clause-drawn c = λ plan lines has few.
    let count = c.in_ok-named.ensures ∙ ap (λ (track : Plan). length track.lines) c.track.ensures in
    IfOk-weaker c.picture_of.result _ _ (λ svg drawn. drawn_after plan c.args.selection.now c.args.account.now _ lines (string_bytes svg) c.account_law.ensures few has count drawn)
    c.picture_of.ensures.drawn

pub returns-clause-fails : goal.returns-clause-fails
returns-clause-fails c = λ plan lines has few.
    IfErr-weaker c.picture_of.result _ _ (λ fault fails. fails_after plan c.args.selection.now c.args.account.now lines fault c.account_law.ensures few has fails)
    c.picture_of.ensures.fails
