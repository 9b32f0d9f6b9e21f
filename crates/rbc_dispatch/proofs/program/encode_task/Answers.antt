use Rattle.rbc_words.specs.Encoding.{plan_given}
use Rattle.rbc_dispatch.specs.Filtering.{name_given}
use Rattle.rbc_dispatch.proofs.EncodedLines.{no_track, plan_is, with_track}
use Rattle.rbc_dispatch.proofs.program.encode_task.Goals as goal

pub returns-in_err-track-clause-lines : goal.returns-in_err-track-clause-lines
returns-in_err-track-clause-lines g c = λ none.
    no_track (Unit {0}) (name_given c.args.file) _ c.from_residual.result _ _ _ _ c.from_residual.ensures.1 c.in_err-track.ensures.err

pub returns-clause-lines : goal.returns-clause-lines
returns-clause-lines g c = λ none.
    let is = plan_is c.as_ref.result c.in_ok-track.track c.as_ref.ensures.value in
    with_track (Unit {0}) (name_given c.args.file) (plan_given c.as_ref.result) c.encode_input.result _ _ _ _ (rw is c.in_ok-track.ensures.ok) c.encode_input.ensures
