use Rattle.std.proofs.Common.{refl}
use Rattle.rbc_track_report.proofs.Written.{written_none, ◌then◌}
use Rattle.rbc_track_report.proofs.report_text.Sheet.shown.Goals as goal

pub loop-index-init : goal.loop-index-init
loop-index-init c = written_none _

pub returns-then-index-eq-MAX_SHOWN-clause-same : goal.returns-then-index-eq-MAX_SHOWN-clause-same
returns-then-index-eq-MAX_SHOWN-clause-same c = c.words.ensures.same

pub returns-then-index-eq-MAX_SHOWN-clause-written : goal.returns-then-index-eq-MAX_SHOWN-clause-written
returns-then-index-eq-MAX_SHOWN-clause-written c = c.loop-index.invariant then c.words.ensures.written

pub loop-index-preserved : goal.loop-index-preserved
loop-index-preserved c = c.loop-index.invariant then c.letter.ensures

pub returns-clause-same : goal.returns-clause-same
returns-clause-same c = refl

pub returns-clause-written : goal.returns-clause-written
returns-clause-written c = c.loop-index.invariant
