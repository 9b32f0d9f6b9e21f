use Rattle.std.proofs.Common.{sym, subst}
use Rattle.rbc_versions.specs.Log.{LogName}
use Rattle.rbc_versions.specs.Entries.{AreOf}
use Rattle.rbc_engine.proofs.recorder.RecorderReader.seen.Goals as goal

-- each ticket of the notes is of the log
pub version-requires : goal.version-requires
version-requires g c =
    let log = c.self.inside.log.now in
    let here : AreOf log c.self.inside.notes = subst (λ (l : LogName). AreOf l c.self.inside.notes) (sym c.self.invariant.0) c.self.invariant.1 in
    rw c.in-Some.ensures at c.get.ensures.here log here
