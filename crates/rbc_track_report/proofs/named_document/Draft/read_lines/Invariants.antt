use Rattle.rbc_track_report.specs.Drafts.{IsReadOn, IsInRange}
use Rattle.rbc_track_report.proofs.named_document.Draft.read_lines.Given as goal

abbrev pub invariant-loop-index : goal.invariant-loop-index
invariant-loop-index l = (IsInRange l.fn.self → IsInRange l.self) × IsReadOn l.fn.self l.self
