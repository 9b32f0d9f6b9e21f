use Rattle.std.proofs.Common.{take}
use Rattle.rbc_picture.specs.Panels.{ShowEachPart}
use Rattle.rbc_picture.proofs.plan.panels_of.Given as goal

abbrev pub invariant-loop-part : goal.invariant-loop-part
invariant-loop-part l = ShowEachPart l.scene (take l.part-index l.parts) l.panels.items
