use Rattle.std.proofs.Common.{string_bytes, take}
use Rattle.std.specs.List.{flat_map}
use Rattle.rbc_picture.specs.Panels.{panel_texts}
use Rattle.rbc_picture.specs.Shown.{IsShownOn}
use Rattle.rbc_picture.proofs.plan.Plan.push_panels.Given as goal

abbrev pub invariant-loop-panel : goal.invariant-loop-panel
invariant-loop-panel l = IsShownOn (flat_map panel_texts (take l.panel-index l.self.panels.items)) (string_bytes l.initial.document) (string_bytes l.document)
