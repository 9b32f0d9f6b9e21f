use Rattle.std.proofs.Common.{string_bytes, take}
use Rattle.rbc_picture.specs.Panels.{shapes_texts}
use Rattle.rbc_picture.specs.Shown.{IsShownOn}
use Rattle.rbc_picture.proofs.panel.Panel.push_trains.Given as goal

abbrev pub invariant-loop-index : goal.invariant-loop-index
invariant-loop-index l = IsShownOn (shapes_texts (take l.index l.self.trains.items)) (string_bytes l.initial.document) (string_bytes l.document)
