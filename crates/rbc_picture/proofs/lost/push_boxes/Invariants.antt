use Rattle.std.proofs.Common.{string_bytes, take}
use Rattle.rbc_picture.specs.Panels.{lost_texts}
use Rattle.rbc_picture.specs.Shown.{IsShownOn}
use Rattle.rbc_picture.proofs.lost.push_boxes.Given as goal

abbrev pub invariant-loop-index : goal.invariant-loop-index
invariant-loop-index l = IsShownOn (lost_texts (take l.index l.lost)) (string_bytes l.initial.document) (string_bytes l.document)
