use Rattle.std.proofs.Common.{map, string_bytes, take}
use Rattle.rbc_picture.specs.Shown.{IsShownOn}
use Rattle.rbc_picture.specs.Titles.{band_title}
use Rattle.rbc_picture.specs.declared.bands.Band.{Band}
use Rattle.rbc_picture.proofs.bands.Bands.push.Given as goal

abbrev pub invariant-loop-index : goal.invariant-loop-index
invariant-loop-index l = IsShownOn (map (λ (band : Band). band_title l.line band.stretch) (take l.index l.self.all.items))
    (string_bytes l.initial.document) (string_bytes l.document)
