use Rattle.std.proofs.Common.{◌≡◌, map, take}
use Rattle.rbc_picture.specs.declared.bands.Band.{Band}
use Rattle.rbc_picture.proofs.bands.all_bands.Given as goal

abbrev pub invariant-loop-stretch : goal.invariant-loop-stretch
invariant-loop-stretch l = map (λ (band : Band). band.stretch) l.bands.items ≡ take l.stretch-index l.stretches
