-- Bands of stops and restrictions.
use Rattle.std.specs.Prelude.{◌≡◌, List, length, map}
use Rattle.rbc_picture.specs.declared.bands.Bands.{Bands}
use Rattle.rbc_picture.specs.declared.stretches.Stretch.{Stretch}

-- There is one band for each stretch, in order, and each band has a lane.
pub record Covers (stretches : List Stretch) (bands : Bands) : Type 0 where
  pub each : map (λ band. band.stretch) bands.all.items ≡ stretches
  pub in_lanes : length bands.lanes.of_items.items ≡ length bands.all.items
