-- What a train is told fits the fields of its message.
use Rattle.std.specs.Prelude.{◌≤◌}
use Rattle.rbc_settle.specs.Told.{Edge, Part}

-- each field of an edge has room for its value
pub record IsEdgeInField (edge : Edge) : Type 0 where
  pub dir : edge.dir ≤ 2
  pub scale : edge.scale ≤ 2
  pub distance : edge.distance ≤ 32767

-- each field of a part of a line has room for its value
pub record IsPartInField (part : Part) : Type 0 where
  pub dir : part.dir ≤ 2
  pub scale : part.scale ≤ 2
  pub start : part.start ≤ 32767
  pub length : part.length ≤ 32767
  pub speed : part.speed ≤ 120
