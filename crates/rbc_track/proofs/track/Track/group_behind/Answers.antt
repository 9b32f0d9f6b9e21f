use Rattle.rbc_track.proofs.Nearest.{nearest_is}
use Rattle.rbc_track.proofs.track.Track.group_behind.Goals as goal

pub returns : goal.returns
returns c = rw (c.nearest_of.ensures, c.deref.ensures.value, ← c.self.view_is) (nearest_is _ _ _ _ c.self.invariant)
