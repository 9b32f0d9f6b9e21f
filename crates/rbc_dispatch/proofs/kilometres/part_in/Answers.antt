use Rattle.std.proofs.Common.{refl}
use Rattle.rbc_dispatch.proofs.kilometres.part_in.Goals as goal

pub returns : goal.returns
returns c = rw (c.part_between.ensures, c.place_in.ensures, c.place_in-2.ensures, c.halves.ensures.before, c.halves.ensures.behind, c.as_bytes.ensures.value) refl
