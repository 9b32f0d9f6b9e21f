-- What the memory behind a handle is.
use Rattle.std.specs.Prelude.{Option, Some, None}
use mir.Syntax.{Ty}
use base.Fml.{Fml, ftrue}
use denote.RawPtr.{Ptr}
use Rattle.std.specs.Box.Ownership.{box_owns}
use Rattle.std.specs.Global.{Global}
use Rattle.std.specs.contracts.impls.GlobalAllocator.TheImpl.{ghosts}
use Rattle.rbc_live.specs.declared.desk.LiveDesk.{LiveDesk}
use Rattle.rbc_live.specs.contracts.desk.LiveDesk.{the_row}

-- the one heap, and what lets it take a block back
abbrev pub heap : Global
heap = record { memory = record { seal = record {} } }

abbrev pub chunk : Ty → Ptr → Fml
chunk = ghosts.dealloc_token heap

-- a desk's memory at the pointer, which the C library's `free` takes back, or nothing if there is no desk
abbrev pub live_at : Ptr → Option LiveDesk → Fml
live_at p (Some desk) = box_owns chunk the_row p desk
live_at p None = ftrue
