use base.Fraction.{full_share}
use base.Shift.{Keyless}
use mir.Raw.{raw}
use denote.Memory.{lone}
use denote.RawPtr.{Ptr, block_ptr, null_ptr}
use denote.Param.Send.{IsSend, part_keyless}
use Rattle.std.specs.Prelude.{Option, Some, None}
use Rattle.std.proofs.Crossing.{frees}
use Rattle.rbc_live.specs.declared.desk.LiveDesk.{LiveDesk}
use Rattle.rbc_live.specs.contracts.desk.LiveDesk as row
use Rattle.rbc_live.proofs.desk.LiveDesk.TheSendSync as crossing
use Rattle.rbc_c.specs.DeskMemory.{heap, live_at}
use Rattle.rbc_c.specs.contracts.desk_pointer.DeskPointer.{the_row}

at_keyless : (p : Ptr) (d : Option LiveDesk) → Keyless (live_at p d)
at_keyless p None = tt
at_keyless null_ptr (Some x) = (tt, frees.frees heap (raw (lone (row.the_row).mir)) null_ptr)
at_keyless (block_ptr b o) (Some x) = (part_keyless row.the_row crossing.the_send full_share x b o, frees.frees heap (raw (lone (row.the_row).mir)) (block_ptr b o))

pub send : IsSend the_row
send = record { owned = λ s vs. ((λ vss. (tt, (tt, tt))), at_keyless s.at s.live); leaving = λ k d w. tt }
