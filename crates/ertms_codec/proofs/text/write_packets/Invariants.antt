use Rattle.std.proofs.Common.{take}
use Rattle.std.specs.List.{flat_map}
use Rattle.std.specs.Fmt.{HasWritten, IsPlainFormatter}
use Rattle.ertms_codec.specs.Texts.{packet_behind}
use Rattle.ertms_codec.proofs.text.write_packets.Given as goal

-- the first packets are written
abbrev pub invariant-loop-index : goal.invariant-loop-index
invariant-loop-index g l =
    IsPlainFormatter l.initial.f → HasWritten g.W.Write.write_str_gives l.initial.f (flat_map packet_behind (take l.index l.packets)) l.f
