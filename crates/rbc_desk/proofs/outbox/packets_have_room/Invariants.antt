use Rattle.std.proofs.Common.{take}
use Rattle.std.specs.List.{flat_map}
use Rattle.ertms_codec.specs.Layout.{HoldValues}
use Rattle.ertms_codec.specs.PacketsToTrain.{fields_of_packet}
use Rattle.rbc_desk.proofs.outbox.packets_have_room.Given as goal

-- those of the packets so far have room
abbrev pub invariant-loop-index : goal.invariant-loop-index
invariant-loop-index l = HoldValues (flat_map fields_of_packet (take l.index l.packets))
