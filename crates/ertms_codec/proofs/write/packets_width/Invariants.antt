use Rattle.std.proofs.Common.{◌≡◌, ◌≤◌, ◌*◌, take}
use Rattle.std.specs.List.{flat_map}
use Rattle.ertms_codec.specs.PacketsToTrain.{fields_of_packet}
use Rattle.ertms_codec.specs.Layout.{width_of}
use Rattle.ertms_codec.proofs.write.packets_width.Given as goal

-- the width of the first packets
abbrev pub invariant-loop-part : goal.invariant-loop-part
invariant-loop-part l = record { value : l.width ≡ width_of (flat_map fields_of_packet (take l.part-index l.packets)); small : l.width ≤ 71 * l.part-index }
