use Rattle.std.proofs.Common.{◌≡◌, ◌++◌, ◌+◌, ◌≤◌, length, map, drop}
use Rattle.std.specs.List.{AllByRecursion}
use Rattle.ertms_codec.specs.PacketsToTrain.{PacketFits}
use Rattle.rbc_settle.specs.Settling.{packet_of}
use Rattle.rbc_settle.proofs.carrying_out.packets_of.Given as goal

-- the packets that are made so far, with those that are left, are all
abbrev pub invariant-loop-change : goal.invariant-loop-change
invariant-loop-change l = record {
  all : l.packets ++ map packet_of (drop l.change-index l.change-items) ≡ map packet_of l.changes;
  fit : AllByRecursion PacketFits l.packets;
  some : 1 ≤ length l.packets;
  most : length l.packets + length (drop l.change-index l.change-items) ≤ 100;
}
