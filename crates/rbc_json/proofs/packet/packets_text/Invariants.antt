use Rattle.std.proofs.Common.{List, take}
use Rattle.rbc_json.specs.Json.{Json}
use Rattle.rbc_json.specs.Lists.{IsListOf}
use Rattle.rbc_json.specs.Packets.{ArePackets}
use Rattle.rbc_json.proofs.packet.packets_text.Given as goal

-- the values of the packets that were looked at are written
abbrev pub invariant-loop-index : goal.invariant-loop-index
invariant-loop-index l =
    (values : List Json) × IsListOf values l.list × ArePackets l.track l.lrbg (take l.index l.packets) (take l.index l.all) values
