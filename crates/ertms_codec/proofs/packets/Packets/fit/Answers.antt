use Rattle.std.proofs.Common.{IsTrue, ◌↔◌, ◌<◌, List, ◌∷◌, length, arith, rules, Bool}
use Rattle.std.specs.List.{All}
use Rattle.std.proofs.lemmas.List.Elements.{All-from_recursion, recursion_from_All}
use Rattle.ertms_codec.specs.declared.packets.Part.{Part}
use Rattle.ertms_codec.specs.PacketsToTrain.{most_packets, PacketFits, ArePacketsThatFit}
use Rattle.ertms_codec.proofs.packets.Packets.fit.Goals as goal

-- whether all but the first fit decides it, where the first fits
fit : (first : Part) (more : List Part) → length more < most_packets → PacketFits first → (test : Bool) → IsTrue test ↔ All PacketFits more → IsTrue test ↔ ArePacketsThatFit (first ∷ more)
fit first more few fits test tells = (
  λ is. record { some = omega arith; most = omega arith; each = (fits, recursion_from_All PacketFits more (tells.0 is)) },
  λ are. tells.1 (All-from_recursion PacketFits more are.each.1),
)

pub returns-then-fits : goal.returns-then-fits
returns-then-fits c =
    rw (← c.self.view_is) (fit c.self.inside.first c.self.inside.more.items (search rules) (c.fits.ensures.0 c.if-fits.true) c.all_fit.result (rw c.deref.ensures.value at c.all_fit.ensures))
