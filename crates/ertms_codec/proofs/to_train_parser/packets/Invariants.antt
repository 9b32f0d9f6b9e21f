use Rattle.std.proofs.Common.{◌-◌, length}
use Rattle.ertms_codec.proofs.PacketTexts.{AreRead}
use Rattle.ertms_codec.proofs.to_train_parser.packets.Given as goal

-- the packets so far are read
abbrev pub invariant-loop-words : goal.invariant-loop-words
invariant-loop-words l = AreRead l.packets l.fn.words l.words

abbrev pub decreases-loop-words : goal.decreases-loop-words
decreases-loop-words l = 100 - length l.packets
