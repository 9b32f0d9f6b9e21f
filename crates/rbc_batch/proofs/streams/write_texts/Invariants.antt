use Rattle.std.proofs.Common.{◌≡◌, ◌<◌, length, take}
use Rattle.std.specs.Io.KnownBytes.{Appends}
use Rattle.rbc_batch.specs.Parts.{joined}
use Rattle.rbc_batch.proofs.streams.write_texts.Given as goal

abbrev pub invariant-loop-text : goal.invariant-loop-text
invariant-loop-text g l = record {
  sent : l.sent ≡ length (joined (take l.text-index l.texts));
  out : Appends (g.W.Write.contents l.fn.writer) (g.W.Write.contents l.writer) (joined (take l.text-index l.texts));
  interruptions : l.interruptions < 1000;
}
