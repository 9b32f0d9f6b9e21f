use Rattle.std.proofs.Common.{◌≡◌, ◌<◌, ◌^◌, length, take}
use Rattle.rbc_batch.specs.Parts.{joined}
use Rattle.rbc_batch.proofs.rendering.check_length.Given as goal

abbrev pub invariant-loop-text : goal.invariant-loop-text
invariant-loop-text l = record {
  length : l.length ≡ length (joined (take l.text-index l.texts));
  fits : l.length < 2 ^ 64;
}
