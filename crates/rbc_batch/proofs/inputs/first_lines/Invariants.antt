use Rattle.std.proofs.Common.{◌≡◌, ◌≤◌, ◌+◌, ◌++◌, length}
use Rattle.rbc_text.specs.BatchText.{lines_of}
use Rattle.ertms_codec.specs.Pieces.{texts_of}
use Rattle.rbc_batch.proofs.inputs.first_lines.Given as goal

-- the lines so far, and those of what is left, are those of the whole
abbrev pub invariant-loop-rest : goal.invariant-loop-rest
invariant-loop-rest l = record {
  cut : texts_of l.lines.items ++ lines_of l.rest ≡ lines_of l.fn.text;
  few : length l.lines.items + length l.rest ≤ length l.fn.text;
  most : length l.lines.items ≤ l.fn.most;
}

abbrev pub decreases-loop-rest : goal.decreases-loop-rest
decreases-loop-rest l = length l.rest
