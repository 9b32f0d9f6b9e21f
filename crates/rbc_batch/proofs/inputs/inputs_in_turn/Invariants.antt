use Rattle.std.proofs.Common.{◌++◌, List, drop}
use Rattle.std.specs.List.{All}
use Rattle.rbc_rule.specs.declared.input.Input.{Input}
use Rattle.rbc_rule.specs.Inputs.{Fits}
use Rattle.rbc_text.specs.BatchText.{AreInputs}
use Rattle.ertms_codec.specs.Pieces.{texts_of}
use Rattle.rbc_batch.proofs.inputs.inputs_in_turn.Given as goal

-- the inputs so far, and any inputs of the lines that are left, are inputs of all
abbrev pub invariant-loop-line : goal.invariant-loop-line
invariant-loop-line l = record {
  onward : (more : List Input) → AreInputs (texts_of (drop l.line-index l.lines)) more → AreInputs (texts_of l.lines) (l.inputs.items ++ more);
  fit : All Fits l.inputs.items;
}
