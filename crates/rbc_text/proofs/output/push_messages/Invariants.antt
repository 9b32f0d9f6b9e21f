use Rattle.std.proofs.Common.{◌≡◌, ◌++◌, take}
use Rattle.std.specs.List.{flat_map}
use Rattle.rbc_text.specs.OutputText.{sent_line}
use Rattle.rbc_text.proofs.output.push_messages.Given as goal

abbrev pub invariant-loop-index : goal.invariant-loop-index
invariant-loop-index l = l.text.items ≡ l.fn.text.items ++ flat_map (sent_line l.input) (take l.index l.messages)
