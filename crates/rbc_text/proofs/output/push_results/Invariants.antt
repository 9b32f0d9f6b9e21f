use Rattle.std.proofs.Common.{◌≡◌, ◌++◌, ◌+◌, drop}
use Rattle.std.specs.List.{flat_map, enumerate_from}
use Rattle.rbc_text.specs.OutputText.{result_line}
use Rattle.rbc_text.proofs.output.push_results.Given as goal

-- what is written, and the lines of what is left, are all lines
abbrev pub invariant-loop-place : goal.invariant-loop-place
invariant-loop-place l = l.text.items ++ flat_map result_line (enumerate_from (l.place + 1) (drop l.place l.results)) ≡ l.fn.text.items ++ flat_map result_line (enumerate_from 1 l.results)
