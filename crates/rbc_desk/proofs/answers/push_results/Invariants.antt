use Rattle.std.proofs.Common.{◌≡◌, ◌+◌, ◌++◌, map, take, vec_len}
use Rattle.std.specs.Prelude.{vec_capacity}
use Rattle.rbc_desk.specs.Answers.{result_of}
use Rattle.rbc_desk.proofs.answers.push_results.Given as goal

-- the results so far are pushed, and there is room for the others
abbrev pub invariant-loop-index : goal.invariant-loop-index
invariant-loop-index l = record {
  items : l.results.items ≡ l.fn.results.items ++ map result_of (take l.index l.answers);
  many : vec_len l.results ≡ vec_len l.fn.results + l.index;
  room : vec_capacity l.results ≡ vec_capacity l.fn.results;
}
