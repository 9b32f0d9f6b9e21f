use Rattle.std.proofs.Common.{◌≡◌, ◌≤◌, ◌-◌, List, ℕ, Option}
use Rattle.std.specs.Io.KnownBytes.{Consumes}
use Rattle.rbc_text.specs.Calls.{max_calls}
use Rattle.rbc_account.proofs.lines.LineReader.fill.Given as goal

-- nothing was read yet, and the call is made again
abbrev pub invariant-loop-piece : goal.invariant-loop-piece
invariant-loop-piece g l = record {
  read : (old : Option (List ℕ)) (batch : List ℕ) → Consumes old (g.R.Read.remaining l.fn.reader) batch → Consumes old (g.R.Read.remaining l.reader) batch;
  line : l.self.line.items ≡ l.fn.self.line.items;
  kept : l.self.piece.items ≡ l.fn.self.piece.items;
  place : l.self.at ≡ l.fn.self.at;
  ended : l.self.ended ≡ l.fn.self.ended;
  made : l.fn.self.calls.made ≤ l.self.calls.made;
  few : l.fn.self.calls.made ≤ max_calls → l.self.calls.made ≤ max_calls;
}

abbrev pub decreases-loop-piece : goal.decreases-loop-piece
decreases-loop-piece g l = max_calls - l.self.calls.made
