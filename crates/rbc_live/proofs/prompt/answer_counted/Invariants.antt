use Rattle.std.proofs.Common.{◌≡◌, ◌≤◌, ◌+◌, ◌-◌, ◌*◌, ◌++◌, ◌∷◌, [], List, ℕ}
use Rattle.std.specs.List.{slice_split}
use Rattle.std.specs.Io.KnownBytes.{Consumes}
use Rattle.rbc_text.specs.BatchText.{is_line_feed}
use Rattle.rbc_text.specs.Calls.{max_calls}
use Rattle.rbc_live.specs.UnderWay.{IsUnderWay, IsWaiting}
use Rattle.rbc_live.proofs.prompt.answer_counted.Given as goal

-- all lines that have ended are answered, and the next one has begun
abbrev pub invariant-loop-alloc : goal.invariant-loop-alloc
invariant-loop-alloc g l = record {
  read : (batch : List ℕ) × (ended : List (List ℕ)) × (rest : List ℕ) × Consumes (g.R.Read.remaining l.fn.reader) (g.R.Read.remaining l.reader) batch
      × (slice_split is_line_feed batch ≡ ended ++ rest ∷ [])
      × IsUnderWay l.fn.desk.track l.fn.wanted l.session (g.W.Write.contents l.fn.writer) (g.W.Write.contents l.writer) ended rest;
  waiting : IsWaiting l.session;
  number : l.session.number ≤ 65536 * l.calls.made + 1;
  few : l.calls.made ≤ max_calls;
}

abbrev pub decreases-loop-alloc : goal.decreases-loop-alloc
decreases-loop-alloc g l = max_calls - l.calls.made
