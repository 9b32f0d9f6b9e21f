use Rattle.std.proofs.Common.{◌≡◌, ◌≤◌, ◌+◌, ◌++◌, ℕ, List, Option, length}
use Rattle.std.specs.List.{slice_split}
use Rattle.rbc_text.specs.BatchText.{is_line_feed}
use Rattle.ertms_codec.specs.Pieces.{pieces_behind, text_behind, length_left}
use Rattle.rbc_text.specs.EndedLines.{joined}
use Rattle.rbc_words.specs.UnderWay.{IsUnderWay}
use Rattle.rbc_words.proofs.session.Session.take_piece.Given as goal

-- what was taken of the piece, and the pieces of what is left, are the pieces of the whole
abbrev pub invariant-loop-left : goal.invariant-loop-left
invariant-loop-left g l = record {
  taken : (old : Option (List ℕ)) (ended : List (List ℕ)) (rest : List ℕ) → IsUnderWay (g.L.LineRule.becomes l.fn.rule) l.fn.self old (g.W.Write.contents l.fn.writer) ended rest
      → (lines : List (List ℕ)) × (begun : List ℕ) × (ended ++ joined rest (slice_split is_line_feed l.fn.piece) ≡ lines ++ joined begun (pieces_behind 10 l.left))
      × IsUnderWay (g.L.LineRule.becomes l.fn.rule) l.self old (g.W.Write.contents l.writer) lines begun;
  number : l.self.number + length (text_behind l.left) ≤ l.fn.self.number + length l.fn.piece;
}

abbrev pub decreases-loop-left : goal.decreases-loop-left
decreases-loop-left g l = length_left l.left
