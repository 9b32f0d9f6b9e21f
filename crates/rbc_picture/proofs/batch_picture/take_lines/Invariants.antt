use Rattle.std.proofs.Common.{◌≡◌, ◌-◌, ◌^◌, List, ℕ, [], length}
use Rattle.rbc_track.specs.Plan.{Plan}
use Rattle.rbc_account.specs.Lines.{HasRead}
use Rattle.rbc_picture.specs.Drawn.{HasTaken, lines_taken}
use Rattle.rbc_picture.proofs.batch_picture.take_lines.Given as goal

-- the lines that were given are counted, and the first of them are taken
abbrev pub invariant-loop-lines : goal.invariant-loop-lines
invariant-loop-lines g l =
    (lines : List (List ℕ)) × HasRead (g.R.Read.remaining l.fn.input) (g.R.Read.remaining l.input) l.lines lines × (l.count ≡ length lines)
    × ((plan : Plan) → HasTaken plan l.fn.account [] → HasTaken plan l.account (lines_taken l.after lines))

abbrev pub decreases-loop-lines : goal.decreases-loop-lines
decreases-loop-lines g l = 2 ^ 64 - l.count
