use Rattle.std.proofs.Common.{◌-◌, ◌^◌, List, ℕ}
use Rattle.rbc_account.specs.Lines.{HasRead}
use Rattle.rbc_account.specs.UnderWay.{IsUnderWay, taken_by}
use Rattle.rbc_account.proofs.tell.tell_lines.Given as goal

-- the lines that were given are taken
abbrev pub invariant-loop-lines : goal.invariant-loop-lines
invariant-loop-lines g l =
    (lines : List (List ℕ)) × HasRead (g.R.Read.remaining l.fn.reader) (g.R.Read.remaining l.reader) l.lines lines
    × IsUnderWay (g.F.LogForm.is_text l.fn.form) l.fn.wanted l.fn.account lines l.log (g.W.Write.contents l.fn.writer) (g.W.Write.contents l.writer)

abbrev pub decreases-loop-lines : goal.decreases-loop-lines
decreases-loop-lines g l = 2 ^ 64 - taken_by l.log.account
