use Rattle.std.proofs.Common.{refl}
use Rattle.rbc_account.proofs.Reading.{line_begun, refused_line, handed_on, not_cut, was_filled, has_ended, bare_line}
use Rattle.rbc_account.proofs.lines.LineReader.advance.Goals as goal

-- the line has not begun
pub loop-self-init : goal.loop-self-init
loop-self-init g c = λ old lines is.
    line_begun old (g.R.Read.remaining c.args.reader.now) c.args.self.now _ lines is c.if-self.false refl refl refl refl c.clear.ensures.items

-- memory was refused
pub returns-in_err-cut_line : goal.returns-in_err-cut_line
returns-in_err-cut_line g c = λ old lines is.
    refused_line old (g.R.Read.remaining c.loop-self.reader) c.cut_line.new.self lines c.from_residual.result c.from_residual.ensures.1
    (c.in_err-cut_line.ensures.cut old (g.R.Read.remaining c.loop-self.reader) lines (c.loop-self.invariant old lines is))

-- no piece was read
pub returns-in_err-fill : goal.returns-in_err-fill
returns-in_err-fill g c = λ old lines is.
    let cut = not_cut old (g.R.Read.remaining c.loop-self.reader) c.cut_line.new.self lines c.in_ok-cut_line.field-0 c.if-not-branch.true
    (c.in_ok-cut_line.ensures.cut old (g.R.Read.remaining c.loop-self.reader) lines (c.loop-self.invariant old lines is)) in
    handed_on old (g.R.Read.remaining c.fill.new.reader) c.fill.new.self lines c.from_residual-in_err-fill.result c.in_err-fill.field-0.0 c.from_residual-in_err-fill.ensures.1
    (c.in_err-fill.ensures.filled old lines cut.0 cut.1)

-- the reader has ended
pub returns-then-not-branch-2 : goal.returns-then-not-branch-2
returns-then-not-branch-2 g c = λ old lines is.
    let cut = not_cut old (g.R.Read.remaining c.loop-self.reader) c.cut_line.new.self lines c.in_ok-cut_line.field-0 c.if-not-branch.true
    (c.in_ok-cut_line.ensures.cut old (g.R.Read.remaining c.loop-self.reader) lines (c.loop-self.invariant old lines is)) in
    let bare = bare_line c.is_empty.result c.line.result.now c.fill.new.self.line.items c.is_empty.ensures c.line.ensures in
    has_ended old (g.R.Read.remaining c.fill.new.reader) c.fill.new.self _ lines c.in_ok-fill.field-0 c.is_empty.result c.if-not-branch-2.true
    (c.in_ok-fill.ensures.filled old lines cut.0 cut.1) refl refl refl bare.0 bare.1

-- a piece was read
pub loop-self-preserved : goal.loop-self-preserved
loop-self-preserved g c = λ old lines is.
    let cut = not_cut old (g.R.Read.remaining c.loop-self.reader) c.cut_line.new.self lines c.in_ok-cut_line.field-0 c.if-not-branch.true
    (c.in_ok-cut_line.ensures.cut old (g.R.Read.remaining c.loop-self.reader) lines (c.loop-self.invariant old lines is)) in
    was_filled old (g.R.Read.remaining c.fill.new.reader) c.fill.new.self lines c.in_ok-fill.field-0 c.if-not-branch-2.false (c.in_ok-fill.ensures.filled old lines cut.0 cut.1)
