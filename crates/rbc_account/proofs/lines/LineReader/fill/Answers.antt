use Rattle.std.proofs.Common.{rules, ◌≡◌, ◌∙◌, ◌≤◌, ◌<◌, false, sym, ap, arith}
use Rattle.std.proofs.KnownBytes.{Consumes-trans}
use Rattle.rbc_text.specs.Calls.{max_calls}
use Rattle.rbc_text.specs.declared.calls.Calls.{Calls}
use Rattle.rbc_text.proofs.Calling.{given_up}
use Rattle.rbc_account.proofs.Reading.{take_few, piece_read, first_with_piece, ended_read, refused_piece}
use Rattle.rbc_account.proofs.lines.LineReader.fill.Goals as goal

-- a piece was read
pub returns-in-Ok-clause-filled : goal.returns-in-Ok-clause-filled
returns-in-Ok-clause-filled g c = λ old lines is none.
    let loop = c.loop-piece.invariant in
    let count : c.in-Ok.count ≤ 65536 = search rules in
    let sound : c.read.new.self.failed ≡ false = search rules in
    let below : c.loop-piece.self.calls.made < max_calls = search rules in
    let made = c.read.ensures.made in
    let so_far = loop.made in
    let calls = c.keep.ensures.calls in
    piece_read old (g.R.Read.remaining c.args.reader.now) (g.R.Read.remaining c.read.new.reader) c.args.self.now c.keep.new.self lines _ is none
    (Consumes-trans old (g.R.Read.remaining c.loop-piece.reader) (g.R.Read.remaining c.read.new.reader) is.batch _ (loop.read old is.batch is.read) c.in-Ok.ensures.bytes.0)
    (take_few c.in-Ok.count _ count)
    (let now = ap (λ (k : Calls). k.made) calls in omega (arith, now, made, so_far))
    (ap (λ (k : Calls). k.failed) calls ∙ sound)
    (let now = ap (λ (k : Calls). k.made) calls in omega (arith, now, made, below))
    (ap (λ line. line.items) c.keep.ensures.line ∙ loop.line)
    (c.keep.ensures.ended ∙ loop.ended)
    c.in_ok-keep-in-Ok.ensures.piece

-- memory was refused for it
pub returns-in_err-keep-in-Ok-clause-filled : goal.returns-in_err-keep-in-Ok-clause-filled
returns-in_err-keep-in-Ok-clause-filled g c = λ old lines is none.
    refused_piece old (g.R.Read.remaining c.read.new.reader) c.keep.new.self lines c.from_residual.result c.from_residual.ensures.1
    (first_with_piece old (g.R.Read.remaining c.args.reader.now) (g.R.Read.remaining c.read.new.reader) c.args.self.now lines _ is none
    (Consumes-trans old (g.R.Read.remaining c.loop-piece.reader) (g.R.Read.remaining c.read.new.reader) is.batch _ (c.loop-piece.invariant.read old is.batch is.read) c.in-Ok.ensures.bytes.0))

-- the reader is given up
pub returns-clause-filled : goal.returns-clause-filled
returns-clause-filled g c = λ old lines is none. (
  ended_read old (g.R.Read.remaining c.args.reader.now) (g.R.Read.remaining c.loop-piece.reader) c.args.self.now lines is none (c.loop-piece.invariant.read old is.batch is.read),
  given_up c.loop-piece.self.calls (c.loop-piece.invariant.few is.calls.few) (sym c.may_go_on.ensures ∙ c.loop-piece-test.false),
)
