use Rattle.std.proofs.Common.{rules, ◌≡◌, ◌≤◌, ◌<◌, ◌++◌, ◌∷◌, false, [], refl, sym, ◌∙◌, arith}
use Rattle.std.proofs.KnownBytes.{Appends-nil, Consumes-nil, Consumes-trans, Consumes-kept}
use Rattle.rbc_text.specs.Streams.{IsAllRead}
use Rattle.rbc_text.specs.BatchText.{is_line_feed, without_empty_end}
use Rattle.rbc_text.specs.Calls.{max_calls}
use Rattle.rbc_text.proofs.LinePieces.{one_piece_more}
use Rattle.rbc_words.proofs.Courses.{at_start}
use Rattle.rbc_text.proofs.Calling.{given_up}
use Rattle.rbc_words.proofs.Ending.{finished, stopped, not_read, called_to_end, called_to_fault}
use Rattle.rbc_words.proofs.filter.filter_counted.Goals as goal

-- nothing is read
pub loop-alloc-init : goal.loop-alloc-init
loop-alloc-init g c =
    let session = c.new-session.ensures in
    record {
      read = (
        [],
        [],
        [],
        Consumes-nil (g.R.Read.remaining c.args.reader.now),
        refl,
        at_start (g.L.LineRule.becomes c.args.rule.now) c.new-session.result (g.W.Write.contents c.args.writer.now) (Appends-nil (g.W.Write.contents c.args.writer.now))
            session.number session.line.0 session.line.1 session.waiting.0 session.sent,
      );
      waiting = session.waiting;
      number = let one = session.number in omega (arith, one);
      few = let none = c.requires in omega (arith, none);
    }

-- all is read
pub returns-in-Ok-eq0-clause-filtered : goal.returns-in-Ok-eq0-clause-filtered
returns-in-Ok-eq0-clause-filtered g c =
    let (batch, ended, rest, read, e, is) = c.loop-alloc.invariant.read in
    let all : IsAllRead (g.R.Read.remaining c.args.reader.now) (g.R.Read.remaining c.read.new.reader) batch = search rules in
    finished (g.L.LineRule.becomes c.args.rule.now) (g.L.LineRule.is_wrong c.args.rule.now) (g.R.Read.remaining c.args.reader.now) (g.R.Read.remaining c.read.new.reader)
    (g.W.Write.contents c.args.writer.now) (g.W.Write.contents c.finish.new.writer)
    batch ended rest c.finish.result all e (c.finish.ensures (g.W.Write.contents c.args.writer.now) ended rest is)

pub returns-in-Ok-eq0-clause-called : goal.returns-in-Ok-eq0-clause-called
returns-in-Ok-eq0-clause-called g c =
    let (batch, ended, rest, read, e, is) = c.loop-alloc.invariant.read in
    let sound : c.read.new.self.failed ≡ false = search rules in
    called_to_end (g.L.LineRule.becomes c.args.rule.now) (g.L.LineRule.is_wrong c.args.rule.now) (without_empty_end (ended ++ rest ∷ [])) (g.W.Write.contents c.args.writer.now)
    (g.W.Write.contents c.finish.new.writer) c.read.new.self sound _ c.finish.result (c.finish.ensures (g.W.Write.contents c.args.writer.now) ended rest is)

-- a fault at the lines of a piece
pub returns-in_err-take_piece-in-Ok-clause-filtered : goal.returns-in_err-take_piece-in-Ok-clause-filtered
returns-in_err-take_piece-in-Ok-clause-filtered g c =
    let (batch, ended, rest, read, e, is) = c.loop-alloc.invariant.read in
    stopped (g.L.LineRule.becomes c.args.rule.now) (g.L.LineRule.is_wrong c.args.rule.now) (g.R.Read.remaining c.args.reader.now) (g.R.Read.remaining c.read.new.reader)
    (g.W.Write.contents c.args.writer.now) (g.W.Write.contents c.take_piece.new.writer)
    _ _ c.from_residual.result c.in_err-take_piece-in-Ok.field-0.0 c.from_residual.ensures.1
    (Consumes-trans (g.R.Read.remaining c.args.reader.now) (g.R.Read.remaining c.loop-alloc.reader) (g.R.Read.remaining c.read.new.reader) batch _ read c.in-Ok.ensures.bytes.0)
    (one_piece_more is_line_feed batch _ ended rest e)
    (c.in_err-take_piece-in-Ok.ensures.taken (g.W.Write.contents c.args.writer.now) ended rest is)

pub returns-in_err-take_piece-in-Ok-clause-called : goal.returns-in_err-take_piece-in-Ok-clause-called
returns-in_err-take_piece-in-Ok-clause-called g c =
    let (batch, ended, rest, read, e, is) = c.loop-alloc.invariant.read in
    let sound : c.read.new.self.failed ≡ false = search rules in
    called_to_fault (g.L.LineRule.becomes c.args.rule.now) (g.L.LineRule.is_wrong c.args.rule.now) _ (g.W.Write.contents c.args.writer.now) (g.W.Write.contents c.take_piece.new.writer)
    c.read.new.self sound c.from_residual.result c.in_err-take_piece-in-Ok.field-0.0 c.from_residual.ensures.1
    (c.in_err-take_piece-in-Ok.ensures.taken (g.W.Write.contents c.args.writer.now) ended rest is)

-- the reader is given up
pub returns-clause-filtered : goal.returns-clause-filtered
returns-clause-filtered g c =
    let (batch, ended, rest, read, e, is) = c.loop-alloc.invariant.read in
    not_read (g.L.LineRule.becomes c.args.rule.now) (g.L.LineRule.is_wrong c.args.rule.now) (g.R.Read.remaining c.args.reader.now) (g.R.Read.remaining c.loop-alloc.reader)
    (g.W.Write.contents c.args.writer.now) (g.W.Write.contents c.loop-alloc.writer)
    batch ended rest c.loop-alloc.session read e is c.loop-alloc.invariant.waiting

pub returns-clause-called : goal.returns-clause-called
returns-clause-called g c = given_up c.loop-alloc.calls c.loop-alloc.invariant.few (sym c.may_go_on.ensures ∙ c.loop-alloc-test.false)

-- a piece is taken
pub loop-alloc-preserved-in-Continue-1 : goal.loop-alloc-preserved-in-Continue-1
loop-alloc-preserved-in-Continue-1 g c =
    let (batch, ended, rest, read, e, is) = c.loop-alloc.invariant.read in
    let taken = c.in_ok-take_piece-in-Ok.ensures.taken (g.W.Write.contents c.args.writer.now) ended rest is in
    let before = c.loop-alloc.invariant.number in
    let made = c.read.ensures.made in
    let count : c.in-Ok.count ≤ 65536 = search rules in
    let few : c.loop-alloc.calls.made < max_calls = search rules in
    record {
      read = (
        batch ++ _,
        taken.0,
        taken.1,
        Consumes-trans (g.R.Read.remaining c.args.reader.now) (g.R.Read.remaining c.loop-alloc.reader) (g.R.Read.remaining c.read.new.reader) batch _ read c.in-Ok.ensures.bytes.0,
        one_piece_more is_line_feed batch _ ended rest e ∙ taken.2,
        taken.3,
      );
      waiting = c.in_ok-take_piece-in-Ok.ensures.waiting;
      number = search rules;
      few = omega (arith, made, few);
    }

-- the call is made again
pub loop-alloc-preserved : goal.loop-alloc-preserved
loop-alloc-preserved g c =
    let (batch, ended, rest, read, e, is) = c.loop-alloc.invariant.read in
    let before = c.loop-alloc.invariant.number in
    let made = c.read.ensures.made in
    let few : c.loop-alloc.calls.made < max_calls = search rules in
    record {
      read = (
        batch,
        ended,
        rest,
        Consumes-kept (g.R.Read.remaining c.args.reader.now) (g.R.Read.remaining c.loop-alloc.reader) (g.R.Read.remaining c.read.new.reader) batch read c.in-Err.ensures.bytes,
        e,
        is,
      );
      waiting = c.loop-alloc.invariant.waiting;
      number = omega (arith, before, made);
      few = omega (arith, made, few);
    }
