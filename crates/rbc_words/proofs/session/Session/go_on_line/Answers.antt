use Rattle.std.proofs.Common.{refl}
use Rattle.rbc_words.proofs.Courses.{on_with, refused_midway}
use Rattle.rbc_words.proofs.session.Session.go_on_line.Goals as goal

-- the line goes on
pub returns-in-Ok-clause-added : goal.returns-in-Ok-clause-added
returns-in-Ok-clause-added g c = λ old ended rest is.
    on_with (g.L.LineRule.becomes c.args.rule.now) c.args.self.now _ old (g.W.Write.contents c.args.writer.now) ended rest c.args.more.now is
    refl refl (c.in-Ok.ensures.added rest is.shown) (c.in-Ok.ensures.text rest is.shown)

-- memory was refused, or the line is wrong
pub returns-in-Err-clause-added : goal.returns-in-Err-clause-added
returns-in-Err-clause-added g c = λ old ended rest is.
    refused_midway (g.L.LineRule.becomes c.args.rule.now) (g.L.LineRule.is_wrong c.args.rule.now) c.args.self.now old (g.W.Write.contents c.args.writer.now) (g.W.Write.contents c.stop.new.writer)
    ended rest c.args.more.now c.in-Err.error c.stop.result (record { number = c.args.self.now.number; line = c.add.new.self; text = c.add.new.text; outlet = c.args.self.now.outlet }) is (c.in-Err.ensures.stopped rest is.shown) c.in-Err.ensures.unchanged refl refl c.stop.ensures
