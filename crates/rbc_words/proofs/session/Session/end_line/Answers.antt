use Rattle.std.proofs.Common.{◌+◌, ◌++◌, ◌∷◌, [], refl}
use Rattle.rbc_words.proofs.Delivered.{where_ok}
use Rattle.rbc_words.proofs.Courses.{line_over, refused_line, written_now}
use Rattle.rbc_words.proofs.session.Session.end_line.Goals as goal

-- memory was refused, or the line is wrong
pub returns-in-Err-clause-taken : goal.returns-in-Err-clause-taken
returns-in-Err-clause-taken g c = λ old ended rest is.
    refused_line (g.L.LineRule.becomes c.args.rule.now) (g.L.LineRule.is_wrong c.args.rule.now) c.args.self.now old (g.W.Write.contents c.args.writer.now) (g.W.Write.contents c.stop.new.writer)
    ended rest c.args.end.now c.in-Err.error c.stop.result (record { number = c.args.self.now.number; line = c.end.new.self; text = c.end.new.text; outlet = c.args.self.now.outlet }) is
    (c.in-Err.ensures.stopped rest is.shown) c.in-Err.ensures.unchanged refl refl c.stop.ensures

-- there is too little to write
pub returns-then-len-lt-ENOUGH-clause-taken : goal.returns-then-len-lt-ENOUGH-clause-taken
returns-then-len-lt-ENOUGH-clause-taken g c = λ old ended rest is.
    let begun = where_ok c.end.result _ c.in_default.is c.end.ensures.begun in
    line_over (g.L.LineRule.becomes c.args.rule.now) c.args.self.now _ old (g.W.Write.contents c.args.writer.now) ended rest c.args.end.now is refl refl begun.0 begun.1
    (where_ok c.end.result _ c.in_default.is (c.end.ensures.text rest is.shown))

-- there is enough to write
pub returns-clause-taken : goal.returns-clause-taken
returns-clause-taken g c = λ old ended rest is.
    let begun = where_ok c.end.result _ c.in_default.is c.end.ensures.begun in
    let over = line_over (g.L.LineRule.becomes c.args.rule.now) c.args.self.now
    (record { number = c.args.self.now.number + 1; line = c.end.new.self; text = c.end.new.text; outlet = c.args.self.now.outlet })
    old (g.W.Write.contents c.args.writer.now) ended rest c.args.end.now is refl refl begun.0 begun.1 (where_ok c.end.result _ c.in_default.is (c.end.ensures.text rest is.shown)) in
    written_now (g.L.LineRule.becomes c.args.rule.now) (g.L.LineRule.is_wrong c.args.rule.now)
    (record { number = c.args.self.now.number + 1; line = c.end.new.self; text = c.end.new.text; outlet = c.args.self.now.outlet })
    c.write_out.new.self old (g.W.Write.contents c.args.writer.now) (g.W.Write.contents c.write_out.new.writer) (ended ++ (rest ++ c.args.end.now) ∷ []) c.write_out.result over
    c.write_out.ensures.whole c.write_out.ensures.part c.write_out.ensures.sent c.write_out.ensures.waiting c.write_out.ensures.number c.write_out.ensures.line
