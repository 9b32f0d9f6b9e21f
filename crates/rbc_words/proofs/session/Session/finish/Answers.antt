use Rattle.std.proofs.Common.{rules, ◌≡◌, ◌++◌, ◌∷◌, ◌∙◌, [], List, ℕ, sym, ap, subst, append-nil}
use Rattle.rbc_text.specs.BatchText.{without_empty_end}
use Rattle.rbc_words.specs.UnderWay.{IsDone, IsEnded, GoesOn}
use Rattle.rbc_text.proofs.LinePieces.{no_line_left, line_left}
use Rattle.rbc_words.proofs.Passing.{none_begun, some_begun}
use Rattle.rbc_words.proofs.Courses.{nothing_more, last_written, handed_on}
use Rattle.rbc_words.proofs.session.Session.finish.Goals as goal

-- the line that is left, whole
whole : (ended : List (List ℕ)) (rest : List ℕ) → without_empty_end (ended ++ rest ∷ []) ≡ ended ++ rest ∷ [] → ended ++ (rest ++ []) ∷ [] ≡ without_empty_end (ended ++ rest ∷ [])
whole ended rest left = ap (λ (line : List ℕ). ended ++ line ∷ []) (append-nil rest) ∙ sym left

-- no line is left
pub returns-then-is_empty : goal.returns-then-is_empty
returns-then-is_empty g c = λ old ended rest is.
    let none = none_begun (g.L.LineRule.becomes c.args.rule.now) rest c.args.self.line is.shown (search rules) in
    subst (λ (lines : List (List ℕ)). IsDone (g.L.LineRule.becomes c.args.rule.now) lines [] old (g.W.Write.contents c.args.writer.now)) (sym (no_line_left ended rest none))
    (nothing_more (g.L.LineRule.becomes c.args.rule.now) c.args.self old (g.W.Write.contents c.args.writer.now) ended rest is none c.requires.waiting)

-- the line that is left is refused
pub returns-in_err-end_line : goal.returns-in_err-end_line
returns-in_err-end_line g c = λ old ended rest is.
    let some = some_begun (g.L.LineRule.becomes c.args.rule.now) rest c.args.self.line is.shown (search rules) in
    let lines = whole ended rest (line_left ended rest some) in
    handed_on (g.L.LineRule.becomes c.args.rule.now) (g.L.LineRule.is_wrong c.args.rule.now) _ (without_empty_end (ended ++ rest ∷ [])) old (g.W.Write.contents c.end_line.new.writer)
    c.from_residual.result c.in_err-end_line.field-0.0 c.from_residual.ensures.1
    (subst (λ (ls : List (List ℕ)). IsEnded (g.L.LineRule.becomes c.args.rule.now) (g.L.LineRule.is_wrong c.args.rule.now) ls old (g.W.Write.contents c.end_line.new.writer) c.in_err-end_line.field-0.0) lines
    (c.in_err-end_line.ensures.taken old ended rest is))

pub returns : goal.returns
returns g c = λ old ended rest is.
    let some = some_begun (g.L.LineRule.becomes c.args.rule.now) rest c.args.self.line is.shown (search rules) in
    let lines = whole ended rest (line_left ended rest some) in
    subst (λ (ls : List (List ℕ)). GoesOn (g.L.LineRule.becomes c.args.rule.now) (g.L.LineRule.is_wrong c.args.rule.now) ls old (g.W.Write.contents c.write_out.new.writer) c.write_out.result
    (IsDone (g.L.LineRule.becomes c.args.rule.now) ls [] old (g.W.Write.contents c.write_out.new.writer))) lines
    (last_written (g.L.LineRule.becomes c.args.rule.now) (g.L.LineRule.is_wrong c.args.rule.now) c.end_line.new.self c.write_out.new.self old (g.W.Write.contents c.end_line.new.writer)
    (g.W.Write.contents c.write_out.new.writer) (ended ++ (rest ++ []) ∷ []) c.write_out.result (c.in_ok-end_line.ensures.taken old ended rest is)
    c.write_out.ensures.whole c.write_out.ensures.part c.write_out.ensures.sent c.write_out.ensures.waiting c.write_out.ensures.number c.write_out.ensures.line)
