use Rattle.std.proofs.Common.{rules, ◌≡◌, ◌++◌, ◌∷◌, ◌∙◌, [], List, ℕ, true, false, refl, sym, ap, subst, append-nil}
use Rattle.rbc_text.specs.BatchText.{without_empty_end}
use Rattle.rbc_live.specs.UnderWay.{IsDone, IsEnded, GoesOn}
use Rattle.rbc_text.proofs.LinePieces.{no_line_left, line_left}
use Rattle.rbc_live.proofs.Writing.{pending, nothing_left, handed_on}
use Rattle.rbc_live.proofs.session.Session.finish.Goals as goal

-- the line that is left, whole
whole : (ended : List (List ℕ)) (rest end : List ℕ) → end ≡ [] → without_empty_end (ended ++ rest ∷ []) ≡ ended ++ rest ∷ [] → ended ++ (rest ++ end) ∷ [] ≡ without_empty_end (ended ++ rest ∷ [])
whole ended rest end none left = ap (λ (e : List ℕ). ended ++ (rest ++ e) ∷ []) none ∙ ap (λ (line : List ℕ). ended ++ line ∷ []) (append-nil rest) ∙ sym left

pub returns-then-is_empty : goal.returns-then-is_empty
returns-then-is_empty g c = λ plan wanted old ended rest is.
    let none : c.is_empty.result ≡ true = search rules in
    subst (λ (lines : List (List ℕ)). IsDone plan wanted lines old (g.W.Write.contents c.args.writer.now)) (sym (no_line_left ended rest (c.is_empty.ensures.none rest is.begun none)))
    (nothing_left plan wanted c.args.self old (g.W.Write.contents c.args.writer.now) ended rest is c.requires.waiting)

pub returns-in_err-end_line : goal.returns-in_err-end_line
returns-in_err-end_line g c = λ plan wanted old ended rest is.
    let some : c.is_empty.result ≡ false = search rules in
    let lines = whole ended rest [] refl (line_left ended rest (c.is_empty.ensures.some rest is.begun some)) in
    handed_on _ plan wanted (without_empty_end (ended ++ rest ∷ [])) old (g.W.Write.contents c.end_line.new.writer) c.from_residual.result c.in_err-end_line.field-0.0 c.from_residual.ensures.1
    (subst (λ (ls : List (List ℕ)). IsEnded plan wanted ls old (g.W.Write.contents c.end_line.new.writer) c.in_err-end_line.field-0.0) lines
    (c.in_err-end_line.ensures.taken plan wanted old ended rest is))

pub returns : goal.returns
returns g c = λ plan wanted old ended rest is.
    let some : c.is_empty.result ≡ false = search rules in
    let lines = whole ended rest [] refl (line_left ended rest (c.is_empty.ensures.some rest is.begun some)) in
    subst (λ (ls : List (List ℕ)). GoesOn plan wanted ls old (g.W.Write.contents c.write_out.new.writer) c.write_out.result (IsDone plan wanted ls old (g.W.Write.contents c.write_out.new.writer))) lines
    (c.write_out.ensures.written plan wanted old (ended ++ (rest ++ []) ∷ [])
    (pending plan wanted c.end_line.new.self old (g.W.Write.contents c.end_line.new.writer) (ended ++ (rest ++ []) ∷ []) [] (c.in_ok-end_line.ensures.taken plan wanted old ended rest is)))
