use Rattle.std.proofs.Common.{rules, ◌≡◌, Some, None, sym, ap, ◌∙◌, subst}
use Rattle.std.specs.Prelude.{slice_get}
use Rattle.rbc_text.specs.BatchText.{words_of}
use Rattle.ertms_codec.specs.Pieces.{pieces_behind}
use Rattle.rbc_words.proofs.WordsAt.{nothing_left, next_left}
use Rattle.rbc_words.proofs.report.word_at.Goals as goal

-- there are too few words
pub returns-in_err-left : goal.returns-in_err-left
returns-in_err-left c =
    let none : c.from_residual.result ≡ None = search rules in
    let left : c.words.left ≡ None = search rules in
    nothing_left (words_of c.args.line.now) c.words.counter c.args.behind c.from_residual.result none (sym (ap (pieces_behind 32) left) ∙ c.words.invariant) (search rules)

pub returns-in_err-left-2 : goal.returns-in_err-left-2
returns-in_err-left-2 c =
    let none : c.from_residual-in_err-left-2.result ≡ None = search rules in
    let left : c.words.left ≡ None = search rules in
    nothing_left (words_of c.args.line.now) c.words.counter c.args.behind c.from_residual-in_err-left-2.result none (sym (ap (pieces_behind 32) left) ∙ c.words.invariant) (search rules)

-- a word is passed over
pub words-preserved : goal.words-preserved
words-preserved c =
    (next_left (words_of c.args.line.now) c.words.counter c.cut.result.0.now (pieces_behind 32 c.cut.result.1)
    (sym c.cut.ensures.pieces ∙ sym (ap (pieces_behind 32) c.in_ok-left.was) ∙ c.words.invariant)).1

pub returns : goal.returns
returns c =
    let here : c.words.counter ≡ c.args.behind = search rules in
    subst (λ k. Some c.cut-2.result.0.now ≡ slice_get (words_of c.args.line.now) k) here
    (next_left (words_of c.args.line.now) c.words.counter c.cut-2.result.0.now (pieces_behind 32 c.cut-2.result.1)
    (sym c.cut-2.ensures.pieces ∙ sym (ap (pieces_behind 32) c.in_ok-left-2.was) ∙ c.words.invariant)).0
