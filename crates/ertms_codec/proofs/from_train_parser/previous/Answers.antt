use Rattle.std.proofs.Common.{◌≡◌, ◌∙◌, ap, sym, arith}
use Rattle.std.specs.Prelude.{codes}
use Rattle.std.specs.Fmt.{decimal}
use Rattle.ertms_codec.proofs.Leads.{word_0, word_1}
use Rattle.ertms_codec.proofs.WordsLeft.{handed_on}
use Rattle.ertms_codec.proofs.from_train_parser.previous.Goals as goal

pub returns-then-packet-eq0-clause-packet : goal.returns-then-packet-eq0-clause-packet
returns-then-packet-eq0-clause-packet c =
    let none : c.args.packet ≡ 0 = omega arith in
    sym (ap decimal none ∙ word_0)

pub returns-in_err-previous-clause-err : goal.returns-in_err-previous-clause-err
returns-in_err-previous-clause-err c =
    let one : c.args.packet ≡ 1 = omega arith in
    let word : decimal c.args.packet ≡ codes "1" = ap decimal one ∙ word_1 in
    handed_on c.from_residual.result _ _ c.from_residual.ensures.1
    (λ next. rw word (c.in_err-previous.ensures.err next))

pub returns-clause-packet : goal.returns-clause-packet
returns-clause-packet c =
    let one : c.args.packet ≡ 1 = omega arith in
    sym (ap decimal one ∙ word_1)
