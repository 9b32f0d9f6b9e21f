use Rattle.std.proofs.Common.{◌≡◌, ◌∙◌, ap, arith}
use Rattle.std.specs.Prelude.{codes}
use Rattle.std.specs.Fmt.{decimal}
use Rattle.ertms_codec.proofs.Leads.{word_136, word_146, word_147, from_train_number}
use Rattle.ertms_codec.proofs.WordsLeft.{about_err}
use Rattle.ertms_codec.proofs.from_train_parser.message_of.Goals as goal

pub returns-in-136-clause-err : goal.returns-in-136-clause-err
returns-in-136-clause-err c =
    let word : decimal c.args.number ≡ codes "136" = ap decimal c.in-136.is ∙ word_136 in
    about_err c.report.result (λ wrong first next. rw word (first next)) c.report.ensures.err

pub returns-in-146-clause-err : goal.returns-in-146-clause-err
returns-in-146-clause-err c =
    let word : decimal c.args.number ≡ codes "146" = ap decimal c.in-146.is ∙ word_146 in
    about_err c.acknowledgement.result (λ wrong first next. rw word (first next)) c.acknowledgement.ensures.err

pub returns-in_default-clause-err : goal.returns-in_default-clause-err
returns-in_default-clause-err c =
    let is : c.args.number ≡ 147 = from_train_number c.args.number c.requires (omega (arith, c.in_default)) (omega (arith, c.in_default)) in
    let word : decimal c.args.number ≡ codes "147" = ap decimal is ∙ word_147 in
    about_err c.stop_acknowledgement.result (λ wrong first next. rw word (first next)) c.stop_acknowledgement.ensures.err
