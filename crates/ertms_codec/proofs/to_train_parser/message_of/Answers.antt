use Rattle.std.proofs.Common.{◌≡◌, ◌∙◌, ap, sym, arith}
use Rattle.std.specs.Prelude.{codes}
use Rattle.std.specs.Fmt.{decimal}
use Rattle.ertms_codec.specs.Grammar.{FirstWrong, behind_to_train}
use Rattle.ertms_codec.proofs.Leads.{past_head, to_train_number, word_15, word_16, word_18, word_24}
use Rattle.ertms_codec.proofs.WordsLeft.{about_fault, handed_on}
use Rattle.ertms_codec.proofs.to_train_parser.message_of.Goals as goal

pub returns-in_err-head-clause-err : goal.returns-in_err-head-clause-err
returns-in_err-head-clause-err c =
    handed_on c.from_residual.result _ _ c.from_residual.ensures.1 (c.in_err-head.ensures.err _)

pub returns-in_err-stop_at-in-15-clause-err : goal.returns-in_err-stop_at-in-15-clause-err
returns-in_err-stop_at-in-15-clause-err c =
    let word : decimal c.args.number ≡ codes "15" = ap decimal c.in-15.is ∙ word_15 in
    let r = c.in_ok-head.ensures.range in
    handed_on c.from_residual-in_err-stop_at-in-15.result _ _ c.from_residual-in_err-stop_at-in-15.ensures.1
    (rw word (past_head c.in_ok-head.head _ _ r.0 r.1 c.in_ok-head.ensures.ok c.in_err-stop_at-in-15.ensures.err))

pub returns-in_err-id-in-16-clause-err : goal.returns-in_err-id-in-16-clause-err
returns-in_err-id-in-16-clause-err c =
    let word : decimal c.args.number ≡ codes "16" = ap decimal c.in-16.is ∙ word_16 in
    let r = c.in_ok-head.ensures.range in
    handed_on c.from_residual-in_err-id-in-16.result _ _ c.from_residual-in_err-id-in-16.ensures.1
    (rw word (past_head c.in_ok-head.head _ _ r.0 r.1 c.in_ok-head.ensures.ok c.in_err-id-in-16.ensures.err))

pub returns-in_err-id-in-18-clause-err : goal.returns-in_err-id-in-18-clause-err
returns-in_err-id-in-18-clause-err c =
    let word : decimal c.args.number ≡ codes "18" = ap decimal c.in-18.is ∙ word_18 in
    let r = c.in_ok-head.ensures.range in
    handed_on c.from_residual-in_err-id-in-18.result _ _ c.from_residual-in_err-id-in-18.ensures.1
    (rw word (past_head c.in_ok-head.head _ _ r.0 r.1 c.in_ok-head.ensures.ok c.in_err-id-in-18.ensures.err))

pub returns-in_err-packets-in_default-clause-err : goal.returns-in_err-packets-in_default-clause-err
returns-in_err-packets-in_default-clause-err c =
    let not = c.in_default in
    let is = to_train_number c.args.number c.requires (omega (arith, not)) (omega (arith, not)) (omega (arith, not)) in
    let word : decimal c.args.number ≡ codes "24" = ap decimal is ∙ word_24 in
    let r = c.in_ok-head.ensures.range in
    handed_on c.from_residual-in_err-packets-in_default.result _ _ c.from_residual-in_err-packets-in_default.ensures.1
    (about_fault {Q = FirstWrong c.args.words.now.next (behind_to_train (decimal c.args.number)) c.args.words.now.words} _ (λ wrong first. rw word (past_head c.in_ok-head.head _ wrong r.0 r.1 c.in_ok-head.ensures.ok first)) c.in_err-packets-in_default.ensures.err)

pub returns-in_ok-id-in-16-clause-kind : goal.returns-in_ok-id-in-16-clause-kind
returns-in_ok-id-in-16-clause-kind c = sym (ap decimal c.in-16.is ∙ word_16)

pub returns-in_ok-id-in-18-clause-kind : goal.returns-in_ok-id-in-18-clause-kind
returns-in_ok-id-in-18-clause-kind c = sym (ap decimal c.in-18.is ∙ word_18)

pub returns-in_ok-packets-in_default-clause-kind : goal.returns-in_ok-packets-in_default-clause-kind
returns-in_ok-packets-in_default-clause-kind c =
    let not = c.in_default in
    let is = to_train_number c.args.number c.requires (omega (arith, not)) (omega (arith, not)) (omega (arith, not)) in
    sym (ap decimal is ∙ word_24)
