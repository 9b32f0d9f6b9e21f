use Rattle.std.proofs.Common.{rules, ◌≡◌, true, false, refl, sym, ◌∙◌}
use Rattle.std.proofs.lemmas.Result.{IfOk-weaker}
use Rattle.rbc_live.proofs.LongMessages.{with_return, with_bad_digit, with_digits}
use Rattle.rbc_live.proofs.stand_in.message.Goals as goal

-- a carriage return
pub returns-then-not-has_no_return-clause-alike : goal.returns-then-not-has_no_return-clause-alike
returns-then-not-has_no_return-clause-alike c = λ line words.
    let bad : c.has_no_return.result ≡ false = search rules in
    IfOk-weaker c.bad_line.result _ _ (λ kept is. with_return kept.items line c.args.word.now is words (sym c.has_no_return.ensures ∙ bad)) c.bad_line.ensures

-- a byte that is no digit
pub returns-then-not-are_digits-clause-alike : goal.returns-then-not-are_digits-clause-alike
returns-then-not-are_digits-clause-alike c = λ line words.
    let none : c.has_no_return.result ≡ true = search rules in
    let bad : c.are_digits.result ≡ false = search rules in
    IfOk-weaker c.joined.result _ _ (λ kept is.
    with_bad_digit kept.items line c.args.word.now is words (search rules) (sym c.has_no_return.ensures ∙ none) (sym c.are_digits.ensures ∙ bad)) c.joined.ensures

-- digits alone
pub returns-clause-alike : goal.returns-clause-alike
returns-clause-alike c = λ line words.
    let none : c.has_no_return.result ≡ true = search rules in
    let all : c.are_digits.result ≡ true = search rules in
    IfOk-weaker c.joined-2.result _ _ (λ kept is.
    with_digits kept.items line c.args.word.now _ is words refl c.requires (sym c.has_no_return.ensures ∙ none) (sym c.are_digits.ensures ∙ all)) c.joined-2.ensures
