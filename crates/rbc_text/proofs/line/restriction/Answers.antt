use Rattle.rbc_text.proofs.LineWords.{two_words, one_more, no_restriction}
use Rattle.rbc_text.proofs.line.restriction.Goals as goal

-- a sixth word is there
pub returns-in-Some : goal.returns-in-Some
returns-in-Some c =
    let last = two_words c.in_ok-behind-4.field-0.now _ _ c.in-Some.field-0 c.cut-5.ensures.pieces c.in-Some.is in
    let from_fourth = one_more c.in_ok-behind-3.field-0.now _ _ c.in_ok-behind-4.field-0 _ c.cut-4.ensures.pieces c.in_ok-behind-4.was last.2 in
    let from_third = one_more c.in_ok-behind-2.field-0.now _ _ c.in_ok-behind-3.field-0 _ c.cut-3.ensures.pieces c.in_ok-behind-3.was from_fourth in
    let from_second = one_more c.in_ok-behind.field-0.now _ _ c.in_ok-behind-2.field-0 _ c.cut-2.ensures.pieces c.in_ok-behind-2.was from_third in
    no_restriction _ _ _ _ _ _ _ _ (one_more c.args.arguments.now _ _ c.in_ok-behind.field-0 _ c.cut.ensures.pieces c.in_ok-behind.was from_second)
