use Rattle.std.proofs.Common.{rules, ◌≡◌, ◌++◌, [], ◌∷◌, None}
use Rattle.rbc_explain.proofs.Lines.{plain_text}
use Rattle.rbc_explain.proofs.log.is_plain.Goals as goal

pub returns-then-last-eq10 : goal.returns-then-last-eq10
returns-then-last-eq10 c = λ is.
    let nowhere : c.memchr.result ≡ None = search rules in
    let feed : c.in-Some.last.now ≡ 10 = search rules in
    let parts : c.args.text.now ≡ c.in-Some.field-0-1.now ++ c.in-Some.last.now ∷ [] = search rules in
    plain_text c.args.text.now c.in-Some.field-0-1.now c.in-Some.last.now c.memchr.result parts feed c.memchr.ensures nowhere
