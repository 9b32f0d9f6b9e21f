use Rattle.std.proofs.Common.{◌≡◌, ◌∙◌, ◌++◌, ap, sym, rules, string_bytes}
use Rattle.std.specs.Str.{chars}
use Rattle.std.proofs.lemmas.List.{map-id}
use Rattle.std.proofs.lemmas.Iterator.{YieldsList-from_chars}
use Rattle.std.proofs.lemmas.Iterator.Consumers.{YieldsList-end}
use Rattle.rbc_picture.specs.Escape.{escaped, spelling_of}
use Rattle.rbc_picture.proofs.Escaping.{escaped_inert, escaped_more}
use Rattle.rbc_picture.proofs.escape.push_escaped.Goals as goal

pub loop-c-preserved : goal.loop-c-preserved
loop-c-preserved c =
    let more : chars (string_bytes c.push_spelt.new.text) ≡ chars (string_bytes c.loop-c.text) ++ spelling_of c.in-Some.c = search rules in
    escaped_more _ _ _ c.loop-c.yielded c.in-Some.c c.loop-c.invariant more

pub returns-in_err-push_spelt-clause-inert : goal.returns-in_err-push_spelt-clause-inert
returns-in_err-push_spelt-clause-inert c = escaped_inert (chars c.args.name.now)

pub returns-clause-inert : goal.returns-clause-inert
returns-clause-inert c = escaped_inert (chars c.args.name.now)

pub returns-clause-escaped : goal.returns-clause-escaped
returns-clause-escaped c =
    let t = YieldsList-end (YieldsList-from_chars c.args.name.now c.utf8.name cc) c.loop-c.yielded _ c.loop-c.yielded_by _ _ c.in-None.is c.next.ensures.steps in
    c.loop-c.invariant ∙ ap (λ list. chars (string_bytes c.args.text.now) ++ escaped list) (sym (map-id c.loop-c.yielded) ∙ t.0)
