use Rattle.std.proofs.Common.{◌∙◌, ℕ, ◌++◌, ap, sym, string_bytes}
use Rattle.std.specs.Str.{chars}
use Rattle.std.proofs.lemmas.List.{map-id}
use Rattle.std.proofs.lemmas.Iterator.{YieldsList-from_chars}
use Rattle.std.proofs.lemmas.Iterator.Consumers.{YieldsList-end}
use Rattle.rbc_json.specs.Json.{character_text}
use Rattle.rbc_json.proofs.Quoting.{characters_more, text_ended}
use Rattle.rbc_json.proofs.text.quoted.Goals as goal

pub loop-c-preserved : goal.loop-c-preserved
loop-c-preserved c =
    characters_more (string_bytes c.loop-c.text) _ c.loop-c.yielded c.in-Some.c c.loop-c.invariant
    (c.in_ok-push_character.ensures ∙ ap (λ (character : ℕ). string_bytes c.loop-c.text ++ character_text character) c.from.ensures)

pub returns : goal.returns
returns c =
    let all = YieldsList-end (YieldsList-from_chars c.args.shown.now c.utf8.shown cc) c.loop-c.yielded _ c.loop-c.yielded_by _ _ c.in-None.is c.next.ensures.steps in
    text_ended (string_bytes c.loop-c.text) _ c.loop-c.yielded (chars c.args.shown.now) c.loop-c.invariant (sym (map-id c.loop-c.yielded) ∙ all.0) c.in_ok-push_ascii-2.ensures
