use Rattle.std.proofs.Common.{◌∙◌, List, ℕ, ap, map, string_bytes}
use Rattle.rbc_live.specs.declared.waiting.Waiting.{Waiting}
use Rattle.rbc_json.specs.Effects.{effect_object}
use Rattle.rbc_json.specs.Json.{array, json_text}
use Rattle.rbc_json.specs.Objects.{not_told_at}
use Rattle.rbc_json.proofs.Inputs.{input_written}
use Rattle.rbc_json.proofs.input_object.input_text.Goals as goal

pub returns : goal.returns
returns c =
    let block = c.args.block.now in
    let why = c.in_ok-refused.ensures in
    let sent = c.in_ok-messages.ensures in
    let waits = c.in_ok-not_told.ensures ∙ ap (λ (all : List (ℕ × Waiting)). json_text (array (map not_told_at all))) c.deref.ensures.value in
    input_written (λ text. string_bytes text) c.format.result c.args.track.now c.args.line.now block why.0 sent.0 (string_bytes c.in_ok-front.front) (string_bytes c.in_ok-came.came)
    why.1 sent.1 c.in_ok-front.ensures
    (c.in_ok-came.ensures why.0 (effect_object block.counts block.deed) sent.0 (map not_told_at block.waiting.items) (c.as_str.ensures.value ∙ why.2)
    (c.as_str-2.ensures.value ∙ c.in_ok-effect.ensures) (c.as_str-3.ensures.value ∙ sent.2) (c.as_str-4.ensures.value ∙ waits))
    c.format.ensures.ok
