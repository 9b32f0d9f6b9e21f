use Rattle.std.proofs.Common.{◌≡◌, ◌+◌, ◌++◌, ◌∙◌, List, ℕ, refl, sym, ap, append_assoc, take}
use Rattle.std.specs.Prelude.{codes, slice_get, Some}
use Rattle.std.specs.Fmt.{decimal}
use Rattle.std.specs.List.{flat_map}
use Rattle.std.proofs.lemmas.Option.{slice_get_within, get_or_from_slice_get}
use Rattle.hex.specs.Hex.{encode_upper}
use Rattle.ertms_codec.specs.ToTrain.{spelling_of}
use Rattle.rbc_settle.specs.declared.sent.Sent.{Sent}
use Rattle.rbc_rule.proofs.GatherReading.{one_more_gathered}
use Rattle.rbc_text.specs.OutputText.{sent_line}
use Rattle.rbc_text.proofs.output.push_messages.Goals as goal

-- the line of one more message
one_more : (line : Sent → List ℕ) (before : List ℕ) (all : List Sent) (i : ℕ) (one : Sent) (old new : List ℕ) → slice_get all i ≡ Some one → old ≡ before ++ flat_map line (take i all)
    → new ≡ old ++ line one → new ≡ before ++ flat_map line (take (i + 1) all)
one_more line before all i one old new there so_far now =
    let gathered = one_more_gathered line all i one (slice_get_within all i one there) (flat_map line (take i all)) (flat_map line (take i all) ++ line one) refl
    (ap (λ (s : Sent). flat_map line (take i all) ++ line s) (sym (get_or_from_slice_get all i one one there))) in
    now ∙ ap (λ (text : List ℕ). text ++ line one) so_far ∙ append_assoc before (flat_map line (take i all)) (line one) ∙ ap (λ (lines : List ℕ). before ++ lines) gathered

pub loop-index-preserved : goal.loop-index-preserved
loop-index-preserved c =
    let sent = c.at-sent.result.now in
    let behind : List ℕ → List ℕ = λ label. label ++ codes " " ++ decimal c.args.input ++ codes " " ++ encode_upper (spelling_of sent.message) ++ codes "\n" in
    one_more (sent_line c.args.input) c.args.text.now.items c.args.messages.now c.loop-index.index sent c.loop-index.text.items _ c.at-sent.ensures c.loop-index.invariant
    (c.in_ok-push_sent.ensures ∙ ap (λ (label : List ℕ). c.loop-index.text.items ++ behind label) c.format-label.ensures.text)
