use Rattle.std.proofs.Common.{◌≡◌, ℕ, ◌+◌, ◌++◌, List, refl, sym, ap, subst, take}
use Rattle.std.specs.Prelude.{slice_get, Some}
use Rattle.std.specs.List.{flat_map}
use Rattle.std.proofs.lemmas.Option.{slice_get_within, get_or_from_slice_get}
use Rattle.ertms_codec.specs.declared.packets.Part.{Part}
use Rattle.ertms_codec.specs.Layout.{Field, HoldValues}
use Rattle.ertms_codec.specs.PacketsToTrain.{fields_of_packet}
use Rattle.rbc_rule.proofs.GatherReading.{one_more_gathered}
use Rattle.rbc_rule_laws.proofs.Packets.{hold_both}
use Rattle.rbc_desk.proofs.outbox.packets_have_room.Goals as goal

-- those of one more packet
one_more : (packets : List Part) (i : ℕ) (part : Part) → slice_get packets i ≡ Some part → HoldValues (flat_map fields_of_packet (take i packets)) → HoldValues (fields_of_packet part)
    → HoldValues (flat_map fields_of_packet (take (i + 1) packets))
one_more packets i part there so_far now =
    let before : List Field = flat_map fields_of_packet (take i packets) in
    subst HoldValues
    (one_more_gathered fields_of_packet packets i part (slice_get_within packets i part there) before (before ++ fields_of_packet part) refl
    (ap (λ (p : Part). before ++ fields_of_packet p) (sym (get_or_from_slice_get packets i part part there))))
    (hold_both before (fields_of_packet part) so_far now)

pub loop-index-preserved : goal.loop-index-preserved
loop-index-preserved c = one_more c.args.packets.now c.loop-index.index c.at.result c.at.ensures c.loop-index.invariant c.packet_has_room.ensures
