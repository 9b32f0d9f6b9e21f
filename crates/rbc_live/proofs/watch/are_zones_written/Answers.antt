use Rattle.std.proofs.Common.{◌∙◌, ◌||◌, Option, sym, ap}
use Rattle.std.proofs.lemmas.Map.Keys.{any_passes_from_place}
use Rattle.rbc_records.specs.declared.record.Key.{Key}
use Rattle.rbc_records.specs.declared.record.Rec.{Rec}
use Rattle.rbc_live.specs.Watching.{is_zone}
use Rattle.rbc_live.proofs.Following.{any_next}
use Rattle.rbc_live.proofs.watch.are_zones_written.Goals as goal

pub returns-then-is_zone : goal.returns-then-is_zone
returns-then-is_zone c =
    sym (any_passes_from_place (λ (write : Key × Option Rec). is_zone write.0) c.args.writes.now c.loop-index.index _ c.at.ensures (sym c.is_zone.ensures ∙ c.if-is_zone.true))

pub loop-index-preserved : goal.loop-index-preserved
loop-index-preserved c =
    any_next (λ (write : Key × Option Rec). is_zone write.0) c.args.writes.now c.loop-index.index _ c.at.ensures
    ∙ ap (λ b. b || is_zone c.at.result.0) c.loop-index.invariant ∙ (sym c.is_zone.ensures ∙ c.if-is_zone.false)
