use Rattle.std.proofs.Common.{length, map, string_bytes}
use Rattle.std.proofs.lemmas.Result.{IfOk-weaker}
use Rattle.rbc_picture.specs.Trains.{train_shown}
use Rattle.rbc_picture.proofs.Knowing.{shown_of}
use Rattle.rbc_picture.proofs.batch_picture.scene_drawn.Goals as goal

pub returns : goal.returns
returns c =
    IfOk-weaker c.document_of.result _ _ (λ svg stand. shown_of c.args.selection.now (length c.args.track.now.lines.items) c.args.account.now.desk.records
    c.stops-stops.result.now c.limits-limits.result.now (map train_shown c.args.trains.now) c.in_ok-parts.parts.items c.deref-2.result.now (string_bytes svg)
    c.stops-stops.ensures c.limits-limits.ensures c.deref-2.ensures.value c.in_ok-parts.ensures stand) c.document_of.ensures
