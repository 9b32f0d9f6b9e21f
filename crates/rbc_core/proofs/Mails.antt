-- The mails of a book say what the rules give.
use Rattle.std.proofs.Common.{ℕ, List, [], ◌++◌, take, sym, ap, ◌∙◌}
use Rattle.std.proofs.lemmas.List.Elements.{All-take}
use Rattle.rbc_maps.specs.Maps.{value_or}
use Rattle.rbc_rule.specs.Inputs.{Fits}
use Rattle.rbc_desk.specs.declared.outbox.Mail.{Mail}
use Rattle.rbc_desk.specs.Held.{Standing}
use Rattle.rbc_desk.proofs.Mails.{each_run_says}
use Rattle.rbc_core.specs.Runs.{Run, IsGoodRun, IsSerialRun, IsSaidSince}

-- the mails that a book has more
pub said_since : (run : Run) (count : ℕ) (held : Standing) → IsGoodRun run → IsSerialRun run count held → IsSaidSince run count held.outboxes
said_since run count held good serial desk h engine =
    let now = serial desk h in
    let said = each_run_says run.track desk (take count run.inputs) good.track h.world.well_formed (All-take Fits count run.inputs good.fit) engine in
    (said.0, ap (λ (boxes : List (ℕ × List Mail)). value_or [] boxes engine) now.outboxes ∙ said.1 ∙ ap (λ (boxes : List (ℕ × List Mail)). value_or [] boxes engine ++ said.0) (sym h.outboxes), said.2)
