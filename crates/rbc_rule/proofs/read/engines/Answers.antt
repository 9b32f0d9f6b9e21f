use Rattle.std.proofs.Common.{rules, ◌≡◌, ◌<◌, length, Some, ◌∙◌}
use Rattle.rbc_records.specs.declared.record.Rec.TheVariants as rec
use Rattle.rbc_records.specs.Notes.{noted}
use Rattle.rbc_rule.specs.Bounds.{max_trains}
use Rattle.rbc_rule.proofs.Engines.{too_many}
use Rattle.rbc_rule.proofs.read.engines.Goals as goal

-- a list of a world is not too long
pub returns-in-Some-Engines-clause-fault : goal.returns-in-Some-Engines-clause-fault
returns-in-Some-Engines-clause-fault g c = λ plan w m.
    let read : Some (rec.Engines c.in-Some-Engines.engines) ≡ noted (g.S.Reader.notes c.args.store.now) c.args.list = search rules in
    let many : max_trains < length c.in-Some-Engines.engines = search rules in
    too_many plan w c.args.list c.in-Some-Engines.engines m.well_formed c.requires.list (read ∙ m.agrees c.args.list c.requires.known) many
