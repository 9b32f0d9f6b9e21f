use Rattle.std.proofs.Common.{rules, ◌<◌, ◌≤◌, length, IsTrue, subst, ◌∙◌}
use Rattle.std.specs.List.{All}
use Rattle.std.proofs.lemmas.List.{take_all}
use Rattle.rbc_records.specs.declared.record.Key.TheVariants as key
use Rattle.rbc_records.specs.Notes.{knows}
use Rattle.rbc_rule.proofs.GatherKnown.{extends_on, one_more_known}
use Rattle.rbc_rule.proofs.fetch.fetch_trains.Goals as goal

pub loop-engine-preserved : goal.loop-engine-preserved
loop-engine-preserved g c =
    let notes = g.S.Reader.notes in
    let so_far = c.loop-engine.invariant in
    let items = c.as_slice-engine-items.result.now in
    let within : c.loop-engine.engine-index < length items = search rules in
    record {
      known = one_more_known (notes c.loop-engine.store) (notes c.fetch.new.store) items c.loop-engine.engine-index _ within so_far.known c.in_ok-fetch.ensures.learns;
      extends = extends_on so_far.extends c.in_ok-fetch.ensures.reads.extends;
      failed = c.in_ok-fetch.ensures.reads.failed ∙ so_far.failed;
    }

pub returns-clause-known : goal.returns-clause-known
returns-clause-known g c =
    let items = c.as_slice-engine-items.result.now in
    let past : length items ≤ c.loop-engine.engine-index = search rules in
    subst (All (λ engine. IsTrue (knows (g.S.Reader.notes c.loop-engine.store) (key.Train engine))))
    (take_all c.loop-engine.engine-index items past ∙ c.as_slice-engine-items.ensures.value) c.loop-engine.invariant.known
