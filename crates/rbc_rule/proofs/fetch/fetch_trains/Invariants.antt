use Rattle.std.proofs.Common.{◌≡◌, IsTrue, take}
use Rattle.std.specs.List.{All}
use Rattle.rbc_records.specs.declared.record.Key.TheVariants as key
use Rattle.rbc_records.specs.Notes.{Extends, knows}
use Rattle.rbc_rule.proofs.fetch.fetch_trains.Given as goal

-- the trains of the engines so far are known, and what was known stays known
abbrev pub invariant-loop-engine : goal.invariant-loop-engine
invariant-loop-engine g l =
    let notes = g.S.Reader.notes in
    let failed = g.S.Reader.failed in
    record {
      known : All (λ engine. IsTrue (knows (notes l.store) (key.Train engine))) (take l.engine-index l.engine-items);
      extends : Extends (notes l.fn.store) (notes l.store);
      failed : failed l.store ≡ failed l.fn.store;
    }
