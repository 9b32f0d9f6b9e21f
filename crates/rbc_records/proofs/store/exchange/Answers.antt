use Rattle.std.proofs.Common.{◌≡◌, ◌+◌, ◌<◌, ◌≤◌, [], ◌++◌, ap, sym, ◌∙◌, arith, length, take, drop, set, vec_len, Option, List}
use Rattle.std.proofs.lemmas.List.{take_all, append-nil, at_drop_all}
use Rattle.rbc_records.specs.declared.record.Key.{Key}
use Rattle.rbc_records.specs.declared.record.Rec.{Rec}
use Rattle.rbc_records.specs.Notes.{record_in}
use Rattle.rbc_records.specs.Writes.{written, write_over, replaced}
use Rattle.rbc_records.proofs.Exchanging.{written_more, replaced_more}
use Rattle.rbc_records.proofs.store.exchange.Goals as goal

pub loop-index-preserved : goal.loop-index-preserved
loop-index-preserved c =
    let all = c.loop-index.writes-inside.all.items in
    let i = c.loop-index.index in
    let write : Key × Option Rec = c.index_mut.result.now in
    let old = record_in c.loop-index.store-inside.records.entries in
    let new = record_in c.write_one.new.records.entries in
    let held : vec_len c.loop-index.writes-inside.all ≡ length all = c.loop-index.writes-inside.all.ok.0 in
    let count : length c.writes.inside.all.items ≡ length c.args.writes = ap length c.writes.view_is in
    let within : i < length all = omega arith in
    let over : (k : Key) → new k ≡ write_over write old k = c.write_one.ensures.records in
    let put : set all i (write.0, c.write_one.new.rec) ≡ set all i (write.0, old write.0) = ap (λ (rec : Option Rec). set all i (write.0, rec)) c.write_one.ensures.replaced in
    record {
      all = c.loop-index.invariant.all;
      room = omega arith;
      rest = λ k. written_more all i write within c.index_mut.ensures.value old new over c.write_one.new.rec k ∙ c.loop-index.invariant.rest k;
      left = ap (λ (more : List (Key × Option Rec)). take (i + 1) more ++ replaced (drop (i + 1) more) new) put ∙ replaced_more all i write within c.index_mut.ensures.value old new over ∙ c.loop-index.invariant.left;
    }

pub returns-clause-ok : goal.returns-clause-ok
returns-clause-ok c k =
    let all = c.loop-index.writes-inside.all.items in
    let new = record_in c.loop-index.store-inside.records.entries in
    let held : vec_len c.loop-index.writes-inside.all ≡ length all = c.loop-index.writes-inside.all.ok.0 in
    let count : length c.writes.inside.all.items ≡ length c.args.writes = ap length c.writes.view_is in
    sym (at_drop_all (λ (writes : List (Key × Option Rec)). written writes new k) all c.loop-index.index (omega arith)) ∙ c.loop-index.invariant.rest k

pub returns-clause-replaced : goal.returns-clause-replaced
returns-clause-replaced c =
    let all = c.loop-index.writes-inside.all.items in
    let i = c.loop-index.index in
    let new = record_in c.loop-index.store-inside.records.entries in
    let held : vec_len c.loop-index.writes-inside.all ≡ length all = c.loop-index.writes-inside.all.ok.0 in
    let count : length c.writes.inside.all.items ≡ length c.args.writes = ap length c.writes.view_is in
    let done : length all ≤ i = omega arith in
    sym (append-nil all)
    ∙ ap (λ (front : List (Key × Option Rec)). front ++ []) (sym (take_all i all done))
    ∙ ap (λ (rest : List (Key × Option Rec)). take i all ++ rest) (sym (at_drop_all (λ (writes : List (Key × Option Rec)). replaced writes new) all i done))
    ∙ c.loop-index.invariant.left
