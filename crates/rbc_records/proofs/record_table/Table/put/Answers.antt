use Rattle.std.proofs.Common.{◌≤◌, ◌<◌, ◌∙◌, ap, arith, cond, length, Some}
use Rattle.rbc_records.specs.Columns.{Kept}
use Rattle.rbc_records.specs.Notes.{record_in, same_key}
use Rattle.rbc_records.proofs.Beside.{as_long, put_over, put_behind}
use Rattle.rbc_records.proofs.Keys.{record_in_written, lookup_is}
use Rattle.rbc_records.proofs.record_table.Table.put.Goals as goal

pub invariant_of-self : goal.invariant_of-self
invariant_of-self c =
    let inside = c.self.inside in
    let entries = rw c.unwrap-index.ensures at c.insert_full.ensures.entries in
    let index = rw c.unwrap-index.ensures at c.insert_full.ensures.index in
    let within : c.unwrap-index.result.0 < length inside.entries.entries = omega (arith, c.if-index-len.true, c.len.ensures, as_long _ _ _ c.self.invariant.stops_are) in
    put_over inside.entries.entries _ c.args.key c.args.rec entries c.unwrap-index.result.0 index _ _ _ _ c.self.invariant _ c.told_bits_of-told.ensures _ c.extent_of-extent.ensures within

pub invariant_of-self-else-index-len : goal.invariant_of-self-else-index-len
invariant_of-self-else-index-len c =
    let inside = c.self.inside in
    let entries = rw c.unwrap-index.ensures at c.insert_full.ensures.entries in
    let index = rw c.unwrap-index.ensures at c.insert_full.ensures.index in
    let beyond : length inside.entries.entries ≤ c.unwrap-index.result.0 = omega (arith, c.if-index-len.false, c.len.ensures, as_long _ _ _ c.self.invariant.stops_are) in
    let beside = put_behind inside.entries.entries _ c.args.key c.args.rec entries c.unwrap-index.result.0 index _ _ _ _ c.self.invariant _ c.told_bits_of-told.ensures _ c.extent_of-extent.ensures beyond in
    let stops = rw c.unwrap.ensures at c.push.ensures.items in
    let limits = rw c.unwrap-else-index-len.ensures at c.push-else-index-len.ensures.items in
    let least = rw c.unwrap-else-index-len-2.ensures at c.push-else-index-len-2.ensures.items in
    let most = rw c.unwrap-else-index-len-3.ensures at c.push-else-index-len-3.ensures.items in
    rw (stops, limits, least, most) beside

pub returns-then-index-len-clause-records : goal.returns-then-index-len-clause-records
returns-then-index-len-clause-records c =
    let updates = rw c.unwrap-index.ensures at c.insert_full.ensures.updates in
    λ q. record_in_written c.self.inside.entries.entries c.insert_full.new.self.entries c.args.key _ updates.0 q ∙ ap (λ (kept : Kept). cond (same_key q c.args.key) (Some c.args.rec) (record_in kept.entries q)) c.self.view_is

pub returns-then-index-len-clause-replaced : goal.returns-then-index-len-clause-replaced
returns-then-index-len-clause-replaced c =
    let old = rw c.unwrap-index.ensures at c.insert_full.ensures.old in
    old ∙ lookup_is c.self.inside.entries.entries c.args.key ∙ ap (λ (kept : Kept). record_in kept.entries c.args.key) c.self.view_is

pub returns-else-index-len-clause-records : goal.returns-else-index-len-clause-records
returns-else-index-len-clause-records c =
    let updates = rw c.unwrap-index.ensures at c.insert_full.ensures.updates in
    λ q. record_in_written c.self.inside.entries.entries c.insert_full.new.self.entries c.args.key _ updates.0 q ∙ ap (λ (kept : Kept). cond (same_key q c.args.key) (Some c.args.rec) (record_in kept.entries q)) c.self.view_is

pub returns-else-index-len-clause-replaced : goal.returns-else-index-len-clause-replaced
returns-else-index-len-clause-replaced c =
    let old = rw c.unwrap-index.ensures at c.insert_full.ensures.old in
    old ∙ lookup_is c.self.inside.entries.entries c.args.key ∙ ap (λ (kept : Kept). record_in kept.entries c.args.key) c.self.view_is
