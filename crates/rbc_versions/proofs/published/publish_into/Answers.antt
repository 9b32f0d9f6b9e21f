use Rattle.std.proofs.Common.{◌≡◌, ◌<◌, ◌≤◌, ◌∙◌, List, Option, sym, subst, length, arith}
use Rattle.std.proofs.lemmas.List.{drop_all}
use Rattle.std.specs.Option.{option_map}
use Rattle.rbc_records.specs.declared.record.Key.{Key}
use Rattle.rbc_records.specs.declared.record.Rec.{Rec}
use Rattle.rbc_records.specs.Notes.{IsNotedOnce}
use Rattle.rbc_records.specs.Writes.{written}
use Rattle.rbc_versions.specs.Entries.{shown, record_of}
use Rattle.rbc_versions.proofs.Putting.{none_keyed, none_once, none_left, left_put, once_put, keyed_put, shown_put}
use Rattle.rbc_versions.proofs.Weights.{none_weighs, weight_more}
use Rattle.rbc_versions.proofs.published.publish_into.Goals as goal

pub loop-index-init : goal.loop-index-init
loop-index-init g c =
    let none = c.reserve.ensures.entries ∙ c.clear.ensures.empty in
    record {
      room = omega (arith, c.in-Ok.ensures.ok, c.len.ensures);
      here = none_keyed c.args.log.now c.reserve.new.self.entries none;
      once = none_once c.reserve.new.self.entries none;
      rest = λ records k. none_left c.args.writes.now c.reserve.new.self.entries records k none;
      weight = none_weighs c.reserve.new.self.entries none;
    }

pub loop-index-preserved : goal.loop-index-preserved
loop-index-preserved g c =
    let entries = c.loop-index.all.entries in
    let key = c.at-key.result.0 in
    let ticket = c.in_ok-ticket.ticket in
    let within : c.loop-index.index < length c.args.writes.now = omega (arith, c.len-index-end.ensures) in
    let once = subst IsNotedOnce (sym (shown_put entries key ticket)) (once_put (shown entries) key (option_map record_of ticket) c.loop-index.invariant.once) in
    let weight = weight_more entries key ticket _ _ _ _ _ c.in_ok-ticket.ensures.rec c.loop-index.invariant.weight
    c.weight_of.ensures c.saturating_add-weight.ensures in
    record {
      room = omega (arith, c.loop-index.invariant.room, c.put.ensures.room);
      here = rw c.put.ensures.entries (keyed_put c.args.log.now entries key ticket c.loop-index.invariant.here c.in_ok-ticket.ensures.here);
      once = rw c.put.ensures.entries once;
      rest = λ records k. rw c.put.ensures.entries (left_put entries c.args.writes.now c.loop-index.index key _ ticket records k within c.at-key.ensures c.in_ok-ticket.ensures.rec c.loop-index.invariant.once ∙ c.loop-index.invariant.rest records k);
      weight = rw c.put.ensures.entries weight;
    }

pub returns-clause-here : goal.returns-clause-here
returns-clause-here g c = c.loop-index.invariant.here

pub returns-clause-once : goal.returns-clause-once
returns-clause-once g c = c.loop-index.invariant.once

pub returns-clause-writes : goal.returns-clause-writes
returns-clause-writes g c records k =
    let writes = c.args.writes.now in
    let passed : length writes ≤ c.loop-index.index = omega (arith, c.len-index-end.ensures, c.loop-index-test.false) in
    subst (λ (left : List (Key × Option Rec)). written left (written (shown c.loop-index.all.entries) records) k ≡ written writes records k) (drop_all c.loop-index.index writes passed) (c.loop-index.invariant.rest records k)
