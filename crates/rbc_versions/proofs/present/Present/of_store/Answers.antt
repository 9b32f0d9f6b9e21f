use Rattle.std.proofs.Common.{◌≡◌, ◌<◌, ◌+◌, ◌-◌, ap, sym, subst, drop, length, Some, arith}
use Rattle.std.specs.Option.{option_map}
use Rattle.rbc_records.specs.declared.record.Key.{Key}
use Rattle.rbc_records.specs.Notes.{record_in}
use Rattle.rbc_versions.specs.Log.{Shown}
use Rattle.rbc_versions.specs.Entries.{ticket_in, record_of}
use Rattle.rbc_versions.proofs.Standing.{none_shown, none_stand, records_put, stands_put}
use Rattle.rbc_versions.proofs.present.Present.of_store.Goals as goal

pub loop-index-init : goal.loop-index-init
loop-index-init g c = record {
  room = omega (arith, c.in-Ok.ensures.spare, c.len.ensures, c.len-index.ensures);
  here = none_stand c.args.log.now c.in-Ok.tickets.entries c.in-Ok.ensures.empty;
  records = none_shown c.args.store.now c.len-index.result c.in-Ok.tickets.entries c.in-Ok.ensures.empty (omega (arith, c.len-index.ensures));
}

pub loop-index-preserved : goal.loop-index-preserved
loop-index-preserved g c =
    let i = c.loop-index.index - 1 in
    let key = c.at-key.result.0 in
    let ticket : Shown = c.in_ok-ticket.ticket in
    let published = c.in_ok-ticket.ensures in
    let within : i < length c.args.store.now = omega (arith, c.loop-index-test.true, c.loop-index.auto.index, c.len-index.ensures) in
    let next : i + 1 ≡ c.loop-index.index = omega (arith, c.loop-index-test.true) in
    let rec : record_of ticket ≡ c.at-key.result.1.now = ap (λ version. version.rec) published.1 in
    let held : (k : Key) → option_map record_of (ticket_in c.loop-index.tickets.entries k) ≡ record_in (drop (i + 1) c.args.store.now) k =
    λ k. subst (λ n. option_map record_of (ticket_in c.loop-index.tickets.entries k) ≡ record_in (drop n c.args.store.now) k) (sym next) (c.loop-index.invariant.records k) in
    record {
      room = omega (arith, c.loop-index.invariant.room, c.put.ensures.room);
      here = stands_put c.args.log.now c.loop-index.tickets.entries c.put.new.tickets.entries key (Some ticket) c.loop-index.invariant.here (published.0, ap (λ version. version.key) published.1) c.put.ensures.tickets;
      records = records_put c.args.store.now i key c.at-key.result.1.now ticket c.loop-index.tickets.entries c.put.new.tickets.entries within c.at-key.ensures.at rec c.put.ensures.tickets held;
    }

pub returns-clause-here : goal.returns-clause-here
returns-clause-here g c = c.loop-index.invariant.here

pub returns-clause-records : goal.returns-clause-records
returns-clause-records g c =
    let none : c.loop-index.index ≡ 0 = omega (arith, c.loop-index-test.false) in
    subst (λ n. (k : Key) → option_map record_of (ticket_in c.loop-index.tickets.entries k) ≡ record_in (drop n c.args.store.now) k) none c.loop-index.invariant.records
