use Rattle.std.proofs.Common.{◌<◌, ◌≤◌, ◌∙◌, sym, ap, subst, refl, length, IfSome, option_copied, arith}
use Rattle.std.proofs.lemmas.List.{take_all}
use Rattle.std.specs.List.{All}
use Rattle.std.specs.Option.{option_map}
use Rattle.rbc_records.specs.declared.record.Key.{Key}
use Rattle.rbc_versions.specs.Log.{IsOf, number_of}
use Rattle.rbc_versions.specs.Entries.{ticket_in, record_of}
use Rattle.rbc_versions.proofs.Standing.{HasNumber, ShowsRecord, found_in, stands_of, each_current, all_current, all_now, one_more}
use Rattle.rbc_versions.proofs.present.Present.are_current.Goals as goal

pub is_same-requires-clause-other : goal.is_same-requires-clause-other
is_same-requires-clause-other c =
    let tickets = c.args.self.now.tickets in
    let present = found_in c.self.inside.tickets.entries tickets c.at-key.result.0 _ c.get.ensures.value (ap (λ view. view.tickets) c.self.view_is) in
    subst (λ ticket. IfSome ticket (IsOf c.args.log.now)) (sym present) (stands_of c.args.log.now tickets c.at-key.result.0 c.requires.here)

pub returns-then-not-is_same-clause-numbers : goal.returns-then-not-is_same-clause-numbers
returns-then-not-is_same-clause-numbers c =
    let tickets = c.args.self.now.tickets in
    let key = c.at-key.result.0 in
    let present = found_in c.self.inside.tickets.entries tickets key _ c.get.ensures.value (ap (λ view. view.tickets) c.self.view_is) in
    let within : c.loop-index.index < length c.args.notes.now = omega (arith, c.len-index-end.ensures.len, c.loop-index-test.true) in (
      (λ never. cc),
      λ current. c.if-not-is_same.ensures.numbers.1
          (each_current c.args.notes.now (λ k. number_of (ticket_in tickets k)) c.loop-index.index key _ current within c.at-key.ensures.at ∙ ap number_of (sym present)),
    )

pub loop-index-preserved : goal.loop-index-preserved
loop-index-preserved c =
    let notes = c.args.notes.now in
    let tickets = c.args.self.now.tickets in
    let key = c.at-key.result.0 in
    let ticket = option_copied c.at-key.result.1 in
    let present = found_in c.self.inside.tickets.entries tickets key _ c.get.ensures.value (ap (λ view. view.tickets) c.self.view_is) in
    let within : c.loop-index.index < length notes = omega (arith, c.len-index-end.ensures.len, c.loop-index-test.true) in
    record {
      numbers = one_more (HasNumber (λ k. number_of (ticket_in tickets k))) notes c.loop-index.index (key, ticket) within c.at-key.ensures.at c.loop-index.invariant.numbers
          (c.if-not-is_same.ensures.numbers.0 refl ∙ ap number_of present);
      records = one_more (ShowsRecord (λ k. option_map record_of (ticket_in tickets k))) notes c.loop-index.index (key, ticket) within c.at-key.ensures.at c.loop-index.invariant.records
          (ap (option_map record_of) (sym present) ∙ sym (c.if-not-is_same.ensures.records refl));
    }

pub returns-clause-numbers : goal.returns-clause-numbers
returns-clause-numbers c =
    let passed : length c.args.notes.now ≤ c.loop-index.index = omega (arith, c.len-index-end.ensures.len, c.loop-index-test.false) in
    let numbers = λ (k : Key). number_of (ticket_in c.args.self.now.tickets k) in
    let all = subst (All (HasNumber numbers)) (take_all c.loop-index.index c.args.notes.now passed) c.loop-index.invariant.numbers in
    (λ _. all_current c.args.notes.now numbers all, λ _. refl)

pub returns-clause-records : goal.returns-clause-records
returns-clause-records c =
    let passed : length c.args.notes.now ≤ c.loop-index.index = omega (arith, c.len-index-end.ensures.len, c.loop-index-test.false) in
    let records = λ (k : Key). option_map record_of (ticket_in c.args.self.now.tickets k) in
    let all = subst (All (ShowsRecord records)) (take_all c.loop-index.index c.args.notes.now passed) c.loop-index.invariant.records in
    λ _. all_now c.args.notes.now records all
