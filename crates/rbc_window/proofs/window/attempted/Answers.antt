use Rattle.std.proofs.Common.{rules, ◌≡◌, ◌∙◌, true, refl, sym, ap, subst, length}
use Rattle.rbc_records.specs.Notes.{record_in}
use Rattle.rbc_desk.proofs.Stands.{as_notes}
use Rattle.rbc_window.specs.Messages.{Setting, records_after}
use Rattle.rbc_window.specs.Shares.{AreInPlaces, HaveTakenIfDone}
use Rattle.rbc_window.specs.Gathering.{AreAnswers, KeepRest}
use Rattle.rbc_window.proofs.Done.{keep_all, have_trains, written_after, in_world}
use Rattle.rbc_window.proofs.window.attempted.Goals as goal

pub returns-clause-done : goal.returns-clause-done
returns-clause-done g c = λ w are.
    let track = c.args.track.now in
    let records = record_in c.args.store.now in
    let inputs = c.args.inputs.now in
    let all = c.in_ok-all.all.items in
    let may = as_notes track c.args.store.now w are in
    let s : Setting = record { track = track; stops = c.in_ok-stops.stops.now; limits = c.in_ok-stops.limits.now } in
    let taken : HaveTakenIfDone s records inputs all = c.in_ok-all.ensures in
    let done : c.are_done.result ≡ true = search rules in
    let count : length all ≡ 32 = ap length (sym c.deref.ensures.value) ∙ c.are_done.ensures.all done in
    let places : AreInPlaces all = subst (λ shares. AreInPlaces shares) c.deref.ensures.value (c.are_done.ensures.places done) in
    let keep : KeepRest s records inputs all = keep_all s records inputs all taken places in
    let world = in_world track w s refl (c.in_ok-stops.ensures.stops track w may) (c.in_ok-stops.ensures.limits track w may) in
    let leaves = written_after s records inputs c.answers_in_order.new.all.items c.answers_in_order.new.lists c.new-writes.result c.write.new.writes c.write_trains.new.writes
    (c.in_ok-answers.ensures.count ∙ count) (c.in_ok-answers.ensures.trains s (have_trains s records inputs all taken places)) (c.in_ok-answers.ensures.lists s keep) (c.in_ok-answers.ensures.others s keep)
    c.new-writes.ensures c.in_ok-write.ensures c.in_ok-write_trains.ensures
    in
    record {
      are_messages = c.in_ok-answers.ensures.messages;
      are_answers = subst (λ (t : Setting). AreAnswers t records inputs c.in_ok-answers.answers.items) world (c.in_ok-answers.ensures.answers s keep);
      leaves = λ k. leaves k ∙ ap (λ (t : Setting). records_after t records inputs k) world;
    }

pub returns-clause-fit : goal.returns-clause-fit
returns-clause-fit g c =
    let records = record_in c.args.store.now in
    let inputs = c.args.inputs.now in
    let all = c.in_ok-all.all.items in
    let s : Setting = record { track = c.args.track.now; stops = c.in_ok-stops.stops.now; limits = c.in_ok-stops.limits.now } in
    let taken : HaveTakenIfDone s records inputs all = c.in_ok-all.ensures in
    let done : c.are_done.result ≡ true = search rules in
    let places : AreInPlaces all = subst (λ shares. AreInPlaces shares) c.deref.ensures.value (c.are_done.ensures.places done) in
    c.in_ok-answers.ensures.fit s (keep_all s records inputs all taken places)
