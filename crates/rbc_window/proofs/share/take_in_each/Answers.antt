use Rattle.std.proofs.Common.{rules, ◌≡◌, ℕ, ◌+◌, List, Some, slice_get, refl, sym, ap, subst, ◌∙◌}
use Rattle.std.proofs.lemmas.Option.{slice_get_read}
use Rattle.rbc_records.specs.Notes.{record_in}
use Rattle.rbc_records.specs.declared.record.Key.TheVariants as key
use Rattle.rbc_maps.specs.Maps.{value_of}
use Rattle.rbc_settle.specs.declared.train.TrainRec.{TrainRec}
use Rattle.rbc_rule.specs.Effect.{engine_of}
use Rattle.rbc_window.specs.declared.kept.Kept.{Kept}
use Rattle.rbc_window.specs.Messages.{train_in}
use Rattle.rbc_window.specs.Shares.{IsTakenBy, train_or}
use Rattle.rbc_window.specs.Hearing.{setting}
use Rattle.rbc_window.proofs.Taking.{IsUnderWay, ends, one_passed, one_taken}
use Rattle.rbc_window.proofs.share.take_in_each.Goals as goal
use Rattle.rbc_window.proofs.share.take_in_each.Goals.{in-Some+in_ok-one+in_ok-push_back, in_default}

-- one input more
pub loop-input-preserved : goal.loop-input-preserved
loop-input-preserved c =
    let s = setting c.args.scene.now in
    let records = record_in c.args.store.now in
    let inputs = c.args.inputs.now in
    let at = c.loop-input.input-index in
    let there : slice_get inputs at ≡ Some c.input-item.result = slice_get_read _ _ _ _ refl c.loop-input-test.true c.input-item.is in
    elim c.match-message_of.branch [
      | in-Some+in_ok-one+in_ok-push_back w ↦
          one_taken s c.args.share records inputs at (at + 1) c.input-item.result there refl w.in-Some.message.now c.loop-input.trains c.match-message_of.trains c.loop-input.kept.items
          c.match-message_of.kept.items w.in_ok-one.one w.in-Some.ensures.some.0 w.in-Some.ensures.some.1
          (subst (λ (trains : List (ℕ × TrainRec)). IsTakenBy s w.in-Some.message.now (train_in (train_or (value_of c.loop-input.trains (engine_of w.in-Some.message.now)) (records (key.Train (engine_of w.in-Some.message.now))))) c.loop-input.trains trains w.in_ok-one.one) (sym w.trains-is) w.in_ok-one.ensures)
          (ap (λ kept. kept.items) w.kept-is ∙ w.in_ok-push_back.ensures.items)
          c.loop-input.invariant
      | in_default w ↦
          let passed = one_passed s c.args.share records inputs at (at + 1) c.input-item.result there refl c.loop-input.trains c.loop-input.kept.items (search rules) c.loop-input.invariant in
          subst (λ (trains : List (ℕ × TrainRec)). IsUnderWay s c.args.share records inputs (at + 1) trains c.match-message_of.kept.items) (sym w.trains-is)
          (subst (λ (kept : List Kept). IsUnderWay s c.args.share records inputs (at + 1) c.loop-input.trains kept) (sym (ap (λ kept. kept.items) w.kept-is)) passed)
    ]

pub returns : goal.returns
returns c = ends (setting c.args.scene.now) c.args.share (record_in c.args.store.now) c.args.inputs.now c.loop-input.input-index c.loop-input.trains c.loop-input.kept.items c.loop-input-test.false c.loop-input.invariant
