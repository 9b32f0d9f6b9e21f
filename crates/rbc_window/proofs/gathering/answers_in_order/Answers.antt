use Rattle.std.proofs.Common.{◌≡◌, ◌+◌, ◌∷◌, List, Some, All, slice_get, take, drop, refl, sym, subst, ◌∙◌, take_all}
use Rattle.std.proofs.lemmas.Option.{slice_get_read}
use Rattle.std.proofs.lemmas.List.Elements.{All-push}
use Rattle.rbc_records.specs.Notes.{record_in}
use Rattle.rbc_rule.specs.declared.input.Input.{Input}
use Rattle.rbc_window.specs.Messages.{records_after, sender}
use Rattle.rbc_window.proofs.Taking.{drop_at_place, take_then}
use Rattle.rbc_window.specs.Gathering.{IsMessage, KeepRest}
use Rattle.rbc_window.proofs.Gathers.{one_gathered, gathered_answers, gathered_lists}
use Rattle.rbc_window.proofs.gathering.answers_in_order.Goals as goal

-- one answer more
pub loop-input-preserved : goal.loop-input-preserved
loop-input-preserved c =
    let records = record_in c.args.store.now in
    let inputs = c.args.inputs.now in
    let at = c.loop-input.input-index in
    let input = c.input-item.result in
    let there : slice_get inputs at ≡ Some input = slice_get_read _ _ _ _ refl c.loop-input-test.true c.input-item.is in
    let from : sender input ≡ Some c.in-Some.engine = sym c.in-Some.ensures.value in
    record {
      gathered = λ s keep.
          let h = c.loop-input.invariant.gathered s keep in
          let before = records_after s records (take at inputs) in
          let left : KeepRest s before (input ∷ drop (at + 1) inputs) c.loop-input.all.items =
          subst (λ (rest : List Input). KeepRest s before rest c.loop-input.all.items) (drop_at_place inputs at input there) h.rest in
          let found = c.in-Some-next_of.ensures.kept s before input (drop (at + 1) inputs) from left in
          one_gathered s records inputs at (at + 1) input c.in-Some.engine c.loop-input.all.items c.next_of.new.all.items c.loop-input.lists c.move_train.new.self c.loop-input.answers.items
          c.push.new.self.items c.in-Some-next_of.kept there refl found.0 found.1 c.in_ok-move_train.ensures c.in_ok-push.ensures.items h;
      trains = λ s have. c.next_of.ensures.trains s records inputs (c.loop-input.invariant.trains s have);
      count = c.next_of.ensures.count ∙ c.loop-input.invariant.count;
      messages = subst (λ (first : List Input). All IsMessage first) (sym (take_then inputs at input there)) (All-push IsMessage (take at inputs) input c.loop-input.invariant.messages c.in-Some.ensures.message);
    }

pub returns-clause-answers : goal.returns-clause-answers
returns-clause-answers c = λ s keep.
    gathered_answers s (record_in c.args.store.now) c.args.inputs.now c.loop-input.input-index c.loop-input.all.items c.loop-input.lists c.loop-input.answers.items c.loop-input-test.false (c.loop-input.invariant.gathered s keep)

pub returns-clause-lists : goal.returns-clause-lists
returns-clause-lists c = λ s keep.
    gathered_lists s (record_in c.args.store.now) c.args.inputs.now c.loop-input.input-index c.loop-input.all.items c.loop-input.lists c.loop-input.answers.items c.loop-input-test.false (c.loop-input.invariant.gathered s keep)

pub returns-clause-others : goal.returns-clause-others
returns-clause-others c = λ s keep. (c.loop-input.invariant.gathered s keep).others

pub returns-clause-fit : goal.returns-clause-fit
returns-clause-fit c = λ s keep. (c.loop-input.invariant.gathered s keep).fit

pub returns-clause-trains : goal.returns-clause-trains
returns-clause-trains c = c.loop-input.invariant.trains

pub returns-clause-messages : goal.returns-clause-messages
returns-clause-messages c = subst (λ (first : List Input). All IsMessage first) (take_all c.loop-input.input-index c.args.inputs.now c.loop-input-test.false) c.loop-input.invariant.messages
