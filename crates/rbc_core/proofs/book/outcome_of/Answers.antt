use Rattle.std.proofs.Common.{◌≡◌, ◌+◌, ◌-◌, subst, refl, arith, List, Some, false}
use Rattle.std.specs.Prelude.{slice_get}
use Rattle.std.proofs.lemmas.Option.{slice_get_read}
use Rattle.rbc_records.specs.Notes.{record_in}
use Rattle.rbc_rule.specs.declared.input.Input.{Input}
use Rattle.rbc_versions.specs.Log.{LogName}
use Rattle.rbc_core.specs.Runs.{IsInput}
use Rattle.rbc_core.specs.Books.{ArePresent}
use Rattle.rbc_core.proofs.Agreeing.{fresh_outcome, computed_outcomes, not_fresh}
use Rattle.rbc_core.proofs.book.outcome_of.Goals as goal
use Rattle.rbc_core.proofs.book.outcome_of.Goals.{in-Tried+else-is_fresh, in_default}

pub returns-then-is_fresh-clause-outcome : goal.returns-then-is_fresh-clause-outcome
returns-then-is_fresh-clause-outcome g c =
    let turn = c.args.turn in
    let records = record_in c.args.desk.now.records in
    let j = c.requires.judged in
    let log : c.args.log.now ≡ g.N.RunName.log = c.requires.run.2 in
    let present : ArePresent g.N.RunName.log j.0 records = subst (λ (l : LogName). ArePresent l j.0 records) log j.1 in
    let parts = c.into_parts-outcome.ensures in
    fresh_outcome g.N.RunName.run g.N.RunName.log turn.stage c.in-Tried.attempt turn.front turn.is_fresh j.0 records c.into_parts-outcome.result.0 c.into_parts-outcome.result.1 c.in-Tried.is c.if-is_fresh.true present j.2 parts.right
    (c.requires.number c.in-Tried.attempt c.in-Tried.is) parts.outcome parts.writes parts.published

pub returns-clause-outcome : goal.returns-clause-outcome
returns-clause-outcome g c =
    let run = g.N.RunName.run in
    let turn = c.args.turn in
    let input = c.index-inputs-front.result in
    let unset : turn.is_fresh ≡ false = elim c.match-stage.branch [
      | in-Tried+else-is_fresh w ↦ w.if-is_fresh.false
      | in_default w ↦ not_fresh c.requires.judged.0 turn.stage turn.is_fresh c.requires.judged.2 (λ a is. w.in_default.not-Tried a is)
    ] in
    let at : slice_get c.args.inputs.now turn.front ≡ Some input = slice_get_read _ _ _ _ refl c.requires.within c.index-inputs-front.is in
    let before : turn.front ≡ turn.front + 1 - 1 = omega arith in
    let is : IsInput run (turn.front + 1) input = record {
      first = omega arith;
      there = subst (λ (inputs : List Input). slice_get inputs (turn.front + 1 - 1) ≡ Some input) c.requires.run.1 (subst (λ k. slice_get c.args.inputs.now k ≡ Some input) before at);
    } in
    computed_outcomes run g.N.RunName.log _ _ turn.stage turn.front turn.is_fresh _ input _ unset c.requires.run.0 c.requires.run.2 is c.computed.ensures.right c.computed.ensures.here c.computed.ensures.writes
