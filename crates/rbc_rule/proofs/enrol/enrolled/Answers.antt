use Rattle.std.proofs.Common.{◌≡◌, ◌∙◌, ap, sym, true, false, arith}
use Rattle.rbc_settle.specs.Numbers.{has_number}
use Rattle.rbc_rule.specs.declared.input.Input.TheVariants.{Enrol}
use Rattle.rbc_rule.specs.Gathered.{enrolled_outcome}
use Rattle.rbc_rule.specs.Codes.{code_of}
use Rattle.rbc_rule.specs.declared.refuse.Refusal.TheVariants.{AlreadyEnrolled, TooManyTrains}
use Rattle.rbc_rule.proofs.Worlds.{refused_right}
use Rattle.rbc_rule.proofs.Engines.{roster_is}
use Rattle.rbc_rule.proofs.EachChanges.{refused_changes}
use Rattle.rbc_rule.proofs.OneTrain.{enrol_known, enrol_full, enrol_right, enrol_each_changes, enrol_unlisted}
use Rattle.rbc_rule.proofs.enrol.enrolled.Goals as goal

pub returns-then-has-clause-right : goal.returns-then-has-clause-right
returns-then-has-clause-right g c = λ w m.
    let plan = c.args.track.now in
    let engines = c.in_ok-engines.ensures.engines plan w m ∙ roster_is w in
    refused_right plan (Enrol c.args.engine c.args.train_length) w (code_of AlreadyEnrolled) c.refused.result c.refused.ensures.outcome
    (enrol_known plan w c.args.engine c.args.train_length c.in_ok-engines.engines.now engines c.has.result c.has.ensures c.if-has.true)

pub returns-then-has-clause-changes : goal.returns-then-has-clause-changes
returns-then-has-clause-changes g c =
    refused_changes c.args.track.now (Enrol c.args.engine c.args.train_length) _ (code_of AlreadyEnrolled) c.refused.result c.refused.ensures.outcome

pub returns-then-len-ge-MAX_TRAINS-clause-right : goal.returns-then-len-ge-MAX_TRAINS-clause-right
returns-then-len-ge-MAX_TRAINS-clause-right g c = λ w m.
    let plan = c.args.track.now in
    let engines = c.in_ok-engines.ensures.engines plan w m ∙ roster_is w in
    refused_right plan (Enrol c.args.engine c.args.train_length) w (code_of TooManyTrains) c.refused-then-len-ge-MAX_TRAINS.result c.refused-then-len-ge-MAX_TRAINS.ensures.outcome
    (enrol_full plan w c.args.engine c.args.train_length c.in_ok-engines.engines.now engines c.has.result c.has.ensures c.if-has.false (omega arith))

-- a train that is not enrolled stands in no list
pub returns-then-has-2-clause-fault : goal.returns-then-has-2-clause-fault
returns-then-has-2-clause-fault g c = λ w m.
    let plan = c.args.track.now in
    let engines = c.in_ok-engines.ensures.engines plan w m ∙ roster_is w in
    let unplaced = c.in_ok-unplaced.ensures.engines plan w m in
    let there : has_number c.in_ok-unplaced.unplaced.now c.args.engine ≡ true = sym c.has-2.ensures ∙ c.if-has-2.true in
    let absent = enrol_unlisted plan w c.args.engine c.args.train_length c.in_ok-engines.engines.now engines c.has.result m.well_formed c.has.ensures c.if-has.false in
    let bad : true ≡ false = sym there ∙ ap (λ list. has_number list c.args.engine) unplaced ∙ absent in
    absurd cc

-- what was read is the world's, so the outcome is the step's
pub returns-clause-right : goal.returns-clause-right
returns-clause-right g c = λ w m.
    let plan = c.args.track.now in
    let now = c.in_ok-engines.engines.now in
    let engines = c.in_ok-engines.ensures.engines plan w m ∙ roster_is w in
    let unplaced = c.in_ok-unplaced.ensures.engines plan w m in
    let stops = c.in_ok-stops.ensures.stops plan w m in
    let limits = c.in_ok-stops.ensures.limits plan w m in
    enrol_right plan w c.args.engine c.args.train_length now engines c.in_ok-stops.stops.now c.in_ok-stops.limits.now c.in_ok-unplaced.unplaced.now c.in_ok-outcome.outcome c.has.result
    (c.in_ok-outcome.ensures.outcome ∙ ap (λ train. enrolled_outcome plan c.in_ok-stops.stops.now c.in_ok-stops.limits.now train.engine train.length now c.in_ok-unplaced.unplaced.now) c.new-train.ensures)
    stops limits unplaced m.well_formed c.has.ensures c.if-has.false (omega arith)

pub returns-clause-changes : goal.returns-clause-changes
returns-clause-changes g c = λ w m.
    let plan = c.args.track.now in
    let now = c.in_ok-engines.engines.now in
    let engines = c.in_ok-engines.ensures.engines plan w m ∙ roster_is w in
    let unplaced = c.in_ok-unplaced.ensures.engines plan w m in
    let stops = c.in_ok-stops.ensures.stops plan w m in
    let limits = c.in_ok-stops.ensures.limits plan w m in
    enrol_each_changes plan w c.args.engine c.args.train_length now engines c.in_ok-stops.stops.now c.in_ok-stops.limits.now c.in_ok-unplaced.unplaced.now c.in_ok-outcome.outcome c.has.result
    (c.in_ok-outcome.ensures.outcome ∙ ap (λ train. enrolled_outcome plan c.in_ok-stops.stops.now c.in_ok-stops.limits.now train.engine train.length now c.in_ok-unplaced.unplaced.now) c.new-train.ensures)
    stops limits unplaced c.has.ensures c.if-has.false
