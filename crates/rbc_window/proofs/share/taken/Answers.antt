use Rattle.std.proofs.Common.{Option, Some, None, option_copied, refl, sym, ap, subst, ◌∙◌}
use Rattle.rbc_maps.specs.Maps.{value_of, with_value}
use Rattle.rbc_settle.specs.declared.train.TrainRec.{TrainRec}
use Rattle.rbc_records.specs.Notes.{record_in}
use Rattle.rbc_records.specs.declared.record.Key.TheVariants as key
use Rattle.rbc_rule.specs.Codes.{code_of, IsReason}
use Rattle.rbc_rule.specs.Effect.{engine_of, heard}
use Rattle.rbc_rule.specs.declared.refuse.NotChanged.{NotChanged}
use Rattle.rbc_window.specs.Hearing.{setting}
use Rattle.rbc_window.specs.Messages.{outcome_of_train, train_in}
use Rattle.rbc_window.specs.Shares.{IsTakenBy, train_or}
use Rattle.rbc_window.proofs.Hearings.{refused_taken, heard_taken}
use Rattle.rbc_window.proofs.share.taken.Goals as goal

-- there is no such train
pub returns-in_default : goal.returns-in_default
returns-in_default c =
    let s = setting c.args.scene.now in
    let message = c.args.message.now in
    let old = c.args.trains.now in
    let now = ap (λ engine. train_in (train_or (value_of old engine) (record_in c.args.store.now (key.Train engine)))) c.engine_of-engine.ensures in
    subst (λ (before : Option TrainRec). IsTakenBy s message before old old c.refused.result) (sym (ap option_copied c.in_default.is) ∙ c.train_now.ensures ∙ now)
    (refused_taken s message old old c.refused.result None _ (λ records. refl) c.refused.ensures refl)

-- it is accepted by the train that was there
pub returns-in_ok-spare-in-Ok : goal.returns-in_ok-spare-in-Ok
returns-in_ok-spare-in-Ok c =
    let s = setting c.args.scene.now in
    let message = c.args.message.now in
    let old = c.args.trains.now in
    let now = ap (λ engine. train_in (train_or (value_of old engine) (record_in c.args.store.now (key.Train engine)))) c.engine_of-engine.ensures in
    let put = c.in_ok-spare-in-Ok.ensures.ok ∙ ap (λ engine. with_value engine c.in-Ok.train old) c.engine_of-engine.ensures in
    subst (λ (before : Option TrainRec). IsTakenBy s message before old c.put.new.self c.in-Ok.kept) (sym (ap option_copied c.in-Some.is) ∙ c.train_now.ensures ∙ now)
    (heard_taken s message old c.put.new.self c.in-Ok.kept c.in-Some.before.now c.in-Ok.train c.in-Ok.ensures.ok put)

-- that train refuses it
pub returns-in-Err-Refused : goal.returns-in-Err-Refused
returns-in-Err-Refused c =
    let s = setting c.args.scene.now in
    let message = c.args.message.now in
    let old = c.args.trains.now in
    let before = c.in-Some.before.now in
    let reason = subst (λ (why : NotChanged). IsReason (heard c.args.scene.now.track.now message before) why) c.in-Err-Refused.field-0-is c.in-Err-Refused.ensures.err in
    let now = ap (λ engine. train_in (train_or (value_of old engine) (record_in c.args.store.now (key.Train engine)))) c.engine_of-engine.ensures in
    subst (λ (there : Option TrainRec). IsTakenBy s message there old old c.refused-in-Err-Refused.result) (sym (ap option_copied c.in-Some.is) ∙ c.train_now.ensures ∙ now)
    (refused_taken s message old old c.refused-in-Err-Refused.result (Some before) (code_of c.in-Err-Refused.refusal)
    (λ records. ap (outcome_of_train s records (engine_of message) before) (sym reason)) c.refused-in-Err-Refused.ensures refl)
