use Rattle.std.proofs.Common.{refl, string_bytes}
use Rattle.rbc_account.specs.declared.told.ToldWhat.TheVariants as what
use Rattle.rbc_json.specs.Json.{Null}
use Rattle.rbc_json.specs.Messages.{IsOfStopAt, before_object}
use Rattle.rbc_json.proofs.Messaging.{told_as, none_told}
use Rattle.rbc_json.proofs.message.stop_at_text.Goals as goal

pub returns-in-Some : goal.returns-in-Some
returns-in-Some c = λ hex is.
    let told = c.in-StopBefore in
    let spot = c.in-Some.before in
    told_as (λ text. string_bytes text) c.before_text.result (λ w value. IsOfStopAt c.args.track.now c.args.of.now.input c.args.of.now.engine c.args.of.now.place hex c.args.message.now c.args.head c.args.id w value) c.args.what.now (what.StopBefore told.number _ told.edge told.unit)
    (before_object c.args.of.now.input c.args.of.now.engine c.args.of.now.place hex c.args.head c.args.id told.number spot.line spot.at told.edge told.unit) told.is
    (λ said before says. (spot.line, spot.at, c.in-Some.ensures.is, refl)) (c.before_text.ensures hex is)

pub returns-in-None : goal.returns-in-None
returns-in-None c = λ hex is.
    let told = c.in-StopBefore in
    told_as (λ text. string_bytes text) c.null_text.result (λ w value. IsOfStopAt c.args.track.now c.args.of.now.input c.args.of.now.engine c.args.of.now.place hex c.args.message.now c.args.head c.args.id w value) c.args.what.now (what.StopBefore told.number _ told.edge told.unit) Null told.is
    (λ said before says. none_told (c.in-None.ensures.all said before says)) c.null_text.ensures

pub returns-in-StopAtOnce : goal.returns-in-StopAtOnce
returns-in-StopAtOnce c = λ hex is.
    told_as (λ text. string_bytes text) c.null_text-in-StopAtOnce.result (λ w value. IsOfStopAt c.args.track.now c.args.of.now.input c.args.of.now.engine c.args.of.now.place hex c.args.message.now c.args.head c.args.id w value) c.args.what.now (what.StopAtOnce _ _) Null c.in-StopAtOnce.is tt c.null_text-in-StopAtOnce.ensures

pub returns-in-StopRevoked : goal.returns-in-StopRevoked
returns-in-StopRevoked c = λ hex is.
    told_as (λ text. string_bytes text) c.null_text-in-StopRevoked.result (λ w value. IsOfStopAt c.args.track.now c.args.of.now.input c.args.of.now.engine c.args.of.now.place hex c.args.message.now c.args.head c.args.id w value) c.args.what.now (what.StopRevoked _ _) Null c.in-StopRevoked.is tt c.null_text-in-StopRevoked.ensures

pub returns-in-Restrictions : goal.returns-in-Restrictions
returns-in-Restrictions c = λ hex is.
    told_as (λ text. string_bytes text) c.null_text-in-Restrictions.result (λ w value. IsOfStopAt c.args.track.now c.args.of.now.input c.args.of.now.engine c.args.of.now.place hex c.args.message.now c.args.head c.args.id w value) c.args.what.now (what.Restrictions _) Null c.in-Restrictions.is tt c.null_text-in-Restrictions.ensures

pub returns-in-Unknown : goal.returns-in-Unknown
returns-in-Unknown c = λ hex is.
    told_as (λ text. string_bytes text) c.null_text-in-Unknown.result (λ w value. IsOfStopAt c.args.track.now c.args.of.now.input c.args.of.now.engine c.args.of.now.place hex c.args.message.now c.args.head c.args.id w value) c.args.what.now what.Unknown Null c.in-Unknown.is tt c.null_text-in-Unknown.ensures
