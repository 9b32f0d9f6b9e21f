use Rattle.std.proofs.Common.{refl, string_bytes}
use Rattle.rbc_account.specs.declared.told.ToldWhat.TheVariants as what
use Rattle.rbc_json.specs.Json.{Null}
use Rattle.rbc_json.specs.Messages.{IsOfStop, stop_object}
use Rattle.rbc_json.proofs.Messaging.{told_as}
use Rattle.rbc_json.proofs.message.at_once_text.Goals as goal

pub returns-in-StopAtOnce : goal.returns-in-StopAtOnce
returns-in-StopAtOnce c = λ hex is.
    let told = c.in-StopAtOnce in
    told_as (λ text. string_bytes text) c.stop_text.result (λ w value. IsOfStop c.args.of.now.input c.args.of.now.engine c.args.of.now.place hex c.args.head c.args.id w value) c.args.what.now (what.StopAtOnce told.number told.why)
    (stop_object c.args.of.now.input c.args.of.now.engine c.args.of.now.place hex c.args.head c.args.id told.number told.why) told.is refl (c.stop_text.ensures hex is)

pub returns-in-StopBefore : goal.returns-in-StopBefore
returns-in-StopBefore c = λ hex is.
    told_as (λ text. string_bytes text) c.null_text.result (λ w value. IsOfStop c.args.of.now.input c.args.of.now.engine c.args.of.now.place hex c.args.head c.args.id w value) c.args.what.now (what.StopBefore _ _ _ _) Null c.in-StopBefore.is tt c.null_text.ensures

pub returns-in-StopRevoked : goal.returns-in-StopRevoked
returns-in-StopRevoked c = λ hex is.
    told_as (λ text. string_bytes text) c.null_text-in-StopRevoked.result (λ w value. IsOfStop c.args.of.now.input c.args.of.now.engine c.args.of.now.place hex c.args.head c.args.id w value) c.args.what.now (what.StopRevoked _ _) Null c.in-StopRevoked.is tt c.null_text-in-StopRevoked.ensures

pub returns-in-Restrictions : goal.returns-in-Restrictions
returns-in-Restrictions c = λ hex is.
    told_as (λ text. string_bytes text) c.null_text-in-Restrictions.result (λ w value. IsOfStop c.args.of.now.input c.args.of.now.engine c.args.of.now.place hex c.args.head c.args.id w value) c.args.what.now (what.Restrictions _) Null c.in-Restrictions.is tt c.null_text-in-Restrictions.ensures

pub returns-in-Unknown : goal.returns-in-Unknown
returns-in-Unknown c = λ hex is.
    told_as (λ text. string_bytes text) c.null_text-in-Unknown.result (λ w value. IsOfStop c.args.of.now.input c.args.of.now.engine c.args.of.now.place hex c.args.head c.args.id w value) c.args.what.now what.Unknown Null c.in-Unknown.is tt c.null_text-in-Unknown.ensures
