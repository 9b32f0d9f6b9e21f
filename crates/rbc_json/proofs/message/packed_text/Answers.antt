use Rattle.std.proofs.Common.{◌∙◌, List, refl, subst, sym, string_bytes}
use Rattle.rbc_account.specs.declared.told.ToldRestriction.{ToldRestriction}
use Rattle.rbc_json.specs.Packets.{ArePackets}
use Rattle.rbc_account.specs.declared.told.ToldWhat.TheVariants as what
use Rattle.rbc_json.specs.Json.{Null}
use Rattle.std.proofs.lemmas.Result.{IfOk-weaker}
use Rattle.rbc_json.specs.Messages.{IsOfGeneral, general_object}
use Rattle.rbc_json.proofs.Messaging.{told_as, told_so}
use Rattle.rbc_json.proofs.message.packed_text.Goals as goal

pub returns-then-len-count : goal.returns-then-len-count
returns-then-len-count c = λ hex is.
    let told = c.in-Restrictions in
    told_so (λ text. string_bytes text) c.general_text.result (λ w value. IsOfGeneral c.args.track.now c.args.of.now.input c.args.of.now.engine c.args.of.now.place hex c.args.head c.args.packets.now w value) c.args.what.now
    (what.Restrictions told.all) told.is
    (IfOk-weaker c.general_text.result _ _ (λ text of. (general_object c.args.of.now.input c.args.of.now.engine c.args.of.now.place hex c.args.head of.0, (λ same. (of.0, subst (λ (all : List ToldRestriction). ArePackets c.args.track.now c.args.head.lrbg c.args.packets.now all of.0) c.deref.ensures.value of.1, refl)), of.2)) (c.general_text.ensures hex is))

pub returns-else-len-count : goal.returns-else-len-count
returns-else-len-count c = λ hex is.
    let told = c.in-Restrictions in
    told_as (λ text. string_bytes text) c.null_text.result (λ w value. IsOfGeneral c.args.track.now c.args.of.now.input c.args.of.now.engine c.args.of.now.place hex c.args.head c.args.packets.now w value) c.args.what.now (what.Restrictions told.all) Null told.is (λ same. absurd (c.if-len-count.false (c.len.ensures ∙ told.all.ok.0 ∙ same ∙ sym c.count.ensures.count))) c.null_text.ensures

pub returns-in-StopBefore : goal.returns-in-StopBefore
returns-in-StopBefore c = λ hex is.
    told_as (λ text. string_bytes text) c.null_text-in-StopBefore.result (λ w value. IsOfGeneral c.args.track.now c.args.of.now.input c.args.of.now.engine c.args.of.now.place hex c.args.head c.args.packets.now w value) c.args.what.now (what.StopBefore _ _ _ _) Null c.in-StopBefore.is tt c.null_text-in-StopBefore.ensures

pub returns-in-StopAtOnce : goal.returns-in-StopAtOnce
returns-in-StopAtOnce c = λ hex is.
    told_as (λ text. string_bytes text) c.null_text-in-StopAtOnce.result (λ w value. IsOfGeneral c.args.track.now c.args.of.now.input c.args.of.now.engine c.args.of.now.place hex c.args.head c.args.packets.now w value) c.args.what.now (what.StopAtOnce _ _) Null c.in-StopAtOnce.is tt c.null_text-in-StopAtOnce.ensures

pub returns-in-StopRevoked : goal.returns-in-StopRevoked
returns-in-StopRevoked c = λ hex is.
    told_as (λ text. string_bytes text) c.null_text-in-StopRevoked.result (λ w value. IsOfGeneral c.args.track.now c.args.of.now.input c.args.of.now.engine c.args.of.now.place hex c.args.head c.args.packets.now w value) c.args.what.now (what.StopRevoked _ _) Null c.in-StopRevoked.is tt c.null_text-in-StopRevoked.ensures

pub returns-in-Unknown : goal.returns-in-Unknown
returns-in-Unknown c = λ hex is.
    told_as (λ text. string_bytes text) c.null_text-in-Unknown.result (λ w value. IsOfGeneral c.args.track.now c.args.of.now.input c.args.of.now.engine c.args.of.now.place hex c.args.head c.args.packets.now w value) c.args.what.now what.Unknown Null c.in-Unknown.is tt c.null_text-in-Unknown.ensures
