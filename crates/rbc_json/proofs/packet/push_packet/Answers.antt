use Rattle.std.proofs.Common.{ℕ, List, Some, refl, ap, subst}
use Rattle.std.proofs.lemmas.Result.{on_ok_weaker}
use Rattle.ertms_codec.specs.declared.packets.Part.{Part}
use Rattle.rbc_rule.specs.Saying.{PacketSays}
use Rattle.rbc_json.specs.Json.{Null}
use Rattle.rbc_json.specs.Packets.{restrict_object, lift_object}
use Rattle.rbc_json.proofs.Saying.{packet_carried, no_stretch}
use Rattle.rbc_json.proofs.packet.push_packet.Goals as goal

pub returns-in_ok-text-in-Some : goal.returns-in_ok-text-in-Some
returns-in_ok-text-in-Some c = λ values is.
    let value = restrict_object (record { number = c.args.one.number; id = c.in-Restrict.id; told = c.in-Some.told; unit = c.in-Told.unit; segment = c.in-Told.segment; why = c.in-Told.why }) in
    on_ok_weaker c.add.result
    (λ more. (
      value,
      more,
      λ said says. packet_carried c.args.track.now c.args.lrbg c.args.packet _ c.args.one.number c.args.one.what _ value c.in-Restrict.is c.in-Told.is (c.in-Some.told, c.in-Some.ensures.is, refl),
    ))
    (c.add.ensures values value is (ap (λ (text : List ℕ). Some text) c.in_ok-text-in-Some.ensures))

pub returns-in-None : goal.returns-in-None
returns-in-None c = λ values is.
    on_ok_weaker c.add-in-None.result
    (λ more. (Null, more, λ said says. absurd (no_stretch c.args.track.now c.args.lrbg _ _ _ _ _ _ _ c.args.packet said _ c.in-Restrict.is says (c.in-None.ensures.all said (subst (λ (x : Part). PacketSays c.args.track.now c.args.lrbg x said) c.in-Restrict.is says)) refl)))
    (c.add-in-None.ensures values Null is refl)

pub returns-in-Revoked : goal.returns-in-Revoked
returns-in-Revoked c = λ values is.
    on_ok_weaker c.add-in-Revoked.result
    (λ more. (Null, more, λ said says. packet_carried c.args.track.now c.args.lrbg c.args.packet _ c.args.one.number c.args.one.what _ Null c.in-Restrict.is c.in-Revoked.is tt))
    (c.add-in-Revoked.ensures values Null is refl)

pub returns-in-Unknown : goal.returns-in-Unknown
returns-in-Unknown c = λ values is.
    on_ok_weaker c.add-in-Unknown.result
    (λ more. (Null, more, λ said says. packet_carried c.args.track.now c.args.lrbg c.args.packet _ c.args.one.number c.args.one.what _ Null c.in-Restrict.is c.in-Unknown.is tt))
    (c.add-in-Unknown.ensures values Null is refl)

pub returns-in-Revoked-what : goal.returns-in-Revoked-what
returns-in-Revoked-what c = λ values is.
    let value = lift_object c.args.one.number c.in-Lift.id c.in-Revoked-what.why in
    on_ok_weaker c.add-in-Revoked-what.result
    (λ more. (value, more, λ said says. packet_carried c.args.track.now c.args.lrbg c.args.packet _ c.args.one.number c.args.one.what _ value c.in-Lift.is c.in-Revoked-what.is refl))
    (c.add-in-Revoked-what.ensures values value is refl)

pub returns-in-Told-what : goal.returns-in-Told-what
returns-in-Told-what c = λ values is.
    on_ok_weaker c.add-in-Told-what.result
    (λ more. (Null, more, λ said says. packet_carried c.args.track.now c.args.lrbg c.args.packet _ c.args.one.number c.args.one.what _ Null c.in-Lift.is c.in-Told-what.is tt))
    (c.add-in-Told-what.ensures values Null is refl)

pub returns-in-Unknown-what : goal.returns-in-Unknown-what
returns-in-Unknown-what c = λ values is.
    on_ok_weaker c.add-in-Unknown-what.result
    (λ more. (Null, more, λ said says. packet_carried c.args.track.now c.args.lrbg c.args.packet _ c.args.one.number c.args.one.what _ Null c.in-Lift.is c.in-Unknown-what.is tt))
    (c.add-in-Unknown-what.ensures values Null is refl)
