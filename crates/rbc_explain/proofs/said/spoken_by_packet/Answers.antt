use Rattle.std.proofs.Common.{rules, ◌≡◌, refl, subst}
use Rattle.ertms_codec.specs.declared.packets.Part.{Part}
use Rattle.rbc_rule.specs.Saying.{PacketSays}
use Rattle.rbc_explain.proofs.Meaning.{by_restriction, by_lift}
use Rattle.rbc_explain.proofs.said.spoken_by_packet.Goals as goal

pub returns-in-Restrict : goal.returns-in-Restrict
returns-in-Restrict c =
    let p = c.in-Restrict in
    record {
      is = by_restriction c.args.track.now c.args.lrbg p.dir p.scale p.id p.start p.length p.front p.speed c.args.packet.now c.restriction.result p.is c.restriction.ensures.is;
      all = λ said says. let told = subst (λ (t : Part). PacketSays c.args.track.now c.args.lrbg t said) p.is says in c.restriction.ensures.all told.0 told.1.0;
    }

pub returns-else-dir-ne-BOTH_WAYS : goal.returns-else-dir-ne-BOTH_WAYS
returns-else-dir-ne-BOTH_WAYS c =
    let both : c.in-Lift.dir ≡ 2 = search rules in
    record { is = by_lift c.args.track.now c.args.lrbg c.in-Lift.dir c.in-Lift.id c.args.packet.now c.in-Lift.is both; all = λ said says. refl }
