use Rattle.std.proofs.Common.{rules, ◌≡◌, [], ◌∷◌, refl, subst, pos}
use Rattle.ertms_codec.specs.declared.to_train.ToTrain.{ToTrain}
use Rattle.rbc_rule.specs.Saying.{Says}
use Rattle.rbc_explain.proofs.Meaning.{by_stop_before, not_revoked, by_stop, by_revocation, by_escalation, not_on_stop}
use Rattle.rbc_explain.proofs.said.spoken_by.Goals as goal

pub returns-else-reference-ne0 : goal.returns-else-reference-ne0
returns-else-reference-ne0 c =
    let m = c.in-StopAt in
    let zero : m.reference ≡ pos 0 = search rules in
    record {
      is = by_stop_before c.args.track.now m.head m.id m.scale m.reference m.dir m.distance c.args.message.now c.stop_before.result m.is zero c.stop_before.ensures.is;
      revoked = not_revoked c.args.track.now m.head.lrbg m.dir m.scale m.distance c.args.is_escalated c.stop_before.result c.stop_before.ensures.is;
      all = λ said on says. let told = subst (λ (t : ToTrain). Says c.args.track.now t (said ∷ [])) m.is says in c.stop_before.ensures.all told.1.0 told.1.1.0;
    }

pub returns-in-Stop : goal.returns-in-Stop
returns-in-Stop c = record { is = by_stop c.args.track.now c.in-Stop.head c.in-Stop.id c.args.message.now c.in-Stop.is; revoked = tt; all = λ said on says. refl }

pub returns-then-is_escalated : goal.returns-then-is_escalated
returns-then-is_escalated c =
    record { is = by_escalation c.args.track.now c.in-Revoke.head c.in-Revoke.id c.args.message.now c.in-Revoke.is; revoked = c.if-is_escalated.true; all = λ said on says. refl }

pub returns-else-is_escalated : goal.returns-else-is_escalated
returns-else-is_escalated c =
    record { is = by_revocation c.args.track.now c.in-Revoke.head c.in-Revoke.id c.args.message.now c.in-Revoke.is; revoked = c.if-is_escalated.false; all = λ said on says. refl }

pub returns-in-General-clause-all : goal.returns-in-General-clause-all
returns-in-General-clause-all c = λ said on says.
    let m = c.in-General in
    absurd (not_on_stop c.args.track.now m.head.lrbg m.packets said on (subst (λ (t : ToTrain). Says c.args.track.now t (said ∷ [])) m.is says))
