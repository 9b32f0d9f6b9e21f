use Rattle.std.proofs.Common.{rules, ◌≡◌, ◌∙◌, ℕ, false, cond, Result, Ok, Err, sym, ap, subst}
use Rattle.std.specs.Prelude.{IfOk}
use Rattle.ertms_codec.specs.declared.from_train.FromTrain.{FromTrain}
use Rattle.rbc_settle.specs.declared.train.TrainRec.{TrainRec}
use Rattle.rbc_rule.specs.Codes.{code_of}
use Rattle.rbc_rule.specs.Effect.{is_too_high, raised, placed, answered, heard}
use Rattle.rbc_rule.specs.declared.refuse.Refusal.TheVariants.{StampTooHigh}
use Rattle.rbc_rule.proofs.train_message.heard.Goals as goal

-- the answer of a train to a stop is heard once its stamp is raised and it is placed
pub returns-in-StopAck-clause-ok : goal.returns-in-StopAck-clause-ok
returns-in-StopAck-clause-ok c =
    let plan = c.args.track.now in
    let train = c.args.train.now in
    let id = c.in-StopAck.id in
    let answer = c.in-StopAck.answer in
    let position = c.in-StopAck.position in
    let low : is_too_high c.in-StopAck.stamp ≡ false = search rules in
    let there : c.place-in-StopAck.new.train ≡ placed plan position (raised c.in-StopAck.stamp train) = search rules in
    let same : answered id answer c.place-in-StopAck.new.train ≡ heard plan c.args.message.now train =
    ap (answered id answer) there
    ∙ sym (ap (λ (m : FromTrain). heard plan m train) c.in-StopAck.is ∙ ap (λ b. cond b (Err (code_of StampTooHigh)) (answered id answer (placed plan position (raised c.in-StopAck.stamp train)))) low) in
    subst (λ (r : Result TrainRec ℕ). IfOk c.answered.result (λ after. Ok after ≡ r)) same c.answered.ensures.ok
