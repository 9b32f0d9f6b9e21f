-- The mails of a run ascend in their engine.
use Rattle.std.proofs.Common.{ℕ, ◌+◌, List, [], ◌∷◌, ◌++◌, map, length, refl, arith}
use Rattle.ertms_codec.specs.declared.to_train.ToTrain.{ToTrain}
use Rattle.rbc_track.specs.Plan.{Plan}
use Rattle.rbc_maps.specs.Maps.{IsMap, with_value, value_or}
use Rattle.rbc_maps.proofs.MapPlaces.{rises-with_value}
use Rattle.rbc_rule.specs.declared.input.Input.{Input}
use Rattle.rbc_rule.specs.Step as rule
use Rattle.rbc_engine.specs.Mail.{Mail}
use Rattle.rbc_engine.specs.Serial.{Desk, new_desk, mail, post_all, step, serial}

-- messages that join their outboxes
posted : (input : ℕ) (sent : List (ℕ × List ToTrain)) (boxes : List (ℕ × List Mail)) → IsMap boxes → IsMap (post_all input sent boxes)
posted input [] boxes ascend = ascend
posted input ((engine, []) ∷ sent) boxes ascend = posted input sent boxes ascend
posted input ((engine, message ∷ messages) ∷ sent) boxes ascend =
    let mails = value_or [] boxes engine ++ map (mail input) (message ∷ messages) in
    posted input sent (with_value engine mails boxes) (rises-with_value engine mails 0 boxes (omega arith) ascend)

after : (plan : Plan) (desk : Desk) (inputs : List Input) → IsMap desk.outboxes → IsMap (serial plan desk inputs).outboxes
after plan desk [] ascend = ascend
after plan desk (input ∷ inputs) ascend =
    after plan (step plan desk input) inputs (posted (length desk.results + 1) (rule.step plan desk.world input).sent desk.outboxes ascend)

pub outboxes_ascend : (plan : Plan) (inputs : List Input) → IsMap (serial plan new_desk inputs).outboxes
outboxes_ascend plan inputs = after plan new_desk inputs refl
