-- The answer to an input, which was decided by the records of a desk.
use Rattle.std.proofs.Common.{◌≡◌, List, Option}
use Rattle.rbc_track.specs.Plan.{Plan}
use Rattle.rbc_settle.specs.declared.sent.Sent.{Sent}
use Rattle.rbc_records.specs.declared.record.Key.{Key}
use Rattle.rbc_records.specs.declared.record.Rec.{Rec}
use Rattle.rbc_records.specs.Notes.{Whole, Extends, record_in}
use Rattle.rbc_rule.specs.declared.input.Input.{Input}
use Rattle.rbc_rule.specs.declared.outcome.Reply.{Reply}
use Rattle.rbc_rule.specs.Right.{IsRight}
use Rattle.rbc_rule.specs.Step.{step}
use Rattle.rbc_rule.specs.World.{World}
use Rattle.rbc_text.specs.Held.{AreRecordsOf}
use Rattle.rbc_live.proofs.Steps.{may_be, same_whole}

-- it is the step's, whatever the order of what was read
pub replies : (plan : Plan) (input : Input) (old read : List (Key × Rec)) (reply : Reply) (writes : List (Key × Option Rec)) (messages : List Sent)
    → Extends (Whole old) (Whole read) → IsRight plan input (Whole read) reply writes messages
    → (w : World) → AreRecordsOf plan (record_in old) w → reply ≡ (step plan w input).reply
replies plan input old read reply writes messages more right w are = (right w (may_be plan old read w (same_whole old read more) are)).answer
