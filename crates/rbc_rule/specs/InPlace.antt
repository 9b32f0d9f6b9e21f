-- A message that is taken into the record of its train where that stands (own rule).
use Rattle.std.specs.Prelude.{◌≡◌, ℕ, Bool, false, ◌==◌, nat_lt, ◌&&◌, max, if◌then◌else◌, List, [], length, Option}
use Rattle.std.specs.Option.{option_map_or}
use Rattle.ertms_codec.specs.declared.from_train.FromTrain.{FromTrain}
use Rattle.rbc_track.specs.Plan.{Plan}
use Rattle.rbc_place.specs.Placing.{Place}
use Rattle.rbc_ids.specs.Table.{is_unanswered}
use Rattle.rbc_ids.specs.declared.slot.Slot.{Slot}
use Rattle.rbc_ids.specs.declared.slot.Slot.TheVariants.{Used, Revoking}
use Rattle.rbc_settle.specs.declared.train.TrainRec.{TrainRec}
use Rattle.rbc_settle.specs.Trains.{stop_identifiers, limit_identifiers}
use Rattle.rbc_records.specs.declared.record.Key.{Key}
use Rattle.rbc_records.specs.declared.record.Key.TheVariants as key
use Rattle.rbc_records.specs.declared.record.Rec.{Rec}
use Rattle.rbc_records.specs.declared.record.Rec.TheVariants as rec
use Rattle.rbc_records.specs.Notes.{Whole, record_in}
use Rattle.rbc_records.specs.Writes.{written}
use Rattle.rbc_rule.specs.declared.input.Input.TheVariants.{Received}
use Rattle.rbc_rule.specs.declared.outcome.Reply.{Reply}
use Rattle.rbc_rule.specs.World.{World}
use Rattle.rbc_rule.specs.Effect.{unknown_stamp}
use Rattle.rbc_rule.specs.Right.{IsStep, MayBe}

-- a slot counts the reports of its train
abbrev pub is_counted : Slot → Bool
is_counted (Used used) = is_unanswered used
is_counted (Revoking stamp) = false

-- the list in which a train at this place stands
abbrev pub list_at : Option Place → Key
list_at place = option_map_or (λ p. key.Line p.line) place key.Unplaced

-- a train holds neither all identifiers for stops nor all for restrictions
abbrev pub has_room : TrainRec → Bool
has_room train = nat_lt (length train.stops) stop_identifiers && nat_lt (length train.limits) limit_identifiers

-- the stamp of a train after T_TRAIN of its message (R-INPUT-6)
abbrev pub stamp_after : ℕ → ℕ → ℕ
stamp_after before stamp = if stamp == unknown_stamp then before else max before stamp

-- each record is as before
abbrev pub AreSame : List (Key × Rec) → List (Key × Rec) → Type 0
AreSame old new = (k : Key) → record_in new k ≡ record_in old k

-- the reply and the writes are those of the message's step, which sends nothing
pub record IsHeardInPlace (plan : Plan) (message : FromTrain) (reply : Reply) (old new : List (Key × Rec)) : Type 0 where
  pub writes : List (Key × Option Rec)
  pub records : (k : Key) → record_in new k ≡ written writes (record_in old) k
  pub step : (w : World) → MayBe plan (Whole old) w → IsStep plan (Received message) w reply writes []
