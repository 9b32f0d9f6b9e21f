-- Which trains a command touches, and after which messages a train may have to be told something (own rule). Every train was settled before it, so a stop or a restriction that begins can only be told
-- itself, and one that ends can only be revoked.
use Rattle.std.specs.Prelude.{◌≡◌, ◌⊎◌, ℕ, ◌<◌, Bool, true, ◌==◌, nat_lt, ◌&&◌, ◌||◌, if◌then◌else◌, List, length, Option, Some, None, is_some}
use Rattle.ertms_codec.specs.declared.from_train.FromTrain.{FromTrain}
use Rattle.ertms_codec.specs.declared.from_train.FromTrain.TheVariants.{Report, Ack, StopAck}
use Rattle.rbc_track.specs.Plan.{Plan}
use Rattle.rbc_maps.specs.Maps.{has}
use Rattle.rbc_maps.specs.Numbered.{Numbered}
use Rattle.rbc_ids.specs.Table.{is_told}
use Rattle.rbc_zones.specs.declared.segment.Segment.{Segment}
use Rattle.rbc_zones.specs.Limits.{Limit}
use Rattle.rbc_settle.specs.declared.train.TrainRec.{TrainRec}
use Rattle.rbc_settle.specs.Numbers.{has_number}
use Rattle.rbc_settle.specs.Trains.{stop_identifiers, limit_identifiers}
use Rattle.rbc_settle.specs.Settling.{Stops, Limits, concern_to, limit_told_to}
use Rattle.rbc_records.specs.SoughtTrains.{is_concern}
use Rattle.rbc_rule.specs.declared.restriction.Restriction.{Restriction}
use Rattle.rbc_settle.specs.declared.single_change.Change.{Change}
use Rattle.rbc_settle.specs.declared.single_change.Change.TheVariants as change
use Rattle.rbc_rule.specs.World.{World}
use Rattle.rbc_rule.specs.Effect.{with_next, with_less}

-- a stop that begins concerns a train that has a free identifier
abbrev pub is_stop_for : TrainRec → ℕ × List Segment → Bool
is_stop_for train stop = nat_lt (length train.stops) stop_identifiers && is_concern (concern_to train stop)

-- a restriction that begins concerns a train that has a free identifier
abbrev pub is_limit_for : ℕ → TrainRec → Limit → Bool
is_limit_for horizon train limit = nat_lt (length train.limits) limit_identifiers && is_some (limit_told_to horizon train.place limit)

-- a train has been told of a stop, or stops at once for it
abbrev pub has_stop : TrainRec → ℕ → Bool
has_stop train number = is_told train.stops number || has_number train.forced number

abbrev pub has_limit : TrainRec → ℕ → Bool
has_limit train number = is_told train.limits number

-- A change touches a train if the stop or the restriction that begins concerns it, or if it has the one that ends.
abbrev pub touches : Plan → Change → TrainRec → Bool
touches plan (change.Stop number None) train = has_stop train number
touches plan (change.Stop number (Some area)) train = is_stop_for train (number, area.now)
touches plan (change.Limit number None) train = has_limit train number
touches plan (change.Limit number (Some limit)) train = is_limit_for plan.horizon train limit.now

-- ---- what a message changes

-- all identifiers were held before, and now fewer are: what waited for one may be told
abbrev pub has_made_room : ℕ → ℕ → ℕ → Bool
has_made_room count before after = before == count && nat_lt after before

-- Something may have to be told to a train after its message, or revoked. A settled train that acknowledges a message by its stamp
-- stays settled, unless that makes room.
abbrev pub may_be_told : FromTrain → TrainRec → TrainRec → Bool
may_be_told (Report stamp engine position) before after = true
may_be_told (Ack stamp engine acked) before after =
    has_made_room stop_identifiers (length before.stops) (length after.stops)
    || has_made_room limit_identifiers (length before.limits) (length after.limits)
may_be_told (StopAck stamp engine id answer position) before after = true

-- ---- what a command changes

-- the restriction that the signaller gives
abbrev pub limit_of : Restriction → Limit
limit_of new = record { segment = new.segment; dirs = new.dirs; speed = new.speed; front = new.front }

-- a value becomes active, under a new number
pub record HasBegun {V : Type 0} (number : ℕ) (value : V) (old new : Numbered V) : Type 0 where
  pub above : old.last < number
  pub next : new ≡ with_next number value old

-- the stops and the restrictions, before and after a change
abbrev pub HasChanged : Change → World → Stops → Limits → Type 0
HasChanged (change.Stop number None) w stops limits = (stops ≡ with_less number w.stops) × (limits ≡ w.limits)
HasChanged (change.Stop number (Some area)) w stops limits = HasBegun number area.now w.stops stops × (limits ≡ w.limits)
HasChanged (change.Limit number None) w stops limits = (stops ≡ w.stops) × (limits ≡ with_less number w.limits)
HasChanged (change.Limit number (Some limit)) w stops limits = (stops ≡ w.stops) × HasBegun number limit.now w.limits limits

-- the stop that ends, if one does
abbrev pub released_by : Change → Option ℕ
released_by (change.Stop number None) = Some number
released_by (change.Stop number (Some area)) = None
released_by (change.Limit number limit) = None

-- a value becomes active under a number, or what was active under it ends
abbrev pub BeginsOrEnds : {V : Type 0} → ℕ → Numbered V → Numbered V → Type 0
BeginsOrEnds {V} number old new = ((value : V) × HasBegun number value old new) ⊎ (new ≡ with_less number old)

-- the stop that has ended
abbrev pub released_from : ℕ → Stops → Option ℕ
released_from number stops = if has stops.active number then None else Some number
