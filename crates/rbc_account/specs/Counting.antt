-- What a stop or a restriction means for the trains, counted.
use Rattle.std.specs.Prelude.{◌≡◌, ℕ, ◌+◌, Bool, ◌==◌, if◌then◌else◌, List, length, Option, None, option_map, is_none}
use Rattle.std.specs.List.{filter, filter_map}
use Rattle.rbc_maps.specs.Maps.{value_of}
use Rattle.rbc_ids.specs.Table.{is_told}
use Rattle.rbc_zones.specs.declared.segment.Segment.{Segment}
use Rattle.rbc_zones.specs.Limits.{Limit}
use Rattle.rbc_settle.specs.declared.train.TrainRec.{TrainRec}
use Rattle.rbc_records.specs.declared.record.Key.{Key}
use Rattle.rbc_records.specs.declared.record.Rec.{Rec}
use Rattle.rbc_rule.specs.declared.input.Input.{Input}
use Rattle.rbc_rule.specs.declared.input.Input.TheVariants as input
use Rattle.rbc_rule.specs.declared.outcome.Reply.{Reply}
use Rattle.rbc_rule.specs.declared.outcome.Reply.TheVariants.{Done, Refused}
use Rattle.rbc_live.specs.Known.{train_in, engines_in, active_stops, active_limits}
use Rattle.rbc_live.specs.Waits.{stop_waits, limit_waits}
use Rattle.rbc_account.specs.declared.counts.Counts.{Counts}
use Rattle.rbc_account.specs.declared.counts.Share.{Share}
use Rattle.rbc_account.specs.declared.counts.Share.TheVariants.{Told, Untold, Unplaced, Unconcerned}

-- what a stop means for a train
abbrev pub stop_share : ℕ × List Segment → TrainRec → Share
stop_share stop train = if is_told train.stops stop.0 then Told else (if stop_waits train stop then Untold else Unconcerned)

-- what a restriction means for a train
abbrev pub limit_share : ℕ → ℕ × Limit → TrainRec → Share
limit_share horizon limit train =
    if is_told train.limits limit.0 then Told
    else (if is_none train.place then Unplaced else (if limit_waits horizon train limit then Untold else Unconcerned))

-- what a stop or a restriction means for the train with an engine number, if it is enrolled
abbrev pub stop_share_at : List (Key × Rec) → ℕ × List Segment → ℕ → Option Share
stop_share_at records stop engine = option_map (stop_share stop) (train_in records engine)

abbrev pub limit_share_at : List (Key × Rec) → ℕ → ℕ × Limit → ℕ → Option Share
limit_share_at records horizon limit engine = option_map (limit_share horizon limit) (train_in records engine)

-- what a stop or a restriction means for each train
abbrev pub stop_shares : List (Key × Rec) → ℕ × List Segment → List Share
stop_shares records stop = filter_map (stop_share_at records stop) (engines_in records)

abbrev pub limit_shares : List (Key × Rec) → ℕ → ℕ × Limit → List Share
limit_shares records horizon limit = filter_map (limit_share_at records horizon limit) (engines_in records)

-- the position of a share among all kinds
abbrev pub place_of : Share → ℕ
place_of Told = 0
place_of Untold = 1
place_of Unplaced = 2
place_of Unconcerned = 3

-- whether two shares are the same
abbrev pub is_share : Share → Share → Bool
is_share one other = place_of one == place_of other

-- how many of the shares are this one
abbrev pub how_many : Share → List Share → ℕ
how_many wanted shares = length (filter (is_share wanted) shares)

-- the counts of shares, one of each train
abbrev pub counts_of : List Share → Counts
counts_of shares = record {
  trains = length shares;
  told = how_many Told shares;
  untold = how_many Untold shares;
  unplaced = how_many Unplaced shares;
  unconcerned = how_many Unconcerned shares;
}

-- they add up to the trains
abbrev pub AddUp : Counts → Type 0
AddUp counts = counts.told + counts.untold + counts.unplaced + counts.unconcerned ≡ counts.trains

-- what an active stop or restriction means for the trains, counted
abbrev pub stop_counts : List (Key × Rec) → ℕ → Option Counts
stop_counts records number = option_map (λ area. counts_of (stop_shares records (number, area))) (value_of (active_stops records) number)

abbrev pub limit_counts : List (Key × Rec) → ℕ → ℕ → Option Counts
limit_counts records horizon number = option_map (λ limit. counts_of (limit_shares records horizon (number, limit))) (value_of (active_limits records) number)

-- the counts after an accepted input, if a stop or a restriction began
abbrev pub counts_by : ℕ → List (Key × Rec) → Input → Option Counts
counts_by horizon records (input.Stop number segments) = stop_counts records number
counts_by horizon records (input.Restrict number segment dirs speed front) = limit_counts records horizon number
counts_by horizon records (input.Enrol engine length) = None
counts_by horizon records (input.Withdraw engine) = None
counts_by horizon records (input.Release number) = None
counts_by horizon records (input.Lift number) = None
counts_by horizon records (input.Received message) = None
counts_by horizon records (input.Bad code) = None

-- none after one that was refused
abbrev pub counts_after : ℕ → List (Key × Rec) → Input → Reply → Option Counts
counts_after horizon records input (Done sent) = counts_by horizon records input
counts_after horizon records input (Refused code) = None
