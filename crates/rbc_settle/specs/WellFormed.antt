-- What is true of each train, and kept by settling it (own rule).
use Rattle.std.specs.Prelude.{◌≡◌, ℕ, ◌≤◌, Bool, true, false, ◌==◌, nat_le, List, [], ◌∷◌, ◌++◌, map, Option, Some, None, if◌then◌else◌}
use Rattle.std.specs.List.{All, filter_map}
use Rattle.rbc_track.specs.Plan.{Plan, group_of}
use Rattle.rbc_track.specs.declared.group.Way.TheVariants.{Up, Down}
use Rattle.rbc_zones.specs.Placing.{Place, LiesOnLine}
use Rattle.rbc_maps.specs.Numbered.{AreNumbered}
use Rattle.rbc_ids.specs.declared.slot.Slot.{Slot}
use Rattle.rbc_ids.specs.declared.slot.Slot.TheVariants.{Used, Revoking}
use Rattle.rbc_ids.specs.declared.slot.Kind.{Kind}
use Rattle.rbc_ids.specs.declared.slot.Kind.TheVariants.{Conditional, Unconditional, Restriction}
use Rattle.rbc_ids.specs.Table.{Slots, stamp_of, is_conditional, most_reports}
use Rattle.rbc_settle.specs.declared.train.TrainRec.{TrainRec}
use Rattle.rbc_settle.specs.Trains.{max_engine, max_train_length}
use Rattle.rbc_settle.specs.Numbers.{AreNumbers, has_number}
use Rattle.rbc_settle.specs.Settling.{Stops, Limits, last_stamp, settled}
use Rattle.rbc_settle.specs.UpToDate.{HasTables}

-- no number occurs twice in a list
abbrev pub AreDistinct : List ℕ → Type 0
AreDistinct [] = Unit
AreDistinct (n ∷ ns) = (has_number ns n ≡ false) × AreDistinct ns

-- a number was given: it is above 0, and not above the last one
abbrev pub IsGiven : ℕ → ℕ → Type 0
IsGiven last n = (1 ≤ n) × (n ≤ last)

-- The number that a slot tells: a slot that is being revoked tells none.
abbrev pub number_in : Slot → Option ℕ
number_in (Used used) = Some used.number
number_in (Revoking stamp) = None

-- the numbers that a table tells, in ascending order of the identifiers
abbrev pub told_numbers : Slots → List ℕ
told_numbers slots = filter_map (λ held. number_in held.1) slots

-- the stamps of the slots of a table
abbrev pub stamps_in : Slots → List ℕ
stamps_in slots = map (λ held. stamp_of held.1) slots

-- the stamps of all slots of a train, those of its stops first
abbrev pub stamps : TrainRec → List ℕ
stamps train = stamps_in train.stops ++ stamps_in train.limits

-- No other slot has the stamp of a stop: neither a later stop nor a restriction. Restrictions may share a stamp.
abbrev pub AreApart : List ℕ → List ℕ → Type 0
AreApart [] limits = Unit
AreApart (stamp ∷ stops) limits = (has_number stops stamp ≡ false) × (has_number limits stamp ≡ false) × AreApart stops limits

-- a slot has such a kind, if it is used
abbrev pub has_kind : (Kind → Bool) → Slot → Bool
has_kind is_kind (Used used) = is_kind used.kind
has_kind is_kind (Revoking stamp) = true

-- the kinds of stops
abbrev pub is_stop_kind : Kind → Bool
is_stop_kind Conditional = true
is_stop_kind Unconditional = true
is_stop_kind Restriction = false

-- the kind of restrictions
abbrev pub is_limit_kind : Kind → Bool
is_limit_kind Conditional = false
is_limit_kind Unconditional = false
is_limit_kind Restriction = true

-- reports are counted only for a stop that was told conditionally, to at most 3
abbrev pub has_count : Slot → Bool
has_count (Used used) = if is_conditional used.kind then nat_le used.count most_reports else used.count == 0
has_count (Revoking stamp) = true

-- All slots of a table have such a kind and a count that they can have, and tell numbers that were given, each under one
-- identifier.
pub record AreGoodSlots (is_kind : Kind → Bool) (last : ℕ) (slots : Slots) : Type 0 where
  pub kinds : All (λ held. has_kind is_kind held.1 ≡ true) slots
  pub counts : All (λ held. has_count held.1 ≡ true) slots
  pub given : All (IsGiven last) (told_numbers slots)
  pub once : AreDistinct (told_numbers slots)

-- A place is on the track: the track has its balise group, on its line, at its position and with its direction, and the interval
-- lies on that line.
pub record IsPlaceOn (plan : Plan) (p : Place) : Type 0 where
  pub group : group_of plan p.lrbg ≡ Some (record { line = p.line; at = p.at; nominal = if p.same then Up else Down })
  pub on_line : LiesOnLine plan p

-- the place of a train is on the track, if it has one
abbrev pub HasPlaceOn : Plan → Option Place → Type 0
HasPlaceOn plan None = Unit
HasPlaceOn plan (Some p) = IsPlaceOn plan p

-- A train that can be on a track where these stops and restrictions are active: NID_ENGINE has 24 bits, and its length
-- is 1 to 40,000 units; it stands on the track; the numbers that it rejected and that it is told were given; no stamp
-- of a slot is above its last one; and no other slot has the stamp of a stop.
pub record IsWellFormedTrain (plan : Plan) (stops : Stops) (limits : Limits) (train : TrainRec) : Type 0 where
  pub engine : train.engine ≤ max_engine
  pub length : (1 ≤ train.length) × (train.length ≤ max_train_length)
  pub place : HasPlaceOn plan train.place
  pub forced_ascend : AreNumbers train.forced
  pub forced : All (IsGiven stops.last) train.forced
  pub tables : HasTables train
  pub stop_slots : AreGoodSlots is_stop_kind stops.last train.stops
  pub limit_slots : AreGoodSlots is_limit_kind limits.last train.limits
  pub stamp : train.stamp ≤ last_stamp
  pub stamps_within : All (λ s. s ≤ train.stamp) (stamps train)
  pub stamps_apart : AreApart (stamps_in train.stops) (stamps_in train.limits)

-- A well-formed train is well-formed after it was settled.
abbrev pub SettlingKeepsTrains : Type 0
SettlingKeepsTrains =
    (plan : Plan) (stops : Stops) (limits : Limits) (train : TrainRec) → AreNumbered stops → AreNumbered limits
    → IsWellFormedTrain plan stops limits train → IsWellFormedTrain plan stops limits (settled plan stops limits train)
