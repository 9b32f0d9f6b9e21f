-- The places before which trains were told to stop (own rule).
use Rattle.std.specs.Prelude.{ℕ, ◌+◌, ◌-◌, ◌*◌, ◌^◌, ◌==◌, nat_eq, nat_lt, nat_le, if◌then◌else◌, Option, Some, None, option_map, option_and_then, List, [], ◌∷◌}
use Rattle.std.specs.Map.{lookup}
use Rattle.ertms_codec.specs.declared.to_train.ToTrain.{ToTrain}
use Rattle.ertms_codec.specs.declared.to_train.ToTrain.TheVariants as message
use Rattle.rbc_track.specs.Plan.{Plan, group_of}
use Rattle.rbc_track.specs.declared.group.Group.{Group}
use Rattle.rbc_track.specs.declared.group.Way.{Way}
use Rattle.rbc_track.specs.declared.group.Way.TheVariants.{Up, Down}
use Rattle.rbc_settle.specs.declared.sent.Sent.{Sent}
use Rattle.rbc_rule.specs.Saying.{way_told, unit_told}
use Rattle.rbc_account.specs.declared.told_place.ToldPlace.{ToldPlace}

-- the place this far ahead of another, if it is not before the beginning of the line and fits in 32 bits
abbrev pub place_ahead : Way → ℕ → ℕ → Option ℕ
place_ahead Up from by = if nat_lt (from + by) (2 ^ 32) then Some (from + by) else None
place_ahead Down from by = if nat_le by from then Some (from - by) else None

-- the place that a message tells, this many units ahead of its balise group
abbrev pub told_from : ℕ → ℕ → ℕ → ℕ → Group → Option ToldPlace
told_from stamp scale dir distance group =
    option_and_then (λ way. option_and_then (λ unit. option_map (λ at. record { stamp = stamp; line = group.line; at = at })
    (place_ahead way group.at (distance * unit))) (unit_told scale)) (way_told group.nominal dir)

-- The stop identifier of a message 15, and the place that it tells. No other message tells a place.
abbrev pub told_by : Plan → ToTrain → Option (ℕ × ToldPlace)
told_by plan (message.StopAt head id scale reference dir distance) =
    option_and_then (λ group. option_map (λ told. (id, told)) (told_from head.stamp scale dir distance group)) (group_of plan head.lrbg)
told_by plan (message.Stop head id) = None
told_by plan (message.Revoke head id) = None
told_by plan (message.General head packets) = None

-- the number under which the place told to an engine under an identifier is kept
abbrev pub number_of : ℕ → ℕ → ℕ
number_of engine id = engine * 256 + id

-- what is kept under a number
abbrev pub kept_at : List (ℕ × ToldPlace) → ℕ → Option ToldPlace
kept_at kept number = lookup (nat_eq number) kept

-- what is kept after a place is told
abbrev pub kept_with : ℕ → Option (ℕ × ToldPlace) → (ℕ → Option ToldPlace) → ℕ → Option ToldPlace
kept_with engine None kept number = kept number
kept_with engine (Some told) kept number = if number_of engine told.0 == number then Some told.1 else kept number

-- what is kept after messages: for each engine and identifier the place that the last message 15 told
abbrev pub kept_after : Plan → (ℕ → Option ToldPlace) → List Sent → ℕ → Option ToldPlace
kept_after plan kept [] = kept
kept_after plan kept (sent ∷ more) = kept_after plan (kept_with sent.engine (told_by plan sent.message) kept) more

-- the place of a message with a stamp
abbrev pub of_stamp : ℕ → Option ToldPlace → Option ToldPlace
of_stamp stamp None = None
of_stamp stamp (Some told) = if told.stamp == stamp then Some told else None
