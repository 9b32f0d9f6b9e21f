-- The world as single records (own rule).
use Rattle.std.specs.Prelude.{◌≡◌, ℕ, ◌==◌, if◌then◌else◌, List, [], ◌∷◌, Option, Some, None, option_map, IsTrue}
use Rattle.std.specs.List.{filter}
use Rattle.std.specs.Option.{option_map_or}
use Rattle.rbc_maps.specs.Maps.{value_of, keys}
use Rattle.rbc_settle.specs.declared.train.TrainRec.{TrainRec}
use Rattle.rbc_settle.specs.Settling.{Stops, Limits}
use Rattle.rbc_records.specs.declared.record.Key.{Key}
use Rattle.rbc_records.specs.declared.record.Key.TheVariants as key
use Rattle.rbc_records.specs.declared.record.Rec.{Rec}
use Rattle.rbc_records.specs.declared.record.Rec.TheVariants as rec
use Rattle.rbc_records.specs.Notes.{Notes, knows, noted, same_key}
use Rattle.rbc_rule.specs.World.{World}

-- a list of engines as a record: an empty one has none
abbrev pub engines_record : List ℕ → Option Rec
engines_record [] = None
engines_record (engine ∷ engines) = Some (rec.Engines (engine ∷ engines))

-- stops, or restrictions, have no record if none was ever given
abbrev pub stops_record : Stops → Option Rec
stops_record stops = if stops.last == 0 then None else Some (rec.Stops stops)

abbrev pub limits_record : Limits → Option Rec
limits_record limits = if limits.last == 0 then None else Some (rec.Limits limits)

-- the list in which a train stands: that of its line, or that of the trains without a place
abbrev pub list_of : TrainRec → Key
list_of train = option_map_or (λ place. key.Line place.line) train.place key.Unplaced

-- the engines, ascending, of the trains that stand in a list
abbrev pub engines_listed : Key → List (ℕ × TrainRec) → List ℕ
engines_listed list trains = keys (filter (λ train. same_key list (list_of train.1)) trains)

-- what stands under each key
abbrev pub record_of : World → Key → Option Rec
record_of w key.Roster = engines_record (keys w.trains)
record_of w (key.Train engine) = option_map rec.Train (value_of w.trains engine)
record_of w key.Stops = stops_record w.stops
record_of w key.Limits = limits_record w.limits
record_of w (key.Line line) = engines_record (engines_listed (key.Line line) w.trains)
record_of w key.Unplaced = engines_record (engines_listed key.Unplaced w.trains)

-- what was read are the world's records
abbrev pub Agrees : Notes → World → Type 0
Agrees notes w = (k : Key) → IsTrue (knows notes k) → noted notes k ≡ record_of w k
