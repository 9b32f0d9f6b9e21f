-- The lists of engines, as they are read (own rule).
use Rattle.std.specs.Prelude.{◌≡◌, ℕ, ◌||◌, if◌then◌else◌, Bool, true, false, List, [], ◌∷◌, Option, Some, IsTrue}
use Rattle.std.specs.List.{list_any, All}
use Rattle.std.specs.Option.{option_map_or}
use Rattle.rbc_maps.specs.Maps.{value_of, keys}
use Rattle.rbc_zones.specs.declared.segment.Segment.{Segment}
use Rattle.rbc_settle.specs.declared.train.TrainRec.{TrainRec}
use Rattle.rbc_settle.specs.Numbers.{has_number, with_number, without_number}
use Rattle.rbc_records.specs.declared.record.Key.{Key}
use Rattle.rbc_records.specs.declared.record.Key.TheVariants as key
use Rattle.rbc_records.specs.declared.record.Rec.{Rec}
use Rattle.rbc_records.specs.declared.record.Rec.TheVariants as rec
use Rattle.rbc_records.specs.declared.search.Sought.{Sought}
use Rattle.rbc_records.specs.Notes.{Notes, knows, same_key}
use Rattle.rbc_records.specs.SoughtTrains.{is_sought}
use Rattle.rbc_rule.specs.World.{World}
use Rattle.rbc_rule.specs.Records.{engines_record, list_of, record_of}

-- the engines in a record
abbrev pub engines_in : Option Rec → List ℕ
engines_in (Some (rec.Engines engines)) = engines
engines_in _ = []

-- a key is that of a list of engines
abbrev pub is_list : Key → Bool
is_list key.Roster = true
is_list (key.Line line) = true
is_list key.Unplaced = true
is_list (key.Train engine) = false
is_list key.Stops = false
is_list key.Limits = false

-- the engines in a list of the world
abbrev pub engines_at : World → Key → List ℕ
engines_at w list = engines_in (record_of w list)

-- a list has the engines of the trains that pass a test
abbrev pub AreEnginesOf : (TrainRec → Bool) → World → List ℕ → Type 0
AreEnginesOf is_one w engines = (engine : ℕ) → has_number engines engine ≡ option_map_or is_one (value_of w.trains engine) false

-- a stop that begins can concern a train: it has no place, or stands on the line of a segment
abbrev pub may_stop : List Segment → TrainRec → Bool
may_stop segments train =
    same_key key.Unplaced (list_of train) || list_any (λ segment. same_key (key.Line segment.line) (list_of train)) segments

-- the train of each of these engines was read
abbrev pub AreTrainsKnown : Notes → List ℕ → Type 0
AreTrainsKnown notes engines = All (λ engine. IsTrue (knows notes (key.Train engine))) engines

-- what a train that moves from one list to another writes: nothing if both are the same
abbrev pub moves : World → ℕ → Key → Key → List (Key × Option Rec)
moves w engine left entered =
    if same_key left entered then []
    else (left, engines_record (without_number engine (engines_at w left))) ∷ (entered, engines_record (with_number engine (engines_at w entered))) ∷ []

-- These are engines of trains of the world, and they include those of all trains that a command seeks.
pub record HaveSought (what : Sought) (w : World) (engines : List ℕ) : Type 0 where
  pub enrolled : (engine : ℕ) → has_number engines engine ≡ true → has_number (keys w.trains) engine ≡ true
  pub none_missed : (engine : ℕ) (train : TrainRec) → value_of w.trains engine ≡ Some train → is_sought what train ≡ true → has_number engines engine ≡ true
