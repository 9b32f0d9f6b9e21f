-- The alarms of a state, one for each thing that concerns a train and is not told to it, and the lines that are written for them (own rule).
use Rattle.std.specs.Prelude.{ℕ, ◌+◌, Bool, ◌==◌, ◌&&◌, ◌||◌, nat_lt, nat_le, if◌then◌else◌, List, [], ◌∷◌, ◌++◌, map, codes, Option, Some, None}
use Rattle.std.specs.Fmt.{decimal}
use Rattle.std.specs.List.{flat_map, fold}
use Rattle.std.specs.Option.{option_map_or}
use Rattle.rbc_track.specs.Plan.{Plan}
use Rattle.rbc_place.specs.Placing.{Place}
use Rattle.rbc_maps.specs.Maps.{value_of, keys}
use Rattle.rbc_zones.specs.declared.segment.Segment.{Segment}
use Rattle.rbc_zones.specs.Limits.{Limit}
use Rattle.rbc_settle.specs.declared.train.TrainRec.{TrainRec}
use Rattle.rbc_settle.specs.Numbers.{and_number}
use Rattle.rbc_rule.specs.World.{World, new_world}
use Rattle.rbc_live.specs.declared.waiting.Waits.TheVariants.{Stop, Restriction, Again}
use Rattle.rbc_live.specs.declared.alarm.Alarm.{Alarm}
use Rattle.rbc_live.specs.declared.alarm.Alarm.TheVariants.{NoPlace, Untold}
use Rattle.rbc_live.specs.declared.alarm.Change.{Change}
use Rattle.rbc_live.specs.declared.alarm.Change.TheVariants.{Raised, Cleared}
use Rattle.rbc_live.specs.Waits.{all_waiting, kind_and_number}
use Rattle.rbc_live.specs.declared.wanted.Wanted.{Wanted}

-- ---- which alarms there are

-- A train without a place has an alarm for that: each stop stops it, and no restriction is told to it.
abbrev pub place_alarm : Option Place → List Alarm
place_alarm None = NoPlace ∷ []
place_alarm (Some p) = []

-- the alarms of a train, in their order: that it has no place, and one for each thing that waits at it
abbrev pub alarms_at : ℕ → List (ℕ × List Segment) → List (ℕ × Limit) → TrainRec → List Alarm
alarms_at horizon stops limits train = place_alarm train.place ++ map (λ waiting. Untold waiting.what) (all_waiting horizon stops limits train)

-- the alarms of the train with an engine number; none if it is not enrolled
abbrev pub alarms_of : Plan → World → ℕ → List Alarm
alarms_of plan w engine = option_map_or (alarms_at plan.horizon w.stops.active w.limits.active) (value_of w.trains engine) []

-- all alarms of a world, each with the engine number of its train: engines ascending, and those of one train in their order
abbrev pub with_engine : ℕ → List Alarm → List (ℕ × Alarm)
with_engine engine alarms = map (λ alarm. (engine, alarm)) alarms

abbrev pub all_alarms : Plan → World → List (ℕ × Alarm)
all_alarms plan w = flat_map (λ engine. with_engine engine (alarms_of plan w engine)) (keys w.trains)

-- ---- which alarms change

-- the place of an alarm among those of a train: its kind, and then its number
abbrev pub rank : Alarm → ℕ × ℕ
rank NoPlace = (0, 0)
rank (Untold what) = ((kind_and_number what).0 + 1, (kind_and_number what).1)

abbrev pub same_alarm : Alarm → Alarm → Bool
same_alarm one other = (rank one).0 == (rank other).0 && (rank one).1 == (rank other).1

abbrev pub is_earlier : Alarm → Alarm → Bool
is_earlier one other = nat_lt (rank one).0 (rank other).0 || ((rank one).0 == (rank other).0 && nat_lt (rank one).1 (rank other).1)

-- The changes for one old alarm and the present ones: each present alarm before it in the order is raised, and it is
-- cleared if it is not among the present ones.
abbrev pub and_then : Alarm → (List Alarm → List Change) → List Alarm → List Change
and_then stood later [] = Cleared stood ∷ later []
and_then stood later (first ∷ now) =
    if same_alarm stood first then later now
    else (if is_earlier stood first then Cleared stood ∷ later (first ∷ now)
    else Raised first ∷ and_then stood later now)

-- The changes from the old alarms to the present ones, both in order: the alarms that are in only one of the lists, in order.
abbrev pub changes : List Alarm → List Alarm → List Change
changes [] now = map Raised now
changes (stood ∷ others) now = and_then stood (changes others) now

-- ---- what is written

-- `place`, `stop NUMBER`, `restriction NUMBER` or `answer NUMBER`
abbrev pub alarm_text : Alarm → List ℕ
alarm_text NoPlace = codes "place"
alarm_text (Untold (Stop number)) = codes "stop " ++ decimal number
alarm_text (Untold (Restriction number)) = codes "restriction " ++ decimal number
alarm_text (Untold (Again number)) = codes "answer " ++ decimal number

-- `INPUT raised ENGINE ALARM` or `INPUT cleared ENGINE ALARM`
abbrev pub change_line : ℕ → ℕ → Change → List ℕ
change_line input engine (Raised alarm) = decimal input ++ codes " raised " ++ decimal engine ++ codes " " ++ alarm_text alarm ++ codes "\n"
change_line input engine (Cleared alarm) = decimal input ++ codes " cleared " ++ decimal engine ++ codes " " ++ alarm_text alarm ++ codes "\n"

-- a line for each alarm of one train that an input changes
abbrev pub engine_lines : ℕ → ℕ → List Alarm → List Alarm → List ℕ
engine_lines input engine old new = flat_map (change_line input engine) (changes old new)

-- the engines that are enrolled in one world or in both, ascending
abbrev pub engines_of_both : World → World → List ℕ
engines_of_both old new = fold (λ engines engine. and_number engine engines) (keys old.trains) (keys new.trains)

-- the lines of all trains, for an input that leads from one world to another
abbrev pub alarm_lines : Plan → ℕ → World → World → List ℕ
alarm_lines plan input old new = flat_map (λ engine. engine_lines input engine (alarms_of plan old engine) (alarms_of plan new engine)) (engines_of_both old new)

-- The alarm lines that are wanted: for an input whose answer is written, its lines; for the last input before the first
-- of those, a line for each alarm that stands then; otherwise nothing.
abbrev pub alarms_shown : Plan → Wanted → ℕ → World → World → List ℕ
alarms_shown plan wanted input old new =
    if wanted.alarms then (if nat_le wanted.from input then alarm_lines plan input old new
    else (if input + 1 == wanted.from then alarm_lines plan input new_world new
    else []))
    else []
