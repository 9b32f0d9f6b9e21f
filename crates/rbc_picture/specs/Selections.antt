-- What of a track is drawn (own rule). Places are in units of 10 cm.
use Rattle.std.specs.Prelude.{◌≡◌, ⊤, ℕ, ◌≤◌, Bool, true, false, ◌==◌, ◌&&◌, ◌||◌, not, nat_lt, nat_le, if◌then◌else◌, IfSome, Option, Some, None}
use Rattle.std.specs.Prelude.{is_none, is_some, option_and_then, slice_get, List, [], ◌∷◌, ◌++◌, map, filter, count_by, codes}
use Rattle.std.specs.List.{find, list_any, range_with_len}
use Rattle.rbc_place.specs.Placing as placing
use Rattle.rbc_track.specs.Plan.{Plan}
use Rattle.rbc_zones.specs.declared.segment.Segment.{Segment}
use Rattle.rbc_zones.specs.Limits.{Limit}
use Rattle.rbc_words.specs.Units.{count_text}
use Rattle.rbc_picture.specs.Titles.{ShownTrain}
use Rattle.rbc_picture.specs.declared.fault.DrawError.{DrawError}
use Rattle.rbc_picture.specs.declared.fault.DrawError.TheVariants.{Tell, NoLine, BeyondLine, NoTrain}
use Rattle.rbc_picture.specs.declared.selection.LinePart.{LinePart}
use Rattle.rbc_picture.specs.declared.selection.Selection.{Selection}
use Rattle.rbc_picture.specs.declared.selection.Selection.TheVariants as selected
use Rattle.rbc_picture.specs.declared.stretches.Stretch.{Stretch}

-- the whole of a line
abbrev pub whole_line : ℕ → LinePart
whole_line line = record { line = line; part = None }

-- what lies from one place to another meets a part of its line, if only in an end; it always meets the whole line
abbrev pub meets : Option (ℕ × ℕ) → ℕ → ℕ → Bool
meets None from to = true
meets (Some part) from to = nat_le from part.1 && nat_le part.0 to

-- the same for a stretch
abbrev pub meets_stretch : LinePart → Stretch → Bool
meets_stretch part stretch = meets part.part stretch.from stretch.to

-- a place is on the line of a part, and its interval meets the part
abbrev pub is_place_in : LinePart → Option placing.Place → Bool
is_place_in part None = false
is_place_in part (Some place) = meets part.part place.lo place.hi && place.line == part.line

-- ---- which parts are drawn

-- a segment is on a line, a stop has a segment there, and so on
abbrev pub is_segment_on : ℕ → Segment → Bool
is_segment_on line segment = segment.line == line

abbrev pub is_stop_on : ℕ → ℕ × List Segment → Bool
is_stop_on line stop = list_any (is_segment_on line) stop.1

abbrev pub is_limit_on : ℕ → ℕ × Limit → Bool
is_limit_on line limit = limit.1.segment.line == line

abbrev pub is_train_on : ℕ → ShownTrain → Bool
is_train_on line train = is_place_in (whole_line line) train.place

-- a line has a stop, a restriction or a train
abbrev pub is_busy : List (ℕ × List Segment) → List (ℕ × Limit) → List ShownTrain → ℕ → Bool
is_busy stops limits trains line =
    list_any (is_stop_on line) stops || (list_any (is_limit_on line) limits || list_any (is_train_on line) trains)

-- the train with an engine number
abbrev pub has_engine : ℕ → ShownTrain → Bool
has_engine engine train = train.engine == engine

abbrev pub train_named : ℕ → List ShownTrain → Option ShownTrain
train_named engine trains = find (has_engine engine) trains

-- the place of the train that a selection names
abbrev pub place_named : Selection → List ShownTrain → Option placing.Place
place_named (selected.Train engine) trains = option_and_then (λ train. train.place) (train_named engine trains)
place_named selected.All trains = None
place_named selected.Busy trains = None
place_named (selected.Lines parts) trains = None

-- the interval of a place lies within two places
abbrev pub Surrounds : ℕ × ℕ → placing.Place → Type 0
Surrounds around place = (around.0 ≤ place.lo) × (place.hi ≤ around.1)

-- the part of its line round a place, from the first of two places to the second
abbrev pub part_round : ℕ × ℕ → placing.Place → LinePart
part_round around place = record { line = place.line; part = Some around }

abbrev pub parts_round : ℕ × ℕ → Option placing.Place → List LinePart
parts_round around None = []
parts_round around (Some place) = part_round around place ∷ []

-- These are the parts round a place, if there is one, with room for its interval.
pub record AreRound (held : Option placing.Place) (parts : List LinePart) : Type 0 where
  pub around : ℕ × ℕ
  pub surround : IfSome held (Surrounds around)
  pub are : parts ≡ parts_round around held

-- The parts that a selection draws, one below the other, on a track with this many lines: all lines, those that are
-- busy, those that are named, or the line of a train from the first of two places to the second.
abbrev pub parts_of : Selection → ℕ → List (ℕ × List Segment) → List (ℕ × Limit) → List ShownTrain → ℕ × ℕ → List LinePart
parts_of selected.All lines stops limits trains around = map whole_line (range_with_len 0 lines)
parts_of selected.Busy lines stops limits trains around =
    map whole_line (filter (is_busy stops limits trains) (range_with_len 0 lines))
parts_of (selected.Lines parts) lines stops limits trains around = parts.now
parts_of (selected.Train engine) lines stops limits trains around =
    parts_round around (option_and_then (λ train. train.place) (train_named engine trains))

-- These are the parts that a selection draws. Round the train that it names there is room for where the train may be.
pub record AreParts (selection : Selection) (lines : ℕ) (stops : List (ℕ × List Segment)) (limits : List (ℕ × Limit)) (trains : List ShownTrain) (parts : List LinePart) : Type 0 where
  pub around : ℕ × ℕ
  pub surround : IfSome (place_named selection trains) (Surrounds around)
  pub are : parts ≡ parts_of selection lines stops limits trains around

-- a selection lists the train with this engine number, if it has no place
abbrev pub lists : Selection → ℕ → Bool
lists selected.All engine = true
lists selected.Busy engine = true
lists (selected.Lines parts) engine = false
lists (selected.Train named) engine = engine == named

-- a train without a place that is drawn
abbrev pub is_listed : Selection → ShownTrain → Bool
is_listed selection train = is_none train.place && lists selection train.engine

-- a selection names no train, or one that is there
abbrev pub is_named : Selection → List ShownTrain → Bool
is_named selected.All trains = true
is_named selected.Busy trains = true
is_named (selected.Lines parts) trains = true
is_named (selected.Train engine) trains = is_some (train_named engine trains)

-- ---- what is left out

-- nothing of a line is drawn
abbrev pub is_left_line : List LinePart → ℕ → Bool
is_left_line parts line = not (list_any (λ part. part.line == line) parts)

-- a train is not drawn
abbrev pub is_left_train : Selection → List LinePart → ShownTrain → Bool
is_left_train selection parts train = not (is_listed selection train || list_any (λ part. is_place_in part train.place) parts)

-- how much is left out, as the title says it
abbrev pub left_words : ℕ → ℕ → List ℕ
left_words lines trains =
    codes "; " ++ (count_text lines (codes "line") ++ (codes " and " ++ (count_text trains (codes "train") ++ codes " are left out")))

abbrev pub left_text : Selection → List LinePart → ℕ → List ShownTrain → List ℕ
left_text selection parts lines trains =
    left_words (count_by (is_left_line parts) (range_with_len 0 lines)) (count_by (is_left_train selection parts) trains)

-- the whole track is drawn
abbrev pub is_whole : Selection → Bool
is_whole selected.All = true
is_whole selected.Busy = false
is_whole (selected.Lines parts) = false
is_whole (selected.Train engine) = false

-- how much is left out stands in the title of the document and in the heading, unless the whole track is drawn
abbrev pub left_texts : Selection → List ℕ → List (List ℕ)
left_texts selection left = if is_whole selection then [] else left ∷ left ∷ []

-- ---- whether what is named is on the track

-- why a part is not on a line with this length, if it is not
abbrev pub fault_beyond : ℕ → ℕ → Option (ℕ × ℕ) → Option DrawError
fault_beyond line length None = None
fault_beyond line length (Some part) =
    if nat_lt part.0 part.1 && nat_le part.1 length then None else Some (BeyondLine line)

-- the same for a line that the track may lack
abbrev pub fault_on : Option ℕ → LinePart → Option DrawError
fault_on None part = Some (NoLine part.line)
fault_on (Some length) part = fault_beyond part.line length part.part

abbrev pub first_fault : Option DrawError → Option DrawError → Option DrawError
first_fault None later = later
first_fault (Some fault) later = Some fault

-- the first fault of some parts
abbrev pub parts_fault : Plan → List LinePart → Option DrawError
parts_fault plan [] = None
parts_fault plan (part ∷ parts) = first_fault (fault_on (slice_get plan.lines part.line) part) (parts_fault plan parts)

-- the first fault of the lines that a selection names
abbrev pub lines_fault : Plan → Selection → Option DrawError
lines_fault plan selected.All = None
lines_fault plan selected.Busy = None
lines_fault plan (selected.Lines parts) = parts_fault plan parts.now
lines_fault plan (selected.Train engine) = None

-- a fault of a line or of a part
abbrev pub IsOfLine : DrawError → Type 0
IsOfLine (Tell error) = ⊥
IsOfLine (NoLine line) = ⊤
IsOfLine (BeyondLine line) = ⊤
IsOfLine (NoTrain engine) = ⊥
