-- What the picture of a run shows (own rule).
use Rattle.std.specs.Prelude.{◌≡◌, ℕ, ◌<◌, ◌^◌, true, List, ◌∷◌, ◌++◌, map, filter, take, length, Option, Some, None, Result, Ok, Err}
use Rattle.std.specs.Prelude.{option_map}
use Rattle.std.specs.List.{flat_map, filter_map}
use Rattle.rbc_track.specs.Plan.{Plan}
use Rattle.rbc_track.specs.Reading.{IsTrackOf}
use Rattle.rbc_zones.specs.declared.segment.Segment.{Segment}
use Rattle.rbc_zones.specs.Limits.{Limit}
use Rattle.rbc_settle.specs.declared.train.TrainRec.{TrainRec}
use Rattle.rbc_records.specs.declared.record.Key.{Key}
use Rattle.rbc_records.specs.declared.record.Rec.{Rec}
use Rattle.rbc_text.specs.BatchText.{lines_of}
use Rattle.rbc_text.specs.Streams.{IsAllRead}
use Rattle.rbc_account.specs.Lines.{AreAllLines}
use Rattle.rbc_account.specs.declared.fault.TellError.{TellError}
use Rattle.rbc_account.specs.declared.fault.TellError.TheVariants.{Track, Read, Memory, OnlyInputs, Write, ReaderGone}
use Rattle.rbc_live.specs.History.{Taken, IsSerialRunOf}
use Rattle.rbc_live.specs.Known.{train_in, engines_in, active_stops, active_limits}
use Rattle.rbc_live.specs.Waits.{waiting_at}
use Rattle.rbc_account.specs.Runs.{IsAccount}
use Rattle.rbc_account.specs.declared.account.Account.{Account}
use Rattle.rbc_picture.specs.Stretches.{stop_stretches, limit_stretches}
use Rattle.rbc_picture.specs.Titles.{ShownTrain, line_heading, band_title, train_texts}
use Rattle.rbc_picture.specs.Selections.{AreParts, is_listed, is_named, is_place_in, left_text, left_texts, lines_fault}
use Rattle.rbc_picture.specs.Selections.{meets_stretch}
use Rattle.rbc_picture.specs.Shown.{StandIn}
use Rattle.rbc_picture.specs.declared.selection.LinePart.{LinePart}
use Rattle.rbc_picture.specs.declared.selection.Selection.{Selection}

-- the texts of a panel: the number of its line, each active stretch that a stop closes, each train that is placed on
-- the line with what it is not told, and each active stretch of a restriction, as far as they meet a part of the line
abbrev pub part_texts : List (ℕ × List Segment) → List (ℕ × Limit) → List ShownTrain → LinePart → List (List ℕ)
part_texts stops limits trains part =
    line_heading part.line
    ∷ (map (band_title part.line) (filter (meets_stretch part) (stop_stretches part.line stops))
    ++ (flat_map train_texts (filter (λ train. is_place_in part train.place) trains)
    ++ map (band_title part.line) (filter (meets_stretch part) (limit_stretches part.line limits))))

-- the texts of a picture with these parts: what is left out, the texts of each part, and then of each train without a
-- place that is listed
abbrev pub picture_texts : Selection → ℕ → List (ℕ × List Segment) → List (ℕ × Limit) → List ShownTrain → List LinePart → List (List ℕ)
picture_texts selection lines stops limits trains parts =
    left_texts selection (left_text selection parts lines trains)
    ++ (flat_map (part_texts stops limits trains) parts ++ flat_map train_texts (filter (is_listed selection) trains))

-- what a picture shows of the train with an engine number, if it is enrolled
abbrev pub enrolled_train : ℕ → List (Key × Rec) → ℕ → TrainRec → ShownTrain
enrolled_train horizon records engine train =
    record { engine = engine; place = train.place; waiting = waiting_at horizon records train }

abbrev pub train_at : ℕ → List (Key × Rec) → ℕ → Option ShownTrain
train_at horizon records engine = option_map (enrolled_train horizon records engine) (train_in records engine)

-- the trains of records, engines ascending
abbrev pub trains_in : ℕ → List (Key × Rec) → List ShownTrain
trains_in horizon records = filter_map (train_at horizon records) (engines_in records)

-- What a selection asks for of these trains, and of the stops and restrictions of records, stands in a picture, in its
-- order.
pub record IsShownOf (selection : Selection) (lines : ℕ) (records : List (Key × Rec)) (trains : List ShownTrain) (svg : List ℕ) : Type 0 where
  pub parts : List LinePart
  pub asked : AreParts selection lines (active_stops records) (active_limits records) trains parts
  pub drawn : StandIn (picture_texts selection lines (active_stops records) (active_limits records) trains parts) svg

-- A picture of what a selection asks for of records, where the train that it names is enrolled.
pub record IsDrawn (selection : Selection) (horizon lines : ℕ) (records : List (Key × Rec)) (svg : List ℕ) : Type 0 where
  pub named : is_named selection (trains_in horizon records) ≡ true
  pub shown : IsShownOf selection lines records (trains_in horizon records) svg

-- the lines that are taken: the first ones, this many, or all
abbrev pub lines_taken : Option ℕ → List (List ℕ) → List (List ℕ)
lines_taken None lines = lines
lines_taken (Some after) lines = take after lines

-- A picture after lines: the records are those after the serial run of the lines, from the empty state, and what a
-- selection asks for of them is drawn.
pub record IsPictureOf (plan : Plan) (selection : Selection) (lines : List (List ℕ)) (svg : List ℕ) : Type 0 where
  pub taken : List Taken
  pub records : List (Key × Rec)
  pub fed : map (λ one. one.line) taken ≡ lines
  pub serial : IsSerialRunOf plan taken records
  pub drawn : IsDrawn selection plan.horizon (length plan.lines) records svg

-- The picture after this many of the lines that a reader had left, or after all of them, on the track in a text.
pub record IsPictureOfRun (text : List ℕ) (after : Option ℕ) (selection : Selection) (old new : Option (List ℕ)) (svg : List ℕ) : Type 0 where
  pub plan : Plan
  pub batch : List ℕ
  pub is_track : IsTrackOf text plan
  pub on_track : lines_fault plan selection ≡ None
  pub read : IsAllRead old new batch
  pub picture : IsPictureOf plan selection (lines_taken after (lines_of batch)) svg

-- An account has taken lines so far.
pub record HasTaken (plan : Plan) (account : Account) (lines : List (List ℕ)) : Type 0 where
  pub taken : List Taken
  pub fed : map (λ one. one.line) taken ≡ lines
  pub counted : IsAccount plan taken account.desk.records account.sums
  pub track : account.desk.track ≡ plan

-- An account has taken the first of all lines that a reader had left, this many, or all, and all are counted; or the
-- lines could not be read, or memory was refused.
abbrev pub AreTakenTo : Plan → Option ℕ → Account → Option (List ℕ) → Option (List ℕ) → Result ℕ TellError → Type 0
AreTakenTo plan after account old new (Ok count) =
    (lines : List (List ℕ)) × AreAllLines old new lines × (count ≡ length lines) × (count < 2 ^ 64) × HasTaken plan account (lines_taken after lines)
AreTakenTo plan after account old new (Err Read) = Unit
AreTakenTo plan after account old new (Err Memory) = Unit
AreTakenTo plan after account old new (Err (Track error)) = ⊥
AreTakenTo plan after account old new (Err (OnlyInputs count)) = ⊥
AreTakenTo plan after account old new (Err (Write sent)) = ⊥
AreTakenTo plan after account old new (Err (ReaderGone sent)) = ⊥
