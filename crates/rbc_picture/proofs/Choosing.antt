-- What a selection asks for, read from the trains of a scene.
use Rattle.std.proofs.Common.{◌≡◌, ◌∙◌, ◌==◌, not, ℕ, true, List, [], ◌∷◌, map, filter, count_by, Option, Some, None, Bor, is_some, option_map, option_and_then, refl, sym, ap}
use Rattle.std.specs.List.{find, list_any, range_with_len}
use Rattle.rbc_place.specs.Placing.{Place}
use Rattle.rbc_zones.specs.declared.segment.Segment.{Segment}
use Rattle.rbc_zones.specs.Limits.{Limit}
use Rattle.rbc_picture.specs.Selections.{AreParts, AreRound, Surrounds, has_engine, is_busy, is_left_line, is_left_train, is_named, is_train_on, left_text, left_words, part_round, parts_round, train_named, whole_line}
use Rattle.rbc_picture.specs.NotDrawn.{IsLacking}
use Rattle.rbc_picture.specs.Titles.{ShownTrain}
use Rattle.rbc_picture.specs.Trains.{is_drawn, is_on, train_shown}
use Rattle.rbc_picture.specs.declared.selection.LinePart.{LinePart}
use Rattle.rbc_picture.specs.declared.selection.Selection.{Selection}
use Rattle.rbc_picture.specs.declared.selection.Selection.TheVariants as selected
use Rattle.rbc_picture.specs.declared.train_state.TrainState.{TrainState}
use Rattle.rbc_picture.proofs.Gathering.{any_through, count_through, found_through}

-- a train is on a line
pub train_on : (line : ℕ) (trains : List TrainState) → list_any (is_train_on line) (map train_shown trains) ≡ list_any (is_on line) trains
train_on line trains = any_through (is_train_on line) train_shown trains

-- the train that is named
pub named_there : (engine : ℕ) (trains : List TrainState) (found : Option TrainState) → found ≡ find (λ train. train.engine == engine) trains
    → train_named engine (map train_shown trains) ≡ option_map train_shown found
named_there engine trains found is = found_through (has_engine engine) train_shown trains ∙ ap (option_map train_shown) (sym is)

-- how many trains are left out
pub trains_counted : (selection : Selection) (parts : List LinePart) (trains : List TrainState)
    → count_by (is_left_train selection parts) (map train_shown trains) ≡ count_by (λ train. not (is_drawn selection parts train)) trains
trains_counted selection parts trains = count_through (is_left_train selection parts) train_shown trains

-- what is left out, in words
pub left_counted : (selection : Selection) (parts : List LinePart) (lines left : ℕ) (trains : List TrainState) (gone : ℕ)
    → left ≡ count_by (is_left_line parts) (range_with_len 0 lines) → gone ≡ count_by (λ train. not (is_drawn selection parts train)) trains
    → left_words left gone ≡ left_text selection parts lines (map train_shown trains)
left_counted selection parts lines left trains gone one two =
    ap (λ (n : ℕ). left_words n gone) one
    ∙ ap (λ (n : ℕ). left_words (count_by (is_left_line parts) (range_with_len 0 lines)) n) (two ∙ sym (trains_counted selection parts trains))

-- the parts round a place, and where there is none
pub round_some : (held : Option Place) (place : Place) (around : ℕ × ℕ) (parts : List LinePart) → held ≡ Some place → Surrounds around place
    → parts ≡ part_round around place ∷ [] → AreRound held parts
round_some held place around parts same surround are = record {
  around = around;
  surround = rw same surround;
  are = are ∙ ap (parts_round around) (sym same);
}

pub round_none : (held : Option Place) (parts : List LinePart) → held ≡ None → parts ≡ [] → AreRound held parts
round_none held parts same are = record {
  around = (0, 0);
  surround = rw same tt;
  are = are ∙ ap (parts_round (0, 0)) (sym same);
}

-- the parts round the train that is named
pub parts_named : (engine lines : ℕ) (stops : List (ℕ × List Segment)) (limits : List (ℕ × Limit)) (trains : List TrainState) (train : TrainState) (parts : List LinePart)
    → Some train ≡ find (λ train. train.engine == engine) trains → AreRound train.place parts
    → AreParts (selected.Train engine) lines stops limits (map train_shown trains) parts
parts_named engine lines stops limits trains train parts found round =
    let named : train_named engine (map train_shown trains) ≡ Some (train_shown train) = named_there engine trains (Some train) found in
    record {
      around = round.around;
      surround = rw named round.surround;
      are = round.are ∙ ap (λ (found : Option ShownTrain). parts_round round.around (option_and_then (λ one. one.place) found)) (sym named);
    }

-- there are none where it is not there
pub parts_unnamed : (engine lines : ℕ) (stops : List (ℕ × List Segment)) (limits : List (ℕ × Limit)) (trains : List TrainState) (parts : List LinePart)
    → None ≡ find (λ (train : TrainState). train.engine == engine) trains → parts ≡ []
    → AreParts (selected.Train engine) lines stops limits (map train_shown trains) parts
parts_unnamed engine lines stops limits trains parts found none =
    let named : train_named engine (map train_shown trains) ≡ None = named_there engine trains None found in
    record {
      around = (0, 0);
      surround = rw named tt;
      are = none ∙ ap (λ (found : Option ShownTrain). parts_round (0, 0) (option_and_then (λ one. one.place) found)) (sym named);
    }

-- the parts of the other selections
pub parts_all : (lines count : ℕ) (stops : List (ℕ × List Segment)) (limits : List (ℕ × Limit)) (trains : List ShownTrain) (parts : List LinePart)
    → count ≡ lines → parts ≡ map whole_line (range_with_len 0 count) → AreParts selected.All lines stops limits trains parts
parts_all lines count stops limits trains parts same are = record {
  around = (0, 0);
  surround = tt;
  are = are ∙ ap (λ (n : ℕ). map whole_line (range_with_len 0 n)) same;
}

pub parts_busy : (lines count : ℕ) (stops : List (ℕ × List Segment)) (limits : List (ℕ × Limit)) (trains : List ShownTrain) (parts : List LinePart)
    → count ≡ lines → parts ≡ map whole_line (filter (is_busy stops limits trains) (range_with_len 0 count)) → AreParts selected.Busy lines stops limits trains parts
parts_busy lines count stops limits trains parts same are = record {
  around = (0, 0);
  surround = tt;
  are = are ∙ ap (λ (n : ℕ). map whole_line (filter (is_busy stops limits trains) (range_with_len 0 n))) same;
}

pub parts_lines : (lines : ℕ) (stops : List (ℕ × List Segment)) (limits : List (ℕ × Limit)) (trains : List ShownTrain) (named : Bor (List LinePart)) (parts : List LinePart)
    → parts ≡ named.now → AreParts (selected.Lines named) lines stops limits trains parts
parts_lines lines stops limits trains named parts are = record { around = (0, 0); surround = tt; are = are }

-- the train that is named is there, or lacking
pub is_there : (engine : ℕ) (trains : List TrainState) (train : TrainState) → Some train ≡ find (λ train. train.engine == engine) trains
    → is_named (selected.Train engine) (map train_shown trains) ≡ true
is_there engine trains train is = ap (λ (found : Option ShownTrain). is_some found) (named_there engine trains (Some train) is)

pub is_lacking : (engine : ℕ) (trains : List TrainState) → None ≡ find (λ (train : TrainState). train.engine == engine) trains
    → IsLacking (selected.Train engine) (map train_shown trains) engine
is_lacking engine trains is = record { names = refl; lacks = named_there engine trains None is }
