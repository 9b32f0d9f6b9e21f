-- In which part of a picture a train stands.
use Rattle.std.specs.Prelude.{◌≡◌, ℕ, Bool, true, false, ◌||◌, Option, Some, None, is_none, option_map}
use Rattle.std.specs.Prelude.{option_to_list, List, [], ◌∷◌, ◌++◌}
use Rattle.std.specs.List.{list_any}
use Rattle.rbc_place.specs.Placing as placing
use Rattle.rbc_track.specs.declared.group.Way.{Way}
use Rattle.rbc_track.specs.declared.group.Way.TheVariants.{Up, Down}
use Rattle.rbc_account.specs.declared.state.TrainStanding.{TrainStanding}
use Rattle.rbc_settle.specs.declared.train.TrainRec.{TrainRec}
use Rattle.rbc_picture.specs.Selections.{is_place_in, is_listed, whole_line}
use Rattle.rbc_picture.specs.Titles.{ShownTrain}
use Rattle.rbc_picture.specs.declared.selection.LinePart.{LinePart}
use Rattle.rbc_picture.specs.declared.selection.Selection.{Selection}
use Rattle.rbc_picture.specs.declared.train_state.TrainState.{TrainState}

-- a place is on a line
abbrev pub is_place_on : ℕ → Option placing.Place → Bool
is_place_on line place = is_place_in (whole_line line) place

-- a train is placed on a line
abbrev pub is_on : ℕ → TrainState → Bool
is_on line train = is_place_on line train.place

-- the end of an interval at which a train has its front, by the way it faces
abbrev pub end_at : {A : Type 0} → Way → A → A → A
end_at Up low high = high
end_at Down low high = low

-- a train is placed on the line of a part, and meets the part
abbrev pub is_in : LinePart → TrainState → Bool
is_in part train = is_place_in part train.place

-- what a picture shows of a train
abbrev pub train_shown : TrainState → ShownTrain
train_shown train = record { engine = train.engine; place = train.place; waiting = train.waiting.items }

-- a train without a place that a selection lists
abbrev pub is_listed_in : Selection → TrainState → Bool
is_listed_in selection train = is_listed selection (train_shown train)

-- a train that is listed, or meets a part
abbrev pub is_drawn : Selection → List LinePart → TrainState → Bool
is_drawn selection parts train = is_listed_in selection train || list_any (λ part. is_in part train) parts

-- what a picture shows of a train with this state, by its record
abbrev pub known_train : TrainStanding → TrainRec → ShownTrain
known_train standing train =
    record { engine = standing.engine; place = train.place; waiting = standing.waiting.items }

-- the same for all trains with these states, by the records of their engines
abbrev pub known_trains : (ℕ → Option TrainRec) → List TrainStanding → List ShownTrain
known_trains lookup [] = []
known_trains lookup (standing ∷ rest) =
    option_to_list (option_map (known_train standing) (lookup standing.engine)) ++ known_trains lookup rest

-- A train with this place, or with none, stands in one part: in the panel of its line, or in the list of the trains
-- without a place. Tests on the place say in which panels it is, and whether it is in that list.
pub record StandsOnce (is_there : ℕ → Option placing.Place → Bool) (is_lost : Option placing.Place → Bool)
    (held : Option placing.Place) : Type 0 where
  pub placed : (place : placing.Place) → held ≡ Some place
      → (is_lost held ≡ false)
      × ((line : ℕ) → (is_there line held ≡ true → line ≡ place.line) × (line ≡ place.line → is_there line held ≡ true))
  pub unplaced : held ≡ None → (is_lost held ≡ true) × ((line : ℕ) → is_there line held ≡ false)

-- the same for each train
abbrev pub EachStandsOnce : Type 0
EachStandsOnce = (train : TrainState) → StandsOnce is_place_on (λ place. is_none place) train.place
