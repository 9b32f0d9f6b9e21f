-- The trains of a picture are those of the records.
use Rattle.std.proofs.Common.{◌≡◌, ℕ, true, List, [], ◌∷◌, ◌++◌, map, drop, get_or, Option, Some, None, option_map, option_to_list, refl, sym, ap, subst, ◌∙◌}
use Rattle.std.specs.List.{filter_map, cons_option}
use Rattle.rbc_zones.specs.declared.segment.Segment.{Segment}
use Rattle.rbc_zones.specs.Limits.{Limit}
use Rattle.rbc_settle.specs.declared.train.TrainRec.{TrainRec}
use Rattle.rbc_records.specs.declared.record.Key.{Key}
use Rattle.rbc_records.specs.declared.record.Rec.{Rec}
use Rattle.rbc_account.specs.declared.state.TrainStanding.{TrainStanding}
use Rattle.rbc_live.specs.declared.waiting.Waiting.{Waiting}
use Rattle.rbc_live.specs.Known.{train_in, engines_in, active_stops, active_limits}
use Rattle.rbc_live.specs.Waits.{waiting_at}
use Rattle.rbc_account.specs.Standings.{AreStandings, waiting_of, waiting_told}
use Rattle.rbc_picture.specs.Titles.{ShownTrain}
use Rattle.rbc_picture.specs.Trains.{known_train, known_trains}
use Rattle.rbc_picture.specs.Drawn.{enrolled_train, train_at, trains_in, picture_texts, IsDrawn, IsShownOf}
use Rattle.rbc_picture.specs.NotDrawn.{FailsFor, IsLacking, LacksNow}
use Rattle.rbc_picture.specs.Selections.{AreParts, is_named}
use Rattle.rbc_picture.specs.Shown.{StandIn}
use Rattle.rbc_picture.specs.declared.fault.DrawError.{DrawError}
use Rattle.rbc_picture.specs.declared.selection.LinePart.{LinePart}
use Rattle.rbc_picture.specs.declared.selection.Selection.{Selection}

-- a list has nothing in it
abbrev IsNone : List (ℕ × List Waiting) → Type 0
IsNone [] = Unit
IsNone (first ∷ rest) = ⊥

-- what is shown of a train at which this stands
same_train : (horizon : ℕ) (records : List (Key × Rec)) (engine : ℕ) (train : TrainRec) (standing : TrainStanding)
    → standing.engine ≡ engine → standing.waiting.items ≡ waiting_at horizon records train
    → known_train standing train ≡ enrolled_train horizon records engine train
same_train horizon records engine train standing same waits = rw (same, waits) refl

-- one engine more, by whether it is enrolled
one_more : (horizon : ℕ) (records : List (Key × Rec)) (engine : ℕ) (engines : List ℕ) (found : Option TrainRec) → train_in records engine ≡ found
    → ((standings : List TrainStanding) → map waiting_told standings ≡ filter_map (waiting_of horizon records) engines
    → known_trains (train_in records) standings ≡ filter_map (train_at horizon records) engines)
    → (standings : List TrainStanding)
    → map waiting_told standings ≡ cons_option (option_map {U = ℕ × List Waiting} (λ train. (engine, waiting_at horizon records train)) found) (filter_map (waiting_of horizon records) engines)
    → known_trains (train_in records) standings ≡ cons_option (option_map (enrolled_train horizon records engine) found) (filter_map (train_at horizon records) engines)
one_more horizon records engine engines None is rest standings e = rest standings e
one_more horizon records engine engines (Some train) is rest [] e = absurd (subst (λ (all : List (ℕ × List Waiting)). IsNone all) e tt)
one_more horizon records engine engines (Some train) is rest (standing ∷ standings) e =
    let first : waiting_told standing ≡ (engine, waiting_at horizon records train) = ap (λ (all : List (ℕ × List Waiting)). get_or all 0 (waiting_told standing)) e in
    let others : map waiting_told standings ≡ filter_map (waiting_of horizon records) engines = ap (λ (all : List (ℕ × List Waiting)). drop 1 all) e in
    let same : standing.engine ≡ engine = ap (λ (pair : ℕ × List Waiting). pair.0) first in
    let waits : standing.waiting.items ≡ waiting_at horizon records train = ap (λ (pair : ℕ × List Waiting). pair.1) first in
    let found : train_in records standing.engine ≡ Some train = ap (train_in records) same ∙ is in
    ap (λ (one : Option TrainRec). option_to_list (option_map (known_train standing) one) ++ known_trains (train_in records) standings) found
    ∙ ap (λ (one : ShownTrain). one ∷ known_trains (train_in records) standings) (same_train horizon records engine train standing same waits)
    ∙ ap (λ (all : List ShownTrain). enrolled_train horizon records engine train ∷ all) (rest standings others)

-- all engines
same_trains : (horizon : ℕ) (records : List (Key × Rec)) (engines : List ℕ) (standings : List TrainStanding)
    → map waiting_told standings ≡ filter_map (waiting_of horizon records) engines
    → known_trains (train_in records) standings ≡ filter_map (train_at horizon records) engines
same_trains horizon records [] [] e = refl
same_trains horizon records [] (standing ∷ standings) e = absurd (subst (λ (all : List (ℕ × List Waiting)). IsNone all) (sym e) tt)
same_trains horizon records (engine ∷ engines) standings e =
    one_more horizon records engine engines (train_in records engine) refl (same_trains horizon records engines) standings e

pub trains_known : (horizon : ℕ) (records : List (Key × Rec)) (standings : List TrainStanding) → AreStandings horizon records standings
    → known_trains (train_in records) standings ≡ trains_in horizon records
trains_known horizon records standings e = same_trains horizon records (engines_in records) standings e

-- what a scene shows is what a selection asks for of records
pub shown_of : (selection : Selection) (lines : ℕ) (records : List (Key × Rec)) (stops : List (ℕ × List Segment)) (limits : List (ℕ × Limit)) (trains : List ShownTrain) (parts seen : List LinePart) (svg : List ℕ)
    → stops ≡ active_stops records → limits ≡ active_limits records → seen ≡ parts → AreParts selection lines stops limits trains parts
    → StandIn (picture_texts selection lines stops limits trains seen) svg → IsShownOf selection lines records trains svg
shown_of selection lines records stops limits trains parts seen svg closed restricted same asked drawn = record {
  parts = parts;
  asked = subst (λ (all : List (ℕ × Limit)). AreParts selection lines (active_stops records) all trains parts) restricted
      (subst (λ (all : List (ℕ × List Segment)). AreParts selection lines all limits trains parts) closed asked);
  drawn = subst (λ (all : List LinePart). StandIn (picture_texts selection lines (active_stops records) (active_limits records) trains all) svg) same
      (subst (λ (all : List (ℕ × Limit)). StandIn (picture_texts selection lines (active_stops records) all trains seen) svg) restricted
      (subst (λ (all : List (ℕ × List Segment)). StandIn (picture_texts selection lines all limits trains seen) svg) closed drawn));
}

-- the same where the trains are those of the records, and the train that is named is among them
pub drawn_of : (selection : Selection) (horizon lines : ℕ) (records : List (Key × Rec)) (trains : List ShownTrain) (svg : List ℕ) → trains ≡ trains_in horizon records
    → is_named selection trains ≡ true → IsShownOf selection lines records trains svg → IsDrawn selection horizon lines records svg
drawn_of selection horizon lines records trains svg known named shown = record {
  named = subst (λ (all : List ShownTrain). is_named selection all ≡ true) known named;
  shown = subst (λ (all : List ShownTrain). IsShownOf selection lines records all svg) known shown;
}

-- why it is not drawn, likewise
pub fails_of : (selection : Selection) (horizon : ℕ) (records : List (Key × Rec)) (trains : List ShownTrain) (fault : DrawError) → trains ≡ trains_in horizon records
    → FailsFor (IsLacking selection trains) fault → FailsFor (LacksNow selection horizon records) fault
fails_of selection horizon records trains fault known fails = subst (λ (all : List ShownTrain). FailsFor (IsLacking selection all) fault) known fails
