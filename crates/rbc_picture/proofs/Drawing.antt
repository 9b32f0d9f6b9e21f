-- The texts of the parts of a picture are those that its scene has to show.
use Rattle.std.proofs.Common.{◌≡◌, ℕ, List, ◌∷◌, ◌++◌, map, filter, ap, ◌∙◌}
use Rattle.std.specs.List.{flat_map, slice_get}
use Rattle.std.proofs.lemmas.Option.{IfSome_then}
use Rattle.rbc_picture.specs.Bands.{Covers}
use Rattle.rbc_picture.specs.Selections.{is_listed, is_place_in, meets_stretch}
use Rattle.rbc_picture.specs.Trains.{is_in, is_listed_in, train_shown}
use Rattle.rbc_picture.specs.Titles.{line_heading, band_title, train_texts}
use Rattle.rbc_picture.specs.Stretches.{stop_stretches, limit_stretches}
use Rattle.rbc_picture.specs.Drawn.{part_texts}
use Rattle.rbc_picture.specs.Panels.{ShowsPart, ShowsAll, bands_texts, shapes_texts, lost_texts, panel_texts, plan_texts, drawn_texts}
use Rattle.rbc_picture.specs.declared.bands.Band.{Band}
use Rattle.rbc_picture.specs.declared.bands.Bands.{Bands}
use Rattle.rbc_picture.specs.declared.lost.LostTrain.{LostTrain}
use Rattle.rbc_picture.specs.declared.panel.Panel.{Panel}
use Rattle.rbc_picture.specs.declared.plan.Plan.{Plan}
use Rattle.rbc_picture.specs.declared.scene.Scene.{Scene}
use Rattle.rbc_picture.specs.declared.selection.LinePart.{LinePart}
use Rattle.rbc_picture.specs.declared.selection.Selection.{Selection}
use Rattle.rbc_picture.specs.declared.stretches.Stretch.{Stretch}
use Rattle.rbc_picture.specs.declared.train_shape.TrainShape.{TrainShape}
use Rattle.rbc_picture.specs.declared.train_state.TrainState.{TrainState}
use Rattle.rbc_picture.proofs.Gathering.{map-map, flat_map-map, gathered, each_gathered}

-- bands that cover stretches have their titles
bands_shown : (line : ℕ) (stretches : List Stretch) (bands : Bands) → Covers stretches bands → bands_texts line bands ≡ map (band_title line) stretches
bands_shown line stretches bands covers =
    map-map (band_title line) (λ (band : Band). band.stretch) bands.all.items ∙ ap (map (band_title line)) covers.each

-- the trains that meet a part
shapes_shown : (part : LinePart) (trains : List TrainState) (shapes : List TrainShape) → map (λ (shape : TrainShape). shape.train.now) shapes ≡ filter (is_in part) trains
    → shapes_texts shapes ≡ flat_map train_texts (filter (λ train. is_place_in part train.place) (map train_shown trains))
shapes_shown part trains shapes are =
    flat_map-map (λ (train : TrainState). train_texts (train_shown train)) (λ (shape : TrainShape). shape.train.now) shapes
    ∙ ap (flat_map (λ (train : TrainState). train_texts (train_shown train))) are
    ∙ gathered train_texts train_shown (λ train. is_place_in part train.place) trains

-- the trains without a place that are listed
lost_shown : (selection : Selection) (trains : List TrainState) (lost : List LostTrain)
    → map (λ (train : LostTrain). train.train.now) lost ≡ filter (is_listed_in selection) trains
    → lost_texts lost ≡ flat_map train_texts (filter (is_listed selection) (map train_shown trains))
lost_shown selection trains lost are =
    flat_map-map (λ (train : TrainState). train_texts (train_shown train)) (λ (train : LostTrain). train.train.now) lost
    ∙ ap (flat_map (λ (train : TrainState). train_texts (train_shown train))) are
    ∙ gathered train_texts train_shown (is_listed selection) trains

-- a panel that shows a part
panel_shown : (scene : Scene) (panel : Panel) → ShowsPart scene panel
    → panel_texts panel ≡ part_texts scene.stops.now scene.limits.now (map train_shown scene.trains.now) panel.part
panel_shown scene panel shows =
    let part = panel.part in
    let closed : List Stretch = filter (meets_stretch part) (stop_stretches part.line scene.stops.now) in
    let stops : List (List ℕ) = map (band_title part.line) closed in
    let trains : List (List ℕ) = flat_map train_texts (filter (λ train. is_place_in part train.place) (map train_shown scene.trains.now)) in
    ap (λ (ts : List (List ℕ)). line_heading part.line ∷ (ts ++ (shapes_texts panel.trains.items ++ bands_texts part.line panel.limits)))
    (bands_shown part.line closed panel.stops shows.closed)
    ∙ ap (λ (ts : List (List ℕ)). line_heading part.line ∷ (stops ++ (ts ++ bands_texts part.line panel.limits)))
    (shapes_shown part scene.trains.now panel.trains.items shows.placed)
    ∙ ap (λ (ts : List (List ℕ)). line_heading part.line ∷ (stops ++ (trains ++ ts)))
    (bands_shown part.line (filter (meets_stretch part) (limit_stretches part.line scene.limits.now)) panel.limits shows.restricted)

-- all parts
pub plan_shown : (scene : Scene) (plan : Plan) → ShowsAll scene plan → plan_texts plan ≡ drawn_texts scene
plan_shown scene plan shows =
    let texts : LinePart → List (List ℕ) = part_texts scene.stops.now scene.limits.now (map train_shown scene.trains.now) in
    let panels : flat_map panel_texts plan.panels.items ≡ flat_map texts (map (λ (panel : Panel). panel.part) plan.panels.items) =
    each_gathered panel_texts texts (λ (panel : Panel). panel.part) plan.panels.items
    (λ n. IfSome_then (slice_get plan.panels.items n) (shows.parts.each n) (panel_shown scene)) in
    ap (λ (ts : List (List ℕ)). ts ++ lost_texts plan.lost.items) (panels ∙ ap (flat_map texts) shows.parts.of_parts)
    ∙ ap (λ (ts : List (List ℕ)). flat_map texts scene.parts.now ++ ts)
    (lost_shown scene.selection.now scene.trains.now plan.lost.items shows.unplaced)
