-- What the parts of a picture show.
use Rattle.std.specs.Prelude.{◌≡◌, ℕ, List, ◌∷◌, ◌++◌, map, filter, length, IfSome, slice_get}
use Rattle.std.specs.List.{flat_map}
use Rattle.rbc_picture.specs.Selections.{is_listed, left_text, left_texts, meets_stretch}
use Rattle.rbc_picture.specs.Trains.{is_in, is_listed_in, train_shown}
use Rattle.rbc_picture.specs.Titles.{line_heading, band_title, train_texts}
use Rattle.rbc_picture.specs.Bands.{Covers}
use Rattle.rbc_picture.specs.Stretches.{stop_stretches, limit_stretches}
use Rattle.rbc_picture.specs.Drawn.{part_texts}
use Rattle.rbc_picture.specs.declared.bands.Bands.{Bands}
use Rattle.rbc_picture.specs.declared.lost.LostTrain.{LostTrain}
use Rattle.rbc_picture.specs.declared.panel.Panel.{Panel}
use Rattle.rbc_picture.specs.declared.train_shape.TrainShape.{TrainShape}
use Rattle.rbc_picture.specs.declared.plan.Plan.{Plan}
use Rattle.rbc_picture.specs.declared.scene.Scene.{Scene}
use Rattle.rbc_picture.specs.declared.selection.LinePart.{LinePart}

-- A panel shows a part of a line: each train that is placed on the line and meets the part, once, in order and in a
-- row, and each stretch that is active there and meets the part, once and in a lane.
pub record ShowsPart (scene : Scene) (panel : Panel) : Type 0 where
  pub placed : map (λ shape. shape.train.now) panel.trains.items ≡ filter (is_in panel.part) scene.trains.now
  pub in_rows : length panel.rows.of_items.items ≡ length panel.trains.items
  pub closed : Covers (filter (meets_stretch panel.part) (stop_stretches panel.part.line scene.stops.now)) panel.stops
  pub restricted : Covers (filter (meets_stretch panel.part) (limit_stretches panel.part.line scene.limits.now)) panel.limits

-- These panels show these parts, one after another.
pub record ShowEachPart (scene : Scene) (parts : List LinePart) (panels : List Panel) : Type 0 where
  pub of_parts : map (λ panel. panel.part) panels ≡ parts
  pub each : (index : ℕ) → IfSome (slice_get panels index) (ShowsPart scene)

-- A picture shows each part that is asked for in a panel, and each train that is listed once, in order, below them.
pub record ShowsAll (scene : Scene) (plan : Plan) : Type 0 where
  pub parts : ShowEachPart scene scene.parts.now plan.panels.items
  pub unplaced : map (λ lost. lost.train.now) plan.lost.items ≡ filter (is_listed_in scene.selection.now) scene.trains.now

-- ---- the texts of the parts

-- the texts of the bands of a line
abbrev pub bands_texts : ℕ → Bands → List (List ℕ)
bands_texts line bands = map (λ band. band_title line band.stretch) bands.all.items

-- the texts of trains on their line
abbrev pub shapes_texts : List TrainShape → List (List ℕ)
shapes_texts shapes = flat_map (λ shape. train_texts (train_shown shape.train.now)) shapes

-- the texts of trains without a place
abbrev pub lost_texts : List LostTrain → List (List ℕ)
lost_texts lost = flat_map (λ train. train_texts (train_shown train.train.now)) lost

-- the texts of a panel
abbrev pub panel_texts : Panel → List (List ℕ)
panel_texts panel =
    line_heading panel.part.line
    ∷ (bands_texts panel.part.line panel.stops
    ++ (shapes_texts panel.trains.items ++ bands_texts panel.part.line panel.limits))

-- the texts of all parts
abbrev pub plan_texts : Plan → List (List ℕ)
plan_texts plan = flat_map panel_texts plan.panels.items ++ lost_texts plan.lost.items

-- what a scene leaves out, as its title says it
abbrev pub scene_left : Scene → List ℕ
scene_left scene =
    left_text scene.selection.now scene.parts.now (length scene.track.now.lines.items) (map train_shown scene.trains.now)

-- the texts that the parts of a scene, and the trains that are listed, have to show
abbrev pub drawn_texts : Scene → List (List ℕ)
drawn_texts scene =
    flat_map (part_texts scene.stops.now scene.limits.now (map train_shown scene.trains.now)) scene.parts.now
    ++ flat_map train_texts (filter (is_listed scene.selection.now) (map train_shown scene.trains.now))

-- the texts that a scene has to show
abbrev pub scene_texts : Scene → List (List ℕ)
scene_texts scene = left_texts scene.selection.now (scene_left scene) ++ drawn_texts scene
