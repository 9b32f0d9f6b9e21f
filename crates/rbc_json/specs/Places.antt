-- Where a train may be, as an object (own rule).
use Rattle.std.specs.Prelude.{Option, Some, None, [], ◌∷◌, codes}
use Rattle.rbc_place.specs.Placing.{Place}
use Rattle.rbc_json.specs.declared.shapes.PlaceObject.{PlaceObject}
use Rattle.rbc_json.specs.Json.{Json, Null, number, object}
use Rattle.rbc_json.specs.Shapes.{way_word}

-- the values of a place
abbrev pub place_fields : Place → PlaceObject
place_fields place = record { line = place.line; from = place.lo; to = place.hi; facing = place.facing; group = place.lrbg; at = place.at }

abbrev pub fields_object : PlaceObject → Json
fields_object place = object (
    (codes "line", number place.line) ∷ (codes "from", number place.from) ∷ (codes "to", number place.to) ∷ (codes "facing", way_word place.facing)
    ∷ (codes "balise_group", number place.group) ∷ (codes "at", number place.at) ∷ [])

abbrev pub place_object : Place → Json
place_object place = fields_object (place_fields place)

abbrev pub place_or_null : Option Place → Json
place_or_null (Some place) = place_object place
place_or_null None = Null
