-- Places, stretches and ways as values of JSON (own rule).
use Rattle.std.specs.Prelude.{ℕ, ◌==◌, if◌then◌else◌, Bool, true, false, Option, Some, None, [], ◌∷◌, List, codes}
use Rattle.std.specs.Str.{chars}
use Rattle.rbc_track.specs.declared.group.Way.{Way}
use Rattle.rbc_track.specs.declared.group.Way.TheVariants as way
use Rattle.rbc_zones.specs.declared.limit.Dirs.{Dirs}
use Rattle.rbc_zones.specs.declared.limit.Dirs.TheVariants as dirs
use Rattle.rbc_zones.specs.declared.segment.Segment.{Segment}
use Rattle.rbc_json.specs.Json.{Json, Null, Text, number, object}

abbrev pub segment_object : Segment → Json
segment_object segment = object ((codes "line", number segment.line) ∷ (codes "from", number segment.from) ∷ (codes "to", number segment.to) ∷ [])

abbrev pub way_word : Way → Json
way_word way.Up = Text (codes "up")
way_word way.Down = Text (codes "down")

abbrev pub ways_word : Dirs → Json
ways_word dirs.Up = Text (codes "up")
ways_word dirs.Down = Text (codes "down")
ways_word dirs.Both = Text (codes "both")

-- with which end of the train a restriction ends, by its Q_FRONT
abbrev pub end_word : Bool → Json
end_word true = Text (codes "front")
end_word false = Text (codes "rear")

abbrev pub number_or_null : Option ℕ → Json
number_or_null (Some n) = number n
number_or_null None = Null

-- a name by its bytes, if there is one
abbrev pub name_or_null : Option (List ℕ) → Json
name_or_null (Some name) = Text (chars name)
name_or_null None = Null

-- a stamp, if it is known: 4294967295 is unknown
abbrev pub known_stamp : ℕ → Option ℕ
known_stamp stamp = if stamp == 4294967295 then None else Some stamp
