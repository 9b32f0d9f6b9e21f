-- The keys that a track file has (own rule).
use Rattle.std.specs.Prelude.{ℕ, List, Bool, [], ◌∷◌, codes}
use Rattle.std.specs.List.{list_any}
use Rattle.std.specs.Str.{bytes_eq}
use Rattle.rbc_track_report.specs.declared.keys.Kind.{Kind}
use Rattle.rbc_track_report.specs.declared.keys.Kind.TheVariants.{Document, Line, Group}

-- the keys of each kind of table
abbrev pub known_keys : Kind → List (List ℕ)
known_keys Document = codes "group" ∷ codes "horizon" ∷ codes "line" ∷ codes "name" ∷ []
known_keys Line = codes "length" ∷ codes "name" ∷ []
known_keys Group = codes "at" ∷ codes "line" ∷ codes "name" ∷ codes "nid" ∷ codes "nominal" ∷ []

-- tables of the kind have this key
abbrev pub is_known : Kind → List ℕ → Bool
is_known kind key = list_any (λ known. bytes_eq known key) (known_keys kind)
