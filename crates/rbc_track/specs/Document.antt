-- What is written in a track's document, before the rules on whole lists are checked (own rule).
use Rattle.std.specs.Prelude.{ℕ, ◌&&◌, nat_le, List, [], ◌∷◌, Option, Some, None, option_and_then, if◌then◌else◌, codes, pos}
use Rattle.std.specs.Str.{bytes_eq}
use Rattle.toml.specs.Data.{Data, string, integer, Items, no_items, item, Members, get_member, as_array, as_table}
use Rattle.rbc_track.specs.declared.group.Way.{Way}
use Rattle.rbc_track.specs.declared.group.Way.TheVariants.{Up, Down}
use Rattle.rbc_track.specs.declared.document.Site.{Site}
use Rattle.rbc_track.specs.Plan.{max_length, max_group_number}

-- a document as it is written: its horizon, the length of each line, and its balise groups in their order
pub record Written : Type 0 where
  pub horizon : ℕ
  pub lengths : List ℕ
  pub sites : List Site

-- the greatest whole number that is read if no other bound is set
abbrev pub max_u32 : ℕ
max_u32 = 4294967295

-- a whole number from the first bound to the second
abbrev pub number_within : ℕ → ℕ → Data → Option ℕ
number_within low high (integer (pos n)) = if nat_le low n && nat_le n high then Some n else None
number_within low high _ = None

-- such a number under a key
abbrev pub number_at : List ℕ → ℕ → ℕ → Members → Option ℕ
number_at key low high members = option_and_then (number_within low high) (get_member key members)

-- the horizon of a document
abbrev pub horizon_in : Members → Option ℕ
horizon_in members = number_at (codes "horizon") 1 max_length members

-- the direction that a word names
abbrev pub way_of : List ℕ → Option Way
way_of word = if bytes_eq word (codes "up") then Some Up else if bytes_eq word (codes "down") then Some Down else None

-- the direction in a value, which has to be a string
abbrev pub way_in : Data → Option Way
way_in (string word) = way_of word
way_in _ = None

-- the length in a line's table
abbrev pub length_in : Members → Option ℕ
length_in members = number_at (codes "length") 0 max_u32 members

-- the balise group of these four, if all of them are there
abbrev pub site_from : Option ℕ → Option ℕ → Option ℕ → Option Way → Option Site
site_from (Some nid) (Some line) (Some at) (Some nominal) = Some (record { nid = nid; line = line; at = at; nominal = nominal })
site_from _ _ _ _ = None

-- the balise group in a group's table
abbrev pub site_in : Members → Option Site
site_in members =
    site_from (number_at (codes "nid") 0 max_group_number members) (number_at (codes "line") 0 max_u32 members)
    (number_at (codes "at") 0 max_u32 members) (option_and_then way_in (get_member (codes "nominal") members))

-- a list with one more value in front, if both are there
abbrev pub with_first : {A : Type 0} → Option A → Option (List A) → Option (List A)
with_first (Some first) (Some rest) = Some (first ∷ rest)
with_first _ _ = None

-- what is read in each item, if each item is a table from which it can be read
abbrev pub in_each : {A : Type 0} → (Members → Option A) → Items → Option (List A)
in_each read no_items = Some []
in_each read (item row rows) = with_first (option_and_then read (as_table row)) (in_each read rows)

-- what is read in each table of an array
abbrev pub rows_of : {A : Type 0} → (Members → Option A) → Data → Option (List A)
rows_of read value = option_and_then (in_each read) (as_array value)

-- the balise groups in the tables of an array, and none if there is no value
abbrev pub rows_or_none : Option Data → Option (List Site)
rows_or_none None = Some []
rows_or_none (Some value) = rows_of site_in value

-- the lengths of the lines; the key must be there
abbrev pub lengths_under : Members → Option (List ℕ)
lengths_under members = option_and_then (rows_of length_in) (get_member (codes "line") members)

-- the balise groups, or none if the key is missing
abbrev pub sites_under : Members → Option (List Site)
sites_under members = rows_or_none (get_member (codes "group") members)

-- what is written, of these three parts, if all of them are there
abbrev pub written_from : Option ℕ → Option (List ℕ) → Option (List Site) → Option Written
written_from (Some horizon) (Some lengths) (Some sites) = Some (record { horizon = horizon; lengths = lengths; sites = sites })
written_from _ _ _ = None

-- what is written in a document, if the value of each key is of the right kind
abbrev pub written_in : Members → Option Written
written_in members =
    written_from (horizon_in members) (lengths_under members) (sites_under members)
