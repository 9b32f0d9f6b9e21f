-- Which texts of a track file are shown, and where its rows are (own rule).
use Rattle.std.specs.Prelude.{ℕ, Bool, not, ◌&&◌, ◌||◌, ◌==◌, nat_le, bit_and, List, length, Option, Some, None, is_some, is_none, if◌then◌else◌, codes}
use Rattle.std.specs.List.{list_all}
use Rattle.std.specs.Str.{chars}
use Rattle.toml.specs.Data.{Data, string, array, Items, no_items, Members, get_member}

-- a code that would break a log or turn its order: a control character, a separator, a mark of direction, no character
abbrev pub is_unruly : ℕ → Bool
is_unruly c =
    nat_le c 31 || nat_le 127 c && nat_le c 159 || c == 8206 || c == 8207 || nat_le 8232 c && nat_le c 8238
    || nat_le 8294 c && nat_le c 8297 || c == 65279 || bit_and c 65534 == 65534

-- a text that can be shown as a name: 1 to 40 characters, none of which is unruly
abbrev pub is_name : List ℕ → Bool
is_name text =
    not (length text == 0) && list_all (λ c. not (is_unruly c)) (chars text) && nat_le (length (chars text)) 40

-- the name in a value, if it can be shown
abbrev pub shown_in : Option Data → Option (List ℕ)
shown_in (Some (string text)) = if is_name text then Some text else None
shown_in _ = None

-- the name in a table, if it has one that can be shown
abbrev pub shown_name : Members → Option (List ℕ)
shown_name table = shown_in (get_member (codes "name") table)

-- a table has a name that cannot be shown
abbrev pub has_hidden_name : Members → Bool
has_hidden_name table = is_some (get_member (codes "name") table) && is_none (shown_name table)

-- the rows in a value, and none if it is not an array
abbrev pub rows_in : Option Data → Items
rows_in (Some (array rows)) = rows
rows_in _ = no_items

-- the rows under a key
abbrev pub rows_under : List ℕ → Members → Items
rows_under key document = rows_in (get_member key document)
