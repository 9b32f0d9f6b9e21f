-- Which track a text is, or why it is not a track: the first rule that it breaks (own rule).
use Rattle.std.specs.Prelude.{◌≡◌, ◌⊎◌, ℕ, ◌==◌, ◌&&◌, Bool, true, false, not, nat_lt, nat_le, List, [], ◌∷◌, length, map, fold, Option, Some, None, option_map, option_and_then, Result, Ok, Err, if◌then◌else◌, slice_get}
use Rattle.std.specs.List.{list_any, list_all, find}
use Rattle.std.specs.Option.{option_map_or}
use Rattle.std.specs.Ordering.{nat_cmp}
use Rattle.std.specs.BTreeMap.{insert_entry}
use Rattle.toml.specs.Data.{Members}
use Rattle.toml.specs.Parse.{parse_document}
use Rattle.rbc_track.specs.declared.document.Site.{Site}
use Rattle.rbc_track.specs.declared.group.Group.{Group}
use Rattle.rbc_track.specs.declared.error.TrackError.{TrackError}
use Rattle.rbc_track.specs.declared.error.TrackError.TheVariants.{Text, Shape, TooManyLines, TooManyGroups, BadLength, GroupOffLine, GroupTwice, OutOfMemory}
use Rattle.rbc_track.specs.Plan.{Plan, group_of, max_lines, max_groups, max_length}
use Rattle.rbc_track.specs.Document.{Written, written_in}

-- a line can have this length
abbrev pub is_length : ℕ → Bool
is_length length = nat_le 1 length && nat_le length max_length

-- the balise group's line exists, and the group's place is not above the line's length
abbrev pub is_on : List ℕ → Site → Bool
is_on lengths site = option_map_or (λ length. nat_le site.at length) (slice_get lengths site.line) false

-- no number occurs twice
abbrev pub are_apart : List ℕ → Bool
are_apart [] = true
are_apart (number ∷ numbers) = not (list_any (λ other. number == other) numbers) && are_apart numbers

-- the numbers of the balise groups
abbrev pub numbers_of : List Site → List ℕ
numbers_of sites = map (λ site. site.nid) sites

-- the balise group that is written, without its number
abbrev pub group_at : Site → Group
group_at site = record { line = site.line; at = site.at; nominal = site.nominal }

-- the balise groups, each put at its place in the order of the numbers
abbrev pub by_number : List Site → List (ℕ × Group)
by_number sites = fold (λ groups site. insert_entry nat_cmp groups site.nid (group_at site)) [] sites

-- the track that is written in a document, or the first rule that it breaks
abbrev pub plan_of : Written → Result Plan TrackError
plan_of written =
    if nat_lt max_lines (length written.lengths) then Err TooManyLines
    else if nat_lt max_groups (length written.sites) then Err TooManyGroups
    else if not (list_all is_length written.lengths) then Err BadLength
    else if not (list_all (is_on written.lengths) written.sites) then Err GroupOffLine
    else if not (are_apart (numbers_of written.sites)) then Err GroupTwice
    else Ok (record { horizon = written.horizon; lines = written.lengths; groups = by_number written.sites })

-- a document in which the value of a key is of the wrong kind is not a track
abbrev pub plan_or_shape : Option Written → Result Plan TrackError
plan_or_shape None = Err Shape
plan_or_shape (Some written) = plan_of written

-- a text that is not a document is not a track
abbrev pub plan_or_text : Option Members → Result Plan TrackError
plan_or_text None = Err Text
plan_or_text (Some members) = plan_or_shape (written_in members)

-- the track that a text is, or why it is not a track
abbrev pub track_of : List ℕ → Result Plan TrackError
track_of text = plan_or_text (parse_document text)

-- the balise groups of a document, and none if the value of a key is of the wrong kind
abbrev pub sites_in_document : Option Members → List Site
sites_in_document document = option_map_or (λ written. written.sites) (option_and_then written_in document) []

-- the balise groups that are written in a text
abbrev pub sites_of : List ℕ → List Site
sites_of text = sites_in_document (parse_document text)

-- under each number the track has the balise group that the text has under it, or none if the text has none
abbrev pub FindsItsGroups : List ℕ → Plan → Type 0
FindsItsGroups text plan = (nid : ℕ) → group_of plan nid ≡ option_map group_at (find (λ site. site.nid == nid) (sites_of text))

-- the text is this track
abbrev pub IsTrackOf : List ℕ → Plan → Type 0
IsTrackOf text plan = track_of text ≡ Ok plan

-- the text is not a track, for this reason
abbrev pub RefusesTrack : List ℕ → TrackError → Type 0
RefusesTrack text error = track_of text ≡ Err error

-- the result is the wanted one, unless memory ran out
abbrev pub IsUnlessMemory : Result Plan TrackError → Result Plan TrackError → Type 0
IsUnlessMemory wanted result = (result ≡ wanted) ⊎ (result ≡ Err OutOfMemory)
