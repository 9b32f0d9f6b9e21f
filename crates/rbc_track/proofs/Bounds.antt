-- The numbers of the balise groups of a document are in their range.
use Rattle.std.proofs.Common.{◌≡◌, ℕ, ◌≤◌, ◌&&◌, leb, List, ◌∷◌, Option, Some, None, option_and_then, codes, refl, subst, pos, negsuc}
use Rattle.std.specs.List.{All}
use Rattle.std.proofs.lemmas.Bool.{and_parts, leb-true}
use Rattle.std.proofs.lemmas.List.Elements.{All-nil, All-cons}
use Rattle.std.proofs.lemmas.Option.{cond_some, option_and_then_some, same_Some}
use Rattle.toml.specs.Data.{Data, string, integer, float, boolean, datetime, array, table, Items, no_items, item, Members, get_member, as_table, as_array}
use Rattle.rbc_track.specs.declared.document.Site.{Site}
use Rattle.rbc_track.specs.declared.group.Way.{Way}
use Rattle.rbc_track.specs.Document.{number_within, number_at, way_in, site_from, site_in, with_first, in_each, rows_or_none, sites_under}

within_high : (low high : ℕ) (value : Data) (n : ℕ) → number_within low high value ≡ Some n → n ≤ high
within_high low high (integer (pos m)) n e =
    let parts = cond_some (leb low m && leb m high) m n e in
    let bounds = and_parts (leb low m) (leb m high) parts.0 in
    subst (λ k. k ≤ high) parts.1 (leb-true m high bounds.1)
within_high low high (integer (negsuc m)) n e = absurd (cc)
within_high low high (string s) n e = absurd (cc)
within_high low high (float x) n e = absurd (cc)
within_high low high (boolean b) n e = absurd (cc)
within_high low high (datetime dt) n e = absurd (cc)
within_high low high (array ds) n e = absurd (cc)
within_high low high (table ms) n e = absurd (cc)

at_high : (key : List ℕ) (low high : ℕ) (members : Members) (n : ℕ) → number_at key low high members ≡ Some n → n ≤ high
at_high key low high members n e = option_and_then_some (number_within low high) (get_member key members) n e (λ value found is. within_high low high value n is)

-- the number of a balise group is not too great
abbrev IsNumbered : Site → Type 0
IsNumbered site = site.nid ≤ 16777214

numbered_from : (nid line at : Option ℕ) (nominal : Option Way) (site : Site) → ((n : ℕ) → nid ≡ Some n → n ≤ 16777214) → site_from nid line at nominal ≡ Some site → IsNumbered site
numbered_from (Some nid) (Some line) (Some at) (Some nominal) site within e = subst IsNumbered (same_Some _ _ e) (within nid refl)
numbered_from None line at nominal site within e = absurd (cc)
numbered_from (Some nid) None at nominal site within e = absurd (cc)
numbered_from (Some nid) (Some line) None nominal site within e = absurd (cc)
numbered_from (Some nid) (Some line) (Some at) None site within e = absurd (cc)

site_numbered : (members : Members) (site : Site) → site_in members ≡ Some site → IsNumbered site
site_numbered members site e =
    numbered_from (number_at (codes "nid") 0 16777214 members) (number_at (codes "line") 0 4294967295 members) (number_at (codes "at") 0 4294967295 members)
    (option_and_then way_in (get_member (codes "nominal") members)) site (at_high (codes "nid") 0 16777214 members) e

first_and_rest : (a : Option Site) (b : Option (List Site)) (sites : List Site) → with_first a b ≡ Some sites → (x : Site) × (xs : List Site) × (a ≡ Some x) × (b ≡ Some xs) × (x ∷ xs ≡ sites)
first_and_rest (Some x) (Some xs) sites e = (x, xs, refl, refl, same_Some _ _ e)
first_and_rest None b sites e = absurd (cc)
first_and_rest (Some x) None sites e = absurd (cc)

rows_numbered : (rows : Items) (sites : List Site) → in_each site_in rows ≡ Some sites → All IsNumbered sites
rows_numbered no_items sites e = subst (All IsNumbered) (same_Some _ _ e) (All-nil IsNumbered)
rows_numbered (item row rows) sites e =
    let (x, xs, first, rest, is) = first_and_rest (option_and_then site_in (as_table row)) (in_each site_in rows) sites e in
    let here : IsNumbered x = option_and_then_some site_in (as_table row) x first (λ members found read. site_numbered members x read) in
    subst (All IsNumbered) is (All-cons IsNumbered x xs here (rows_numbered rows xs rest))

under_numbered : (value : Option Data) (sites : List Site) → rows_or_none value ≡ Some sites → All IsNumbered sites
under_numbered None sites e = subst (All IsNumbered) (same_Some _ _ e) (All-nil IsNumbered)
under_numbered (Some value) sites e = option_and_then_some (in_each site_in) (as_array value) sites e (λ rows found read. rows_numbered rows sites read)

pub sites_numbered : (document : Members) (sites : List Site) → sites_under document ≡ Some sites → All (λ site. site.nid ≤ 16777214) sites
sites_numbered document sites e = under_numbered (get_member (codes "group") document) sites e
