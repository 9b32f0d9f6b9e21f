-- Texts from a track file, as an XML document may have them. Texts are lists of characters.
use Rattle.std.specs.Prelude.{ℕ, Bool, true, false, List, [], ◌∷◌, ◌++◌, ◌==◌, ◌&&◌, ◌||◌, not, if◌then◌else◌, codes}

-- what stands for a character: `&` (38), `<` (60) and `>` (62) are written as entities, and any other is itself
abbrev pub spelling_of : ℕ → List ℕ
spelling_of c = if c == 38 then codes "&amp;" else if c == 60 then codes "&lt;" else if c == 62 then codes "&gt;" else c ∷ []

-- a text with an entity for each `&`, `<` and `>`
abbrev pub escaped : List ℕ → List ℕ
escaped [] = []
escaped (c ∷ rest) = spelling_of c ++ escaped rest

-- a text begins with some characters
abbrev pub begins_with : List ℕ → List ℕ → Bool
begins_with [] text = true
begins_with (c ∷ more) [] = false
begins_with (c ∷ more) (first ∷ rest) = c == first && begins_with more rest

-- what follows an `&` makes one of the three entities
abbrev pub ends_entity : List ℕ → Bool
ends_entity text = begins_with (codes "amp;") text || (begins_with (codes "lt;") text || begins_with (codes "gt;") text)

-- Nothing in a text can begin or end an element: it has no `<` and no `>`, and each `&` begins one of the three entities.
abbrev pub is_inert : List ℕ → Bool
is_inert [] = true
is_inert (c ∷ rest) = not (c == 60) && (not (c == 62) && ((if c == 38 then ends_entity rest else true) && is_inert rest))
