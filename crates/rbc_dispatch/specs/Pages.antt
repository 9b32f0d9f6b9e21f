-- The words that ask for a page of help that belongs to no command.
use Rattle.std.specs.Prelude.{ℕ, List, [], ◌∷◌, Option, Some, None, if◌then◌else◌, codes}
use Rattle.std.specs.Str.{bytes_eq}
use Rattle.rbc_dispatch.specs.declared.pages.Topic.{Topic}
use Rattle.rbc_dispatch.specs.declared.pages.Topic.TheVariants.{Batch, Track}

-- what the page of this name is about
abbrev pub topic_named : List ℕ → Option Topic
topic_named name = if bytes_eq name (codes "batch") then Some Batch else (if bytes_eq name (codes "track") then Some Track else None)

-- `help batch` and `help track`, and no other words
abbrev pub topic_in : List (List ℕ) → Option Topic
topic_in [] = None
topic_in (help ∷ []) = None
topic_in (help ∷ name ∷ []) = if bytes_eq help (codes "help") then topic_named name else None
topic_in (help ∷ name ∷ word ∷ more) = None
