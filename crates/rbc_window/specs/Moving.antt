-- Lists of trains while messages move trains from list to list (own rule).
use Rattle.std.specs.Prelude.{ℕ, if◌then◌else◌, List, [], ◌∷◌, Option}
use Rattle.rbc_records.specs.declared.record.Key.{Key}
use Rattle.rbc_records.specs.declared.record.Rec.{Rec}
use Rattle.rbc_records.specs.Notes.{same_key}
use Rattle.rbc_rule.specs.Records.{engines_record}
use Rattle.rbc_window.specs.Messages.{Records}

-- what stands under a key, if some lists have changed
abbrev pub list_or : List (Key × List ℕ) → Records → Key → Option Rec
list_or [] records k = records k
list_or (list ∷ lists) records k = if same_key k list.0 then engines_record list.1 else list_or lists records k
