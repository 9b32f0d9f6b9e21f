-- What the records count that a publication shows.
use Rattle.std.proofs.Common.{◌≡◌, subst, sym, List, [], ◌∷◌, Option, Bool, true, false, cond}
use Rattle.std.proofs.Common.{◌+◌, ◌≤◌, ℕ, min, arith}
use Rattle.std.specs.Option.{option_map}
use Rattle.indexmap.specs.IndexMap.{insert_entry}
use Rattle.rbc_records.specs.declared.record.Key.{Key}
use Rattle.rbc_records.specs.declared.record.Rec.{Rec}
use Rattle.rbc_records.specs.Notes.{same_key}
use Rattle.rbc_versions.specs.Log.{Shown}
use Rattle.rbc_versions.specs.Entries.{shown, record_of, note_weight, notes_weight, CountsAll}
use Rattle.rbc_versions.proofs.Putting.{shown_put}

-- nothing counts nothing
pub none_weighs : (entries : List (Key × Option Shown)) → entries ≡ [] → CountsAll 0 (shown entries)
none_weighs entries none = subst (λ (e : List (Key × Option Shown)). CountsAll 0 (shown e)) (sym none) (omega arith)

-- one more counts no more than itself
weight_put : (notes : List (Key × Option Rec)) (k : Key) (rec : Option Rec)
    → notes_weight (insert_entry same_key notes k rec) ≤ notes_weight notes + note_weight rec
weight_put [] k rec = omega arith
weight_put (note ∷ notes) k rec = by (same_key k note.0) (weight_put notes k rec)
  where
    by : (b : Bool) → notes_weight (insert_entry same_key notes k rec) ≤ notes_weight notes + note_weight rec
        → notes_weight (cond b ((note.0, rec) ∷ notes) (note ∷ insert_entry same_key notes k rec))
        ≤ note_weight note.1 + notes_weight notes + note_weight rec
    by true rest = omega arith
    by false rest = omega (arith, rest)

-- a sum that is cut off at a number stays at or above what is cut off there
cut_off : (before one now most sum added new : ℕ) → now ≤ before + one → min before most ≤ sum → added ≡ min one most
    → new ≡ min (sum + added) most → min now most ≤ new
cut_off before one now most sum added new up low is sums = omega (arith, up, low, is, sums)

-- the weight counts one more
pub weight_more : (entries : List (Key × Option Shown)) (k : Key) (ticket : Option Shown) (rec : Option Rec)
    → (most sum added new : ℕ) → option_map record_of ticket ≡ rec → min (notes_weight (shown entries)) most ≤ sum
    → added ≡ min (note_weight rec) most → new ≡ min (sum + added) most
    → min (notes_weight (shown (insert_entry same_key entries k ticket))) most ≤ new
weight_more entries k ticket rec most sum added new same low is sums =
    let before = shown entries in
    let put : Option Rec = option_map record_of ticket in
    let one : added ≡ min (note_weight put) most = subst (λ (r : Option Rec). added ≡ min (note_weight r) most) (sym same) is in
    subst (λ (notes : List (Key × Option Rec)). min (notes_weight notes) most ≤ new) (sym (shown_put entries k ticket))
    (cut_off (notes_weight before) (note_weight put) (notes_weight (insert_entry same_key before k put)) most sum added
    new (weight_put before k put) low one sums)
