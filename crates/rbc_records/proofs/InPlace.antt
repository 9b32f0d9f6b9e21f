-- A record that is changed where it stands.
use Rattle.std.proofs.Common.{◌≡◌, ℕ, zero, suc, List, [], ◌∷◌, Some, set, slice_get, refl, sym, ap, ◌∙◌}
use Rattle.std.specs.Map.{values_of}
use Rattle.indexmap.specs.IndexMap.{set_value_at}
use Rattle.rbc_records.specs.declared.record.Key.{Key}
use Rattle.rbc_records.specs.declared.record.Rec.{Rec}
use Rattle.rbc_records.specs.Columns.{column_of}

-- a column after that
pub column_set : {B : Type 0} (f : Rec → B) (entries : List (Key × Rec)) (index : ℕ) (new : Rec) → column_of f (set_value_at entries index new) ≡ set (column_of f entries) index (f new)
column_set f [] index new = refl
column_set f (entry ∷ entries) zero new = refl
column_set f (entry ∷ entries) (suc index) new = ap (λ (rest : List _). f entry.1 ∷ rest) (column_set f entries index new)

-- a column that does not tell the two records apart
pub column_kept : {B : Type 0} (f : Rec → B) (entries : List (Key × Rec)) (index : ℕ) (old new : Rec) → slice_get (values_of entries) index ≡ Some old → f new ≡ f old → column_of f (set_value_at entries index new) ≡ column_of f entries
column_kept f [] index old new at same = refl
column_kept f (entry ∷ entries) zero old new at same =
    let there : entry.1 ≡ old = cc in
    ap (λ (first : _). first ∷ column_of f entries) (same ∙ ap f (sym there))
column_kept f (entry ∷ entries) (suc index) old new at same = ap (λ (rest : List _). f entry.1 ∷ rest) (column_kept f entries index old new at same)

-- the record that was there leaves all as it is
pub set_same : (entries : List (Key × Rec)) (index : ℕ) (old : Rec) → slice_get (values_of entries) index ≡ Some old → set_value_at entries index old ≡ entries
set_same [] index old at = refl
set_same (entry ∷ entries) zero old at =
    let there : entry.1 ≡ old = cc in
    ap (λ (rec : Rec). (entry.0, rec) ∷ entries) (sym there)
set_same (entry ∷ entries) (suc index) old at = ap (λ (rest : List (Key × Rec)). entry ∷ rest) (set_same entries index old at)
