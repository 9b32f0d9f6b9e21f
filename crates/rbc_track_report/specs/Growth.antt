-- What a report and its remarks gain while they are written (own rule).
use Rattle.std.specs.Prelude.{◌≡◌, ◌⊎◌, Bool, true, false, List, [], ◌∷◌, ◌++◌, string_bytes}
use Rattle.rbc_track_report.specs.declared.remark.Remark.{Remark}
use Rattle.rbc_track_report.specs.declared.remark.Remarks.{Remarks}
use Rattle.rbc_track_report.specs.declared.report_text.Sheet.{Sheet}

-- The old list is the front of the new one.
pub record Grows {A : Type 0} (old new : List A) : Type 0 where
  pub added : List A
  pub behind : new ≡ old ++ added

-- something was added at the end, or memory was refused for it
abbrev pub IsAddedOrCut : {A : Type 0} → A → List A → List A → Bool → Bool → Type 0
IsAddedOrCut last old new was_cut is_cut =
    ((new ≡ old ++ last ∷ []) × (is_cut ≡ was_cut)) ⊎ ((new ≡ old) × (is_cut ≡ true))

-- A warning is added, and nothing else.
pub record IsWarned (remark : Remark) (old new : Remarks) : Type 0 where
  pub warnings : IsAddedOrCut remark old.warnings.items new.warnings.items old.is_cut new.is_cut
  pub notes : new.notes.items ≡ old.notes.items
  pub other_keys : new.other_keys ≡ old.other_keys

-- A note is added, and nothing else.
pub record IsNoted (remark : Remark) (old new : Remarks) : Type 0 where
  pub notes : IsAddedOrCut remark old.notes.items new.notes.items old.is_cut new.is_cut
  pub warnings : new.warnings.items ≡ old.warnings.items
  pub other_keys : new.other_keys ≡ old.other_keys

-- Only warnings were added, after the old ones. What was cut stays cut.
pub record AreWarned (old new : Remarks) : Type 0 where
  pub warnings : Grows old.warnings.items new.warnings.items
  pub notes : new.notes.items ≡ old.notes.items
  pub other_keys : new.other_keys ≡ old.other_keys
  pub cut : old.is_cut ≡ true → new.is_cut ≡ true

-- Only notes were added, after the old ones. What was cut stays cut.
pub record AreNoted (old new : Remarks) : Type 0 where
  pub warnings : new.warnings.items ≡ old.warnings.items
  pub notes : Grows old.notes.items new.notes.items
  pub other_keys : new.other_keys ≡ old.other_keys
  pub cut : old.is_cut ≡ true → new.is_cut ≡ true

-- Remarks on unknown keys were added: notes if other keys are allowed, else warnings.
pub record AreOnKeys (old new : Remarks) : Type 0 where
  pub allowed : old.other_keys ≡ true → AreNoted old new
  pub forbidden : old.other_keys ≡ false → AreWarned old new

-- A sheet was written on: if it is not cut, it was not cut before, and the old text is the front of the new one.
pub record IsWrittenOn (old new : Sheet) : Type 0 where
  pub whole : new.is_cut ≡ false → old.is_cut ≡ false
  pub text : new.is_cut ≡ false → Grows (string_bytes old.text) (string_bytes new.text)
