-- What was read of bytes, or why nothing was.
use Rattle.std.proofs.Common.{◌≡◌, ◌∙◌, ℕ, List, Result, Ok, Err, ap, inl, inr}
use Rattle.std.specs.Prelude.{◌⊎◌}
use Rattle.ertms_codec.specs.declared.error.ReadError.{ReadError}
use Rattle.ertms_codec.specs.declared.error.ReadError.TheVariants.{OutOfMemory}
use Rattle.ertms_codec.specs.declared.to_train.ToTrain.{ToTrain}
use Rattle.ertms_codec.specs.RefusalsToTrain as codec
use Rattle.ertms_c.specs.declared.to_train.ToTrainFields.{ToTrainFields}
use Rattle.ertms_c.specs.Faults.{read_code_of}
use Rattle.ertms_c.specs.ToTrainFields.{fields_of, IsWantOfMemory}
use Rattle.ertms_c.proofs.Results.{one_value, not_both}

-- the one fault of a result
one_fault : (r : Result ToTrain ReadError) (fault other : ReadError) → r ≡ Err fault → r ≡ Err other → fault ≡ other
one_fault r fault other p q = cc

pub only_read : (bytes : List ℕ) (r : Result ToTrain ReadError) (x m : ToTrain) (code : ℕ) (fields : ToTrainFields) → r ≡ Ok x → code ≡ 0 → fields ≡ fields_of x → (r ≡ Ok m) ⊎ codec.IsWantOfMemory bytes r → ((code ≡ 0) × (fields ≡ fields_of m)) ⊎ IsWantOfMemory bytes code
only_read bytes r x m code fields is done are only =
    elim only [
      | inl same ↦ inl (done, are ∙ ap fields_of (one_value r x m is same))
      | inr want ↦ absurd (not_both r x OutOfMemory want.is is)
    ]

pub only_wants : (bytes : List ℕ) (r : Result ToTrain ReadError) (fault : ReadError) (m : ToTrain) (code : ℕ) (fields : ToTrainFields) → r ≡ Err fault → code ≡ read_code_of fault → (r ≡ Ok m) ⊎ codec.IsWantOfMemory bytes r → ((code ≡ 0) × (fields ≡ fields_of m)) ⊎ IsWantOfMemory bytes code
only_wants bytes r fault m code fields is coded only =
    elim only [
      | inl same ↦ absurd (not_both r m fault is same)
      | inr want ↦ inr (record { read = want.read; is = coded ∙ ap read_code_of (one_fault r fault OutOfMemory is want.is) })
    ]
