-- Why bytes have no text.
use Rattle.std.proofs.Common.{◌≡◌, ◌∙◌, ℕ, List, Result, Ok, Err, sym, ap, inl, inr}
use Rattle.std.specs.Prelude.{◌⊎◌, IsErrAnd}
use Rattle.ertms_codec.specs.declared.error.DecodeError.{DecodeError}
use Rattle.ertms_codec.specs.declared.error.ReadError.{ReadError}
use Rattle.ertms_codec.specs.declared.error.ReadError.TheVariants as reading
use Rattle.ertms_codec.specs.declared.text.DescribeError.{DescribeError}
use Rattle.ertms_codec.specs.declared.text.DescribeError.TheVariants.{Decode, OutOfMemory}
use Rattle.ertms_codec.specs.declared.to_train.ToTrain.{ToTrain}
use Rattle.ertms_codec.specs.RefusalsToTrain as to_train
use Rattle.ertms_codec.specs.Texts.{IsWantOfMemory, fault_of_reading}

err_is : {A E : Type 0} (result : Result A E) (fault : E) → IsErrAnd result (λ other. other ≡ fault) → result ≡ Err fault
err_is (Ok value) fault is = absurd is
err_is (Err other) fault is = ap (λ e. Err e) is

ok_is_no_err : {A E : Type 0} (value : A) (fault : E) → Ok value ≡ Err fault → ⊥
ok_is_no_err value fault same = absurd cc

-- what was read is not refused, and memory did not run out
pub read_is_no_fault : (bytes : List ℕ) (e : DecodeError) (read : Result ToTrain ReadError) (m : ToTrain) → read ≡ Ok m → (read ≡ Err (reading.Decode e)) ⊎ to_train.IsWantOfMemory bytes read → ⊥
read_is_no_fault bytes e read m is fault =
    elim fault [
      | inl refused ↦ ok_is_no_err m (reading.Decode e) (sym is ∙ refused)
      | inr want ↦ ok_is_no_err m reading.OutOfMemory (sym is ∙ want.is)
    ]

-- why bytes are not read is handed on
pub fault_of_read : {T : Type 0} (bytes : List ℕ) (e : DecodeError) (read : Result ToTrain ReadError) (fault : ReadError) (result : Result T DescribeError) → read ≡ Err fault → IsErrAnd result (λ other. other ≡ fault_of_reading fault) → (read ≡ Err (reading.Decode e)) ⊎ to_train.IsWantOfMemory bytes read → (result ≡ Err (Decode e)) ⊎ IsWantOfMemory bytes result
fault_of_read bytes e read fault result is handed why =
    let was = err_is result (fault_of_reading fault) handed in
    elim why [
      | inl refused ↦
          let same : fault ≡ reading.Decode e = cc in
          inl (was ∙ ap (λ f. Err (fault_of_reading f)) same)
      | inr want ↦
          let ran_out = want.is in
          let same : fault ≡ reading.OutOfMemory = cc in
          inr (record { read = want.read; is = was ∙ ap (λ f. Err (fault_of_reading f)) same })
    ]

-- the same of a line that was made
pub line_is_no_fault : {A : Type 0} (bytes : List ℕ) (e : DecodeError) (line : Result A DescribeError) (value : A) → line ≡ Ok value → (line ≡ Err (Decode e)) ⊎ IsWantOfMemory bytes line → ⊥
line_is_no_fault bytes e line value is fault =
    elim fault [
      | inl refused ↦ ok_is_no_err value (Decode e) (sym is ∙ refused)
      | inr want ↦ ok_is_no_err value OutOfMemory (sym is ∙ want.is)
    ]

pub fault_of_line : {A T : Type 0} (bytes : List ℕ) (e : DecodeError) (line : Result A DescribeError) (fault : DescribeError) (result : Result T DescribeError) → line ≡ Err fault → IsErrAnd result (λ other. other ≡ fault) → (line ≡ Err (Decode e)) ⊎ IsWantOfMemory bytes line → (result ≡ Err (Decode e)) ⊎ IsWantOfMemory bytes result
fault_of_line bytes e line fault result is handed why =
    let was = err_is result fault handed in
    elim why [
      | inl refused ↦
          let same : fault ≡ Decode e = cc in
          inl (was ∙ ap (λ f. Err f) same)
      | inr want ↦
          let ran_out = want.is in
          let same : fault ≡ OutOfMemory = cc in
          inr (record { read = want.read; is = was ∙ ap (λ f. Err f) same })
    ]
