-- What is read of a list of stages.
use Rattle.std.proofs.Common.{◌≡◌, ◌⊎◌, inl, inr, ℕ, ◌+◌, ◌-◌, ◌<◌, ◌≤◌, Bool, true, false, ltb, List, [], ◌∷◌, ◌++◌, length, get_or, Option, Some, None, refl, sym, ap, ◌∙◌, subst, arith}
use Rattle.std.specs.Prelude.{◌↔◌, IsTrue, slice_get, replicate}
use Rattle.std.proofs.lemmas.Bool.{ltb-true, ltb-false, false≢true}
use Rattle.std.proofs.lemmas.List.{replicate_more}
use Rattle.std.proofs.lemmas.Option.{slice_get_read, slice_get_past, same_Some}
use Rattle.rbc_records.specs.declared.record.Key.{Key}
use Rattle.rbc_records.specs.Notes.{AreNow}
use Rattle.rbc_versions.specs.Log.{Shown}
use Rattle.rbc_versions.specs.Entries.{AreCurrent, records_of}
use Rattle.rbc_core.specs.declared.stage.Stage.{Stage}
use Rattle.rbc_core.specs.declared.stage.Stage.TheVariants.{Free, Out, Tried}
use Rattle.rbc_core.specs.Core.{Try}
use Rattle.rbc_core.specs.Books.{IsOutIn, IsJudged, Judges, number_now, record_now}

-- one stage more is free
pub more_free : (n : ℕ) (xs ys : List (Stage Try)) → xs ≡ replicate n Free → ys ≡ xs ++ Free ∷ [] → ys ≡ replicate (n + 1) Free
more_free n xs ys free pushed = pushed ∙ (ap (λ (l : List (Stage Try)). l ++ Free ∷ []) free ∙ replicate_more n Free)

pub free_to_end : (n count : ℕ) (xs : List (Stage Try)) → n ≤ count → count ≤ n → xs ≡ replicate n Free → xs ≡ replicate count Free
free_to_end n count xs low high free = let all : n ≡ count = omega (arith, low, high) in free ∙ ap (λ (k : ℕ). replicate k Free) all

-- what is read where there is a stage, and where there is none
read_here : (xs ys : List (Stage Try)) (i : ℕ) (x : Stage Try) → ys ≡ xs → true ≡ ltb i (length ys) → x ≡ get_or ys i x → slice_get xs i ≡ Some x
read_here xs ys i x same inside read = slice_get_read xs (length ys) i x (ap length same) (ltb-true i (length ys) (sym inside)) (read ∙ ap (λ (l : List (Stage Try)). get_or l i x) same)

read_past : (xs ys : List (Stage Try)) (i : ℕ) → ys ≡ xs → false ≡ ltb i (length ys) → slice_get xs i ≡ None
read_past xs ys i same past = slice_get_past xs i (subst (λ (l : List (Stage Try)). length l ≤ i) same (ltb-false i (length ys) (sym past)))

-- whether the input of a number is out
not_both : (found : Option (Stage Try)) → found ≡ None → found ≡ Some Out → ⊥
not_both found none some = absurd (cc (none, some))

pub is_out_here : (xs ys : List (Stage Try)) (number : ℕ) (x : Stage Try) → 0 < number → ys ≡ xs → true ≡ ltb (number - 1) (length ys) → x ≡ get_or ys (number - 1) x → x ≡ Out → IsTrue true ↔ IsOutIn xs number
is_out_here xs ys number x first same inside read is = (λ _. (omega arith, read_here xs ys (number - 1) x same inside read ∙ ap Some is), λ _. refl)

pub is_other_here : (xs ys : List (Stage Try)) (number : ℕ) (x : Stage Try) → ys ≡ xs → true ≡ ltb (number - 1) (length ys) → x ≡ get_or ys (number - 1) x → (x ≡ Out → ⊥) → IsTrue false ↔ IsOutIn xs number
is_other_here xs ys number x same inside read other = (λ e. absurd (false≢true e), λ out. absurd (other (same_Some _ _ (sym (read_here xs ys (number - 1) x same inside read) ∙ out.1))))

pub none_is_out : (xs ys : List (Stage Try)) (number : ℕ) → ys ≡ xs → false ≡ ltb (number - 1) (length ys) → IsTrue false ↔ IsOutIn xs number
none_is_out xs ys number same past = (λ e. absurd (false≢true e), λ out. absurd (not_both (slice_get xs (number - 1)) (read_past xs ys (number - 1) same past) out.1))

pub none_at_zero : (xs : List (Stage Try)) (number : ℕ) → number ≤ 0 → IsTrue (ltb 0 number) ↔ IsOutIn xs number
none_at_zero xs number zero = (λ e. absurd (let first = ltb-true 0 number e in omega (arith, first)), λ out. absurd (let first = out.0 in omega (arith, first)))

-- whether an input can be committed, by the stage that is read
pub is_judged : (xs : List (Stage Try)) (i : ℕ) (tickets : List (Key × Shown)) (answer : Option Bool) (x g : Stage Try) → i < length xs → x ≡ get_or xs i x → x ≡ g → Judges tickets g answer → IsJudged xs i tickets answer
is_judged xs i tickets answer x g within read is judged = (g, slice_get_read xs (length xs) i x refl within read ∙ ap Some is, judged)

pub not_judged : (xs : List (Stage Try)) (i : ℕ) (tickets : List (Key × Shown)) (x : Stage Try) → i < length xs → x ≡ get_or xs i x → (x ≡ Free) ⊎ (x ≡ Out) → IsJudged xs i tickets None
not_judged xs i tickets x within read (inl free) = is_judged xs i tickets None x Free within read free tt
not_judged xs i tickets x within read (inr out) = is_judged xs i tickets None x Out within read out tt

-- an attempt is judged by its numbers
pub judged_by : (tickets : List (Key × Shown)) (a : Try) (fresh : Bool) → (IsTrue fresh ↔ AreCurrent a.notes (number_now tickets)) → (IsTrue fresh → AreNow (records_of a.notes) (record_now tickets)) → Judges tickets (Tried a) (Some fresh)
judged_by tickets a true is now = (is.0 refl, now refl)
judged_by tickets a false is now = λ current. absurd (false≢true (is.1 current))
