-- Lines that are wrong however they go on.
use Rattle.std.proofs.Common.{◌≡◌, ℕ, ◌+◌, ◌≤◌, ◌<◌, ◌⊎◌, Bool, true, false, cond, List, [], ◌∷◌, ◌++◌, length, get_or, Option, Some, None, is_some, Result, Ok, Err, refl, sym, ap, ◌∙◌, inl, inr, arith, length-append, length-take, length-drop}
use Rattle.std.specs.Prelude.{codes, slice_get}
use Rattle.std.specs.Str.{bytes_eq}
use Rattle.std.specs.List.{before_first, after_first, position_or_len}
use Rattle.std.proofs.Math.ListN.{get_or-append}
use Rattle.std.proofs.lemmas.Option.{slice_get-get_or}
use Rattle.std.proofs.lemmas.Slice.Eq.{bytes_eq-Decides}
use Rattle.rbc_text.specs.BatchText.{is_colon, decimal_of}
use Rattle.rbc_words.specs.ReportWords.{◌>>=◌, or_wrong, number_of, place_of, way_of, number_at, place_at, way_at, doubt_at, end_at, report_of}
use Rattle.rbc_words.specs.declared.line_fault.LineWord.{LineWord}
use Rattle.rbc_words.specs.declared.line_fault.LineFault.{LineFault}
use Rattle.rbc_words.specs.declared.line_fault.LineFault.TheVariants.{Word}
use Rattle.rbc_words.specs.declared.line_fault.LineWord.TheVariants as ways
use Rattle.rbc_words.specs.declared.report.Report.{Report}
use Rattle.ertms_codec.specs.declared.wrong_word.Expected.TheVariants.{Number, End}
use Rattle.rbc_track.specs.declared.group.Way.{Way}
use Rattle.rbc_track.specs.declared.group.Way.TheVariants.{Up, Down}
use Rattle.rbc_words.proofs.LastWords.{fits_ten}

-- ---- words that are too long

no_decimal : (word : List ℕ) → 10 < length word → decimal_of word ≡ None
no_decimal word long = by (decimal_of word) refl
  where
    by : (o : Option ℕ) → decimal_of word ≡ o → o ≡ None
    by None e = refl
    by (Some number) e = let few = fits_ten word (ap is_some e) in absurd (omega (arith, few, long))

no_number : (most : ℕ) (word : List ℕ) → 21 < length word → number_of most (Some word) ≡ None
no_number most word long = rw (no_decimal word (omega (arith, long))) refl

-- the parts of a word around its first colon
parts_of : (word : List ℕ) → length word ≤ length (before_first is_colon word) + (length (after_first is_colon word) + 1)
parts_of word =
    let at = position_or_len is_colon word in
    let front = length-take at word in
    let behind = length-drop (at + 1) word in
    omega (arith, front, behind)

no_place : (word : List ℕ) → 21 < length word → place_of (Some word) ≡ None
no_place word long = by (decimal_of (before_first is_colon word)) (decimal_of (after_first is_colon word)) refl refl
  where
    by : (line at : Option ℕ) → decimal_of (before_first is_colon word) ≡ line → decimal_of (after_first is_colon word) ≡ at → place_of (Some word) ≡ None
    by None at l a = rw l refl
    by (Some line) None l a = rw l (rw a refl)
    by (Some line) (Some at) l a =
        let first = fits_ten (before_first is_colon word) (ap is_some l) in
        let second = fits_ten (after_first is_colon word) (ap is_some a) in
        let all = parts_of word in
        absurd (omega (arith, first, second, all, long))

no_way : (word : List ℕ) → 21 < length word → way_of (Some word) ≡ None
no_way word long = by (bytes_eq word (codes "up")) (bytes_eq word (codes "down")) refl refl
  where
    by : (up down : Bool) → bytes_eq word (codes "up") ≡ up → bytes_eq word (codes "down") ≡ down → cond {A = Option Way} (bytes_eq word (codes "up")) (Some Up) (cond (bytes_eq word (codes "down")) (Some Down) None) ≡ None
    by true down u d = let two = ap length ((bytes_eq-Decides word (codes "up")).0 u) in absurd (omega (arith, two, long))
    by false true u d = let four = ap length ((bytes_eq-Decides word (codes "down")).0 d) in absurd (omega (arith, four, long))
    by false false u d = rw u (rw d refl)

-- ---- the words before

get_front : (front one two : List (List ℕ)) (k : ℕ) → k < length front → slice_get (front ++ one) k ≡ slice_get (front ++ two) k
get_front front one two k within =
    let first = length-append front one in
    let second = length-append front two in
    slice_get-get_or (front ++ one) k [] (omega (arith, first, within)) ∙ ap (λ (w : List ℕ). Some w) (get_or-append front one [] k within ∙ sym (get_or-append front two [] k within))
    ∙ sym (slice_get-get_or (front ++ two) k [] (omega (arith, second, within)))

get_seam : (front : List (List ℕ)) (word : List ℕ) (more : List (List ℕ)) (d : List ℕ) → get_or (front ++ word ∷ more) (length front) d ≡ word
get_seam [] word more d = refl
get_seam (first ∷ front) word more d = get_seam front word more d

get_last : (front : List (List ℕ)) (word : List ℕ) (more : List (List ℕ)) → slice_get (front ++ word ∷ more) (length front) ≡ Some word
get_last front word more =
    let count = length-append front (word ∷ more) in
    slice_get-get_or (front ++ word ∷ more) (length front) [] (omega (arith, count)) ∙ ap (λ (w : List ℕ). Some w) (get_seam front word more [])

-- ---- a report

module _ (front : List (List ℕ)) (last other : List ℕ) (rest : List (List ℕ)) where
  abbrev pub bound_is : ℕ → Type 0
  bound_is bound = (bound ≡ length front) ⊎ ((bound ≡ length front + 1) × (21 < length last) × (21 < length other))

  -- a word up to the bound is read alike
  alike : {A : Type 0} (read : Option (List ℕ) → Result A LineFault) (fault : LineFault) → ((word : List ℕ) → 21 < length word → read (Some word) ≡ Err fault)
      → (bound k : ℕ) → bound_is bound → k + 1 ≤ bound → read (slice_get (front ++ other ∷ rest) k) ≡ read (slice_get (front ++ last ∷ []) k)
  alike read fault long bound k (inl is) within = ap read (get_front front (other ∷ rest) (last ∷ []) k (omega (arith, is, within)))
  alike read fault long bound k (inr (is, many, more)) within = elim (le_cases k (length front) (omega (arith, is, within))) [
    | inl before ↦ ap read (get_front front (other ∷ rest) (last ∷ []) k before)
    | inr here ↦ ap (λ n. read (slice_get (front ++ other ∷ rest) n)) here ∙ ap read (get_last front other rest) ∙ long other more
        ∙ sym (ap (λ n. read (slice_get (front ++ last ∷ []) n)) here ∙ ap read (get_last front last []) ∙ long last many)
  ]
    where
      le_cases : (a b : ℕ) → a ≤ b → (a < b) ⊎ (a ≡ b)
      le_cases a b le = grind arith

-- where a fault is, and that it stays
abbrev pub Keeps : ℕ → ℕ → Result Report LineFault → Result Report LineFault → Type 0
Keeps bound least read other = (index : ℕ) (expected : LineWord) → read ≡ Err (Word index expected) → (least ≤ index) × (index ≤ bound → other ≡ Err (Word index expected))

step : {A : Type 0} (bound k : ℕ) (expected : LineWord) (read other : Result A LineFault) (next following : A → Result Report LineFault)
    → ((fault : LineFault) → read ≡ Err fault → fault ≡ Word (k + 1) expected) → (k + 1 ≤ bound → other ≡ read) → ((x : A) → Keeps bound (k + 2) (next x) (following x))
    → Keeps bound (k + 1) (read >>= next) (other >>= following)
step bound k at (Ok x) other next following fails same keeps index expected is =
    let rest = keeps x index expected is in
    let low = rest.0 in
    (omega (arith, low), λ within. ap (λ r. r >>= following) (same (omega (arith, low, within))) ∙ rest.1 within)
step {A} bound k at (Err fault) other next following fails same keeps index expected is =
    let here = fails fault refl in
    let whole : ◌≡◌ {A = Result Report LineFault} (Err fault) (Err (Word index expected)) = is in
    let number : index ≡ k + 1 = cc in
    (omega (arith, number), λ within. ap (λ r. r >>= following) (same (omega (arith, number, within))) ∙ whole)

wrong_fails : {A : Type 0} (behind : ℕ) (expected : LineWord) (found : Option A) (fault : LineFault) → or_wrong behind expected found ≡ Err fault → fault ≡ Word (behind + 1) expected
wrong_fails behind expected (Some x) fault e = cc
wrong_fails behind expected None fault e = cc

doubt_fails : (word : Option (List ℕ)) (fault : LineFault) → doubt_at 5 word ≡ Err fault → fault ≡ Word 6 (ways.Text (Number 3000000))
doubt_fails None fault e = cc
doubt_fails (Some word) fault e = wrong_fails 5 (ways.Text (Number 3000000)) (number_of 3000000 (Some word)) fault e

end_fails : (word : Option (List ℕ)) (fault : LineFault) → end_at 6 word ≡ Err fault → fault ≡ Word 7 (ways.Text End)
end_fails None fault e = cc
end_fails (Some word) fault e = cc

-- a report is wrong however it goes on
pub report_keeps : (front : List (List ℕ)) (last other : List ℕ) (rest : List (List ℕ)) (bound index : ℕ) (expected : LineWord) → bound_is front last other rest bound
    → report_of (slice_get (front ++ last ∷ [])) ≡ Err (Word index expected)
    → (2 ≤ index) × (index ≤ bound → report_of (slice_get (front ++ other ∷ rest)) ≡ Err (Word index expected))
report_keeps front last other rest bound index expected is wrong =
    let get = slice_get (front ++ last ∷ []) in
    let got = slice_get (front ++ other ∷ rest) in
    step bound 1 (ways.Text (Number 16777215)) (number_at 16777215 1 (get 1)) (number_at 16777215 1 (got 1)) _ _
    (wrong_fails 1 (ways.Text (Number 16777215)) (number_of 16777215 (get 1)))
    (alike front last other rest (number_at 16777215 1) (Word 2 (ways.Text (Number 16777215))) (λ w long. ap (or_wrong 1 (ways.Text (Number 16777215))) (no_number 16777215 w long)) bound 1 is)
    (λ engine. step bound 2 (ways.Text (Number 4294967295)) (number_at 4294967295 2 (get 2)) (number_at 4294967295 2 (got 2)) _ _
    (wrong_fails 2 (ways.Text (Number 4294967295)) (number_of 4294967295 (get 2)))
    (alike front last other rest (number_at 4294967295 2) (Word 3 (ways.Text (Number 4294967295))) (λ w long. ap (or_wrong 2 (ways.Text (Number 4294967295))) (no_number 4294967295 w long)) bound 2 is)
    (λ stamp. step bound 3 ways.Place (place_at 3 (get 3)) (place_at 3 (got 3)) _ _
    (wrong_fails 3 ways.Place (place_of (get 3)))
    (alike front last other rest (place_at 3) (Word 4 ways.Place) (λ w long. ap (or_wrong 3 ways.Place) (no_place w long)) bound 3 is)
    (λ place. step bound 4 ways.Way (way_at 4 (get 4)) (way_at 4 (got 4)) _ _
    (wrong_fails 4 ways.Way (way_of (get 4)))
    (alike front last other rest (way_at 4) (Word 5 ways.Way) (λ w long. ap (or_wrong 4 ways.Way) (no_way w long)) bound 4 is)
    (λ facing. step bound 5 (ways.Text (Number 3000000)) (doubt_at 5 (get 5)) (doubt_at 5 (got 5)) _ _
    (doubt_fails (get 5))
    (alike front last other rest (doubt_at 5) (Word 6 (ways.Text (Number 3000000))) (λ w long. ap (or_wrong 5 (ways.Text (Number 3000000))) (no_number 3000000 w long)) bound 5 is)
    (λ doubt. step bound 6 (ways.Text End) (end_at 6 (get 6)) (end_at 6 (got 6)) _ _
    (end_fails (get 6))
    (alike front last other rest (end_at 6) (Word 7 (ways.Text End)) (λ w long. refl) bound 6 is)
    (λ end i e ok. cc)))))) index expected wrong
