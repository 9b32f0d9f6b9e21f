-- The values behind a place are chained before the value at it is.
use Rattle.std.proofs.Common.{◌≡◌, ◌≢◌, ℕ, ◌+◌, ◌<◌, Bool, true, false, not, cond, ◌||◌, ltb, List, [], ◌∷◌, length, drop, replicate, set, get_or, slice_index, refl, sym, ap, ◌∙◌, subst, arith, inl, inr}
use Rattle.std.specs.List.{position_or_len}
use Rattle.std.proofs.lemmas.Bool.{cases_eq, lt-ltb, eq-eqb, ne_eqb}
use Rattle.std.proofs.lemmas.List.{length-set, get_or-replicate, get_or-set_same, get_or-set_other}
use Rattle.rbc_maps.specs.OnLines.{has_mark}
use Rattle.rbc_maps.specs.Chains.{first_with, AreHeads, entry, AreLinksFrom, AreChained, headed}

-- of no values every mark leads to the place behind the last
pub heads_none : (base : ℕ) → AreHeads base [] (replicate 128 base)
heads_none base mark below = get_or-replicate 128 mark base 0 (omega (arith, below)) ∙ sum base
  where
    sum : (base : ℕ) → base ≡ base + 0
    sum base = omega arith

-- before any value is added
pub no_heads : AreHeads 0 [] []
no_heads mark below = omega arith

module _ (place : ℕ) where
  abbrev put_first : ℕ → List ℕ → List ℕ
  put_first mark first = cond (ltb mark 64) (set first mark place) first

  length_put : (mark : ℕ) (first : List ℕ) → length (put_first mark first) ≡ length first
  length_put mark first = elim (ltb mark 64) as (λ b. length (cond b (set first mark place) first) ≡ length first) [ true ↦ length-set first mark place | false ↦ refl ]

  pub length_headed : (own first : List ℕ) → length (headed own place first) ≡ length first
  length_headed [] first = refl
  length_headed (mark ∷ own) first = length_headed own (put_first mark first) ∙ length_put mark first

  -- the mark that is put leads to the place
  put_here : (mark : ℕ) (first : List ℕ) → length first ≡ 128 → mark < 64 → slice_index (put_first mark first) mark ≡ place
  put_here mark first long below =
      ap (λ b. slice_index (cond b (set first mark place) first) mark) (lt-ltb mark 64 below) ∙ get_or-set_same first mark place 0 (omega (arith, long, below))

  -- another leads where it led
  put_other : (mark other : ℕ) (first : List ℕ) → other ≢ mark → slice_index (put_first mark first) other ≡ slice_index first other
  put_other mark other first differ =
      elim (ltb mark 64) as (λ b. slice_index (cond b (set first mark place) first) other ≡ slice_index first other) [ true ↦ get_or-set_other first mark other place 0 differ | false ↦ refl ]

  either_way : (b : Bool) → cond b place place ≡ place
  either_way true = refl
  either_way false = refl

  headed_at : (mark : ℕ) → mark < 64 → (own first : List ℕ) → length first ≡ 128 → slice_index (headed own place first) mark ≡ cond (has_mark mark own) place (slice_index first mark)
  headed_at mark below [] first long = refl
  headed_at mark below (m ∷ own) first long =
      let rest = headed_at mark below own (put_first m first) (length_put m first ∙ long) in
      elim (cases_eq m mark) [
        | inl same ↦
            rest ∙ ap (λ at. cond (has_mark mark own) place at) (subst (λ k. slice_index (put_first k first) mark ≡ place) (sym same) (put_here mark first long below))
            ∙ either_way (has_mark mark own) ∙ sym (ap (λ b. cond (b || has_mark mark own) place (slice_index first mark)) (eq-eqb m mark same))
        | inr differ ↦
            rest ∙ ap (λ at. cond (has_mark mark own) place at) (put_other m mark first (λ same. differ (sym same)))
            ∙ sym (ap (λ b. cond (b || has_mark mark own) place (slice_index first mark)) (ne_eqb m mark differ))
      ]

  -- the heads once the value at the place is put before the others
  pub heads_one : (column : List (List ℕ)) (own first : List ℕ) → length first ≡ 128 → AreHeads (place + 1) column first → AreHeads place (own ∷ column) (headed own place first)
  heads_one column own first long heads mark below =
      headed_at mark below own first long ∙ ap (λ at. cond (has_mark mark own) place at) (heads mark below) ∙ its (has_mark mark own)
    where
      its : (b : Bool) → cond b place (first_with (place + 1) column mark) ≡ place + cond (not b) (1 + position_or_len (has_mark mark) column) 0
      its true = sum place
        where
          sum : (place : ℕ) → place ≡ place + 0
          sum place = omega arith
      its false = sum place (position_or_len (has_mark mark) column)
        where
          sum : (place n : ℕ) → place + 1 + n ≡ place + (1 + n)
          sum place n = omega arith

  -- the links once the value at the place is led on by the heads of those behind it
  pub links_one : (n : ℕ) (column next : List (List ℕ)) (led first : List ℕ) → place < length column → length next ≡ length column → AreHeads (place + 1) (drop (place + 1) column) first
      → ((slot : ℕ) → slot < n → slice_index led slot ≡ slice_index first (entry column place slot)) → AreLinksFrom n (place + 1) column next → AreLinksFrom n place column (set next place led)
  links_one n column next led first within long heads leads links row slot from below inside line = elim (cases_eq row place) [
    | inl same ↦
        ap (λ (l : List ℕ). slice_index l slot) (ap (λ k. get_or (set next place led) k []) same ∙ get_or-set_same next place led [] (subst (λ m. place < m) (sym long) within))
        ∙ leads slot inside ∙ heads (entry column place slot) (subst (λ k. entry column k slot < 64) same line) ∙ sym (ap (λ k. first_with (k + 1) (drop (k + 1) column) (entry column k slot)) same)
    | inr other ↦ ap (λ (l : List ℕ). slice_index l slot) (get_or-set_other next place row led [] other) ∙ links row slot (omega (arith, from, other)) below inside line
  ]

-- other places behind the heads change nothing
pub with_hints : (n : ℕ) (column next : List (List ℕ)) (first new : List ℕ) → AreChained n column first next → ((mark : ℕ) → mark < 64 → slice_index new mark ≡ slice_index first mark) → length new ≡ 128
    → AreChained n column new next
with_hints n column next first new h same full =
    record { long = h.long; heads = λ mark below. same mark below ∙ h.heads mark below; full = λ some. full; links = h.links }
