-- The marks that stand beside the active values stay in their order.
use Rattle.std.proofs.Common.{◌≡◌, ℕ, zero, suc, ◌<◌, ◌≤◌, true, false, not, cond, eqb, List, [], ◌∷◌, ◌++◌, map, length, refl, sym, ap, ◌∙◌, subst, arith, rules}
use Rattle.std.specs.List.{remove, All}
use Rattle.std.proofs.lemmas.List.Elements.{All-cons, All-head, All-tail, All-push}
use Rattle.rbc_maps.specs.Maps.{has, index_for, without}
use Rattle.rbc_maps.specs.Numbered.{Numbered}
use Rattle.rbc_maps.specs.Chains.{AreChained, AreMarked}
use Rattle.rbc_maps.proofs.Chained.{no_heads}
use Rattle.rbc_maps.proofs.MapValues.{count_within, numbered-snoc, numbered-without, map_of_numbered, found_here, without-found, without-absent}

module _ {V : Type 0} (marks : V → List ℕ) where
  map-snoc : (pairs : List (ℕ × V)) (pair : ℕ × V) → map (λ pair. marks pair.1) (pairs ++ pair ∷ []) ≡ map (λ pair. marks pair.1) pairs ++ marks pair.1 ∷ []
  map-snoc [] pair = refl
  map-snoc (first ∷ pairs) pair = ap (λ rest. marks first.1 ∷ rest) (map-snoc pairs pair)

  map-remove : (pairs : List (ℕ × V)) (at : ℕ) → remove (map (λ pair. marks pair.1) pairs) at ≡ map (λ pair. marks pair.1) (remove pairs at)
  map-remove [] zero = refl
  map-remove [] (suc at) = refl
  map-remove (pair ∷ pairs) zero = refl
  map-remove (pair ∷ pairs) (suc at) = ap (λ rest. marks pair.1 ∷ rest) (map-remove pairs at)

  module _ (is_sound : V → Type 0) where
    -- what holds of each value holds of each that is left
    sound-without : (number : ℕ) (pairs : List (ℕ × V)) → All (λ pair. is_sound pair.1) pairs → All (λ pair. is_sound pair.1) (without number pairs)
    sound-without number [] all = all
    sound-without number (pair ∷ pairs) all =
        let rest = sound-without number pairs (All-tail (λ pair. is_sound pair.1) pair pairs all) in
        elim (eqb pair.0 number) as (λ b. All (λ pair. is_sound pair.1) (cond (not b) (pair ∷ without number pairs) (without number pairs))) [
          | true ↦ rest
          | false ↦ All-cons (λ pair. is_sound pair.1) pair (without number pairs) (All-head (λ pair. is_sound pair.1) pair pairs all) rest
        ]

    -- no value is chained
    pub with_none : (k : ℕ) (active : List (ℕ × V)) (column next : List (List ℕ)) (first : List ℕ) → active ≡ [] → column ≡ [] → next ≡ [] → first ≡ []
        → AreMarked marks is_sound k (record { last = 0; active = active }) column first next
    with_none k active column next first a c n f =
        subst (λ active. AreMarked marks is_sound k (record { last = 0; active = active }) column first next) (sym a)
        (subst (λ column. AreMarked marks is_sound k (record { last = 0; active = [] }) column first next) (sym c)
        (subst (λ next. AreMarked marks is_sound k (record { last = 0; active = [] }) [] first next) (sym n)
        (subst (λ first. AreMarked marks is_sound k (record { last = 0; active = [] }) [] first []) (sym f) (record {
          numbered = record { ascending = refl; within = none (λ number. number ≤ 0) };
          kept = refl;
          sound = none (λ pair. is_sound pair.1);
          chained = record { long = refl; heads = no_heads; full = λ some. absurd (omega (arith, some)); links = λ row slot from below inside line. absurd (omega (arith, below)) };
        }))))
      where
        none : {X : Type 0} (P : X → Type 0) → All P []
        none P = search rules

    -- one more value and its marks, once all are chained anew
    pub with_one : (k : ℕ) (n : Numbered V) (column next : List (List ℕ)) (first : List ℕ) (number : ℕ) (value : V) → AreMarked marks is_sound k n column first next → n.last < number → is_sound value
        → (new : List (List ℕ)) (heads : List ℕ) → AreChained k (column ++ marks value ∷ []) heads new
        → AreMarked marks is_sound k (record { last = number; active = n.active ++ (number, value) ∷ [] }) (column ++ marks value ∷ []) heads new
    with_one k n column next first number value h above sound new heads chained = record {
      numbered = numbered-snoc n number value h.numbered above;
      kept = ap (λ all. all ++ marks value ∷ []) h.kept ∙ sym (map-snoc n.active (number, value));
      sound = All-push (λ pair. is_sound pair.1) n.active (number, value) h.sound sound;
      chained = chained;
    }

    -- a value that was there, and its marks, taken out, once the others are chained anew
    pub without_one : (k : ℕ) (n : Numbered V) (column next : List (List ℕ)) (first : List ℕ) (number : ℕ) → AreMarked marks is_sound k n column first next → has n.active number ≡ true
        → (new : List (List ℕ)) (heads : List ℕ) → AreChained k (remove column (index_for number n.active)) heads new
        → AreMarked marks is_sound k (record { last = n.last; active = without number n.active }) (remove column (index_for number n.active)) heads new
    without_one k n column next first number h there new heads chained = record {
      numbered = numbered-without n number h.numbered;
      kept = ap (λ all. remove all (index_for number n.active)) h.kept ∙ map-remove n.active (index_for number n.active)
          ∙ ap (map (λ pair. marks pair.1)) (without-found number n.active (map_of_numbered n h.numbered) there);
      sound = sound-without number n.active h.sound;
      chained = chained;
    }

    same_length : (pairs : List (ℕ × V)) → length (map (λ pair. marks pair.1) pairs) ≡ length pairs
    same_length [] = refl
    same_length (pair ∷ pairs) = ap suc (same_length pairs)

    -- there are as many marks as values, and the numbers of these bound how many they are
    pub as_many : (k : ℕ) (n : Numbered V) (column next : List (List ℕ)) (first : List ℕ) → AreMarked marks is_sound k n column first next → (length column ≡ length n.active) × (length n.active ≤ n.last)
    as_many k n column next first h = (ap length h.kept ∙ same_length n.active, count_within n h.numbered)

    -- the marks of a value that is there stand at its place
    pub has_marks : (k : ℕ) (n : Numbered V) (column next : List (List ℕ)) (first : List ℕ) (number : ℕ) → AreMarked marks is_sound k n column first next → has n.active number ≡ true → index_for number n.active < length column
    has_marks k n column next first number h there = subst (λ m. index_for number n.active < m) (sym (as_many k n column next first h).0) (found_here number n.active (map_of_numbered n h.numbered) there).0

    -- a number that was not there changes nothing
    pub without_none : (k : ℕ) (n : Numbered V) (column next : List (List ℕ)) (first : List ℕ) (number : ℕ) → AreMarked marks is_sound k n column first next → has n.active number ≡ false
        → AreMarked marks is_sound k (record { last = n.last; active = without number n.active }) column first next
    without_none k n column next first number h absent =
        subst (λ active. AreMarked marks is_sound k (record { last = n.last; active = active }) column first next) (sym (without-absent number n.active absent)) h
