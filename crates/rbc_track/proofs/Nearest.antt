-- The nearest of the balise groups that stand behind a train.
use Rattle.std.proofs.Common.{◌≡◌, ℕ, ◌+◌, ◌<◌, ◌≤◌, Bool, true, false, cond, eqb, leb, List, [], ◌∷◌, map, fold, Option, Some, None, MatchOption, refl, sym, ap, subst, ◌∙◌, arith, inl, inr, ◌⊎◌}
use Rattle.std.specs.List.{filter, reduce}
use Rattle.std.specs.Map.{lookup}
use Rattle.std.proofs.lemmas.Map.Entries.{lookup_head, lookup_tail}
use Rattle.std.proofs.lemmas.Option.{same_Some}
use Rattle.std.proofs.lemmas.Bool.{and_parts, leb-true, le-leb, eqb-true, eq-eqb, ne_eqb, and_from, leb-false}
use Rattle.rbc_maps.specs.Maps.{rises_from}
use Rattle.rbc_maps.proofs.MapFacts.{rises_from-lower}
use Rattle.rbc_track.specs.declared.group.Group.{Group}
use Rattle.rbc_track.specs.declared.group.Way.{Way}
use Rattle.rbc_track.specs.declared.group.Way.TheVariants.{Up, Down}
use Rattle.rbc_track.specs.Plan.{Plan, IsPlan}
use Rattle.rbc_track.specs.Behind.{LiesBehind, StandsBehind, IsNearestBehind, NoneBehind, is_behind, stands_behind, nearer, nearest_of}
use Rattle.rbc_track.proofs.Rising.{rising}

-- the balise group under a number in a list
abbrev under : ℕ → List (ℕ × Group) → Option Group
under nid groups = lookup (λ number. eqb number nid) groups

abbrev numbers : List (ℕ × Group) → List ℕ
numbers groups = map (λ entry. entry.0) groups

-- the second is not nearer than the first, and has a higher number if they stand at the same place
record IsNoNearer (facing : Way) (found other : ℕ × Group) : Type 0 where
  behind : LiesBehind facing found.1.at other.1.at
  least : other.1.at ≡ found.1.at → found.0 ≤ other.0

itself : (facing : Way) (found : ℕ × Group) → IsNoNearer facing found found
itself Up found = let le : found.1.at ≤ found.1.at = omega arith in record { behind = le; least = λ same. omega arith }
itself Down found = let le : found.1.at ≤ found.1.at = omega arith in record { behind = le; least = λ same. omega arith }

through : (facing : Way) (a b c : ℕ × Group) → IsNoNearer facing a b → IsNoNearer facing b c → IsNoNearer facing a c
through Up a b c first second =
    let ab : b.1.at ≤ a.1.at = first.behind in
    let bc : c.1.at ≤ b.1.at = second.behind in
    let le : c.1.at ≤ a.1.at = omega (arith, ab, bc) in
    record { behind = le; least = λ same. let l = first.least (omega (arith, ab, bc)) in let r = second.least (omega (arith, ab, bc)) in omega (arith, l, r) }
through Down a b c first second =
    let ab : a.1.at ≤ b.1.at = first.behind in
    let bc : b.1.at ≤ c.1.at = second.behind in
    let le : a.1.at ≤ c.1.at = omega (arith, ab, bc) in
    record { behind = le; least = λ same. let l = first.least (omega (arith, ab, bc)) in let r = second.least (omega (arith, ab, bc)) in omega (arith, l, r) }

behind_from_test : (facing : Way) (place at : ℕ) → is_behind facing place at ≡ true → LiesBehind facing place at
behind_from_test Up place at e = leb-true at place e
behind_from_test Down place at e = leb-true place at e

test_from_behind : (facing : Way) (place at : ℕ) → LiesBehind facing place at → is_behind facing place at ≡ true
test_from_behind Up place at h = le-leb at place h
test_from_behind Down place at h = le-leb place at h

-- what the next one of a row makes of the nearest so far
record IsStep (facing : Way) (found next chosen : ℕ × Group) : Type 0 where
  one : (chosen ≡ found) ⊎ (chosen ≡ next)
  low : chosen.0 ≤ next.0
  old : IsNoNearer facing chosen found
  new : IsNoNearer facing chosen next

beyond : (facing : Way) (found next : ℕ × Group) → is_behind facing found.1.at next.1.at ≡ false → IsNoNearer facing next found
beyond Up found next e =
    let lt : found.1.at < next.1.at = leb-false next.1.at found.1.at e in
    let le : found.1.at ≤ next.1.at = omega (arith, lt) in
    record { behind = le; least = λ same. absurd (omega (arith, lt, same)) }
beyond Down found next e =
    let lt : next.1.at < found.1.at = leb-false found.1.at next.1.at e in
    let le : next.1.at ≤ found.1.at = omega (arith, lt) in
    record { behind = le; least = λ same. absurd (omega (arith, lt, same)) }

-- a lower number stands before
next_is : (facing : Way) (found next : ℕ × Group) → found.0 < next.0 → IsStep facing found next (nearer facing found next)
next_is facing found next above =
    (elim (is_behind facing found.1.at next.1.at) as (λ b. is_behind facing found.1.at next.1.at ≡ b → IsStep facing found next (cond b found next)) [
      | true ↦ λ e. record {
        one = inl refl;
        low = omega (arith, above);
        old = itself facing found;
        new = record { behind = behind_from_test facing found.1.at next.1.at e; least = λ same. omega (arith, above) };
      }
      | false ↦ λ e. record { one = inr refl; low = omega arith; old = beyond facing found next e; new = itself facing next }
    ]) refl

-- ---- a row of balise groups in ascending order of the number

-- one that is found is the first one or is found behind it
pub at_or_in : (x : ℕ × Group) (rest : List (ℕ × Group)) (nid : ℕ) (group : Group) → under nid (x ∷ rest) ≡ Some group
    → ((x.0 ≡ nid) × (x.1 ≡ group)) ⊎ (under nid rest ≡ Some group)
at_or_in x rest nid group e =
    (elim (eqb x.0 nid) as (λ b. eqb x.0 nid ≡ b → cond b (Some x.1) (under nid rest) ≡ Some group → ((x.0 ≡ nid) × (x.1 ≡ group)) ⊎ (under nid rest ≡ Some group)) [
      | true ↦ λ is found. inl (eqb-true x.0 nid is, same_Some _ _ found)
      | false ↦ λ is found. inr found
    ]) refl e

-- no number is below the one from which they rise
not_below : (least : ℕ) (rest : List (ℕ × Group)) (nid : ℕ) (group : Group) → rises_from least (numbers rest) ≡ true
    → under nid rest ≡ Some group → least ≤ nid
not_below least [] nid group up e = absurd (cc)
not_below least (x ∷ rest) nid group up e =
    let parts = and_parts (leb least x.0) (rises_from (x.0 + 1) (numbers rest)) up in
    let low : least ≤ x.0 = leb-true least x.0 parts.0 in
    elim (at_or_in x rest nid group e) [
      | inl here ↦ omega (arith, low, here.0)
      | inr there ↦ omega (arith, low, not_below (x.0 + 1) rest nid group parts.1 there)
    ]

-- one that is found behind the first one is found
found_more : (x : ℕ × Group) (rest : List (ℕ × Group)) (nid : ℕ) (group : Group) → rises_from (x.0 + 1) (numbers rest) ≡ true
    → under nid rest ≡ Some group → under nid (x ∷ rest) ≡ Some group
found_more x rest nid group up e =
    let above = not_below (x.0 + 1) rest nid group up e in
    let other : x.0 ≡ nid → ⊥ = λ same. omega (arith, above, same) in
    lookup_tail (λ number. eqb number nid) x rest (ne_eqb x.0 nid other) ∙ e

found_first : (x : ℕ × Group) (rest : List (ℕ × Group)) → under x.0 (x ∷ rest) ≡ Some x.1
found_first x rest = lookup_head (λ number. eqb number x.0) x rest (eq-eqb x.0 x.0 refl)

-- one that is not nearer than the result, wherever it was found
module _ (facing : Way) (test : Group → Bool) where
  abbrev passing : List (ℕ × Group) → List (ℕ × Group)
  passing groups = filter (λ entry. test entry.1) groups

  abbrev AreNoNearer : List (ℕ × Group) → ℕ × Group → Type 0
  AreNoNearer rest r = (nid : ℕ) (group : Group) → under nid rest ≡ Some group → test group ≡ true → IsNoNearer facing r (nid, group)

  -- the nearest of one balise group and of those of a row that pass
  record IsBestFrom (found : ℕ × Group) (rest : List (ℕ × Group)) (r : ℕ × Group) : Type 0 where
    from : (r ≡ found) ⊎ ((under r.0 rest ≡ Some r.1) × (test r.1 ≡ true))
    first : IsNoNearer facing r found
    others : AreNoNearer rest r

  -- the nearest of those of a row that pass
  record IsBestOf (rest : List (ℕ × Group)) (r : ℕ × Group) : Type 0 where
    known : under r.0 rest ≡ Some r.1
    passes : test r.1 ≡ true
    others : AreNoNearer rest r

  none_in : (r : ℕ × Group) → AreNoNearer [] r
  none_in r nid group e passes = absurd (cc)

  one_more : (x : ℕ × Group) (rest : List (ℕ × Group)) (r : ℕ × Group) → (test x.1 ≡ true → IsNoNearer facing r x) → AreNoNearer rest r → AreNoNearer (x ∷ rest) r
  one_more x rest r here there nid group e passes = elim (at_or_in x rest nid group e) [
    | inl at ↦
        let same : x ≡ (nid, group) = λ i. (at.0 i, at.1 i) in
        subst (IsNoNearer facing r) same (here (ap test at.1 ∙ passes))
    | inr in_rest ↦ there nid group in_rest passes
  ]

  taken : (found x : ℕ × Group) (rest : List (ℕ × Group)) (chosen r : ℕ × Group) → rises_from (x.0 + 1) (numbers rest) ≡ true → test x.1 ≡ true
      → IsStep facing found x chosen → IsBestFrom chosen rest r → IsBestFrom found (x ∷ rest) r
  taken found x rest chosen r up passes step best = record {
    from = elim best.from [
      | inl same ↦ elim step.one [
        | inl old ↦ inl (same ∙ old)
        | inr new ↦ inr (subst (λ y. (under y.0 (x ∷ rest) ≡ Some y.1) × (test y.1 ≡ true)) (sym (same ∙ new)) (found_first x rest, passes))
      ]
      | inr there ↦ inr (found_more x rest r.0 r.1 up there.0, there.1)
    ];
    first = through facing r chosen found best.first step.old;
    others = one_more x rest r (λ _. through facing r chosen x best.first step.new) best.others;
  }

  passed_over : (found x : ℕ × Group) (rest : List (ℕ × Group)) (r : ℕ × Group) → rises_from (x.0 + 1) (numbers rest) ≡ true → test x.1 ≡ false
      → IsBestFrom found rest r → IsBestFrom found (x ∷ rest) r
  passed_over found x rest r up fails best = record {
    from = elim best.from [
      | inl same ↦ inl same
      | inr there ↦ inr (found_more x rest r.0 r.1 up there.0, there.1)
    ];
    first = best.first;
    others = one_more x rest r (λ passes. absurd (let clash : true ≡ false = sym passes ∙ fails in cc)) best.others;
  }

  best_from : (found : ℕ × Group) (rest : List (ℕ × Group)) → rises_from (found.0 + 1) (numbers rest) ≡ true
      → IsBestFrom found rest (fold (nearer facing) found (passing rest))
  best_from found [] up = record { from = inl refl; first = itself facing found; others = none_in found }
  best_from found (x ∷ rest) up =
      let parts = and_parts (leb (found.0 + 1) x.0) (rises_from (x.0 + 1) (numbers rest)) up in
      let above : found.0 + 1 ≤ x.0 = leb-true (found.0 + 1) x.0 parts.0 in
      (elim (test x.1) as (λ b. test x.1 ≡ b → IsBestFrom found (x ∷ rest) (fold (nearer facing) found (cond b (x ∷ passing rest) (passing rest)))) [
        | true ↦ λ passes.
            let chosen = nearer facing found x in
            let step = next_is facing found x (omega (arith, above)) in
            let low = step.low in
            let best = best_from chosen rest (rises_from-lower (chosen.0 + 1) (x.0 + 1) (numbers rest) (omega (arith, low)) parts.1) in
            taken found x rest chosen _ parts.1 passes step best
        | false ↦ λ fails. passed_over found x rest _ parts.1 fails (best_from found rest (rises_from-lower (found.0 + 1) (x.0 + 1) (numbers rest) (omega (arith, above)) parts.1))
      ]) refl

  -- none of a row passes
  abbrev NonePass : List (ℕ × Group) → Type 0
  NonePass rest = (nid : ℕ) (group : Group) → under nid rest ≡ Some group → test group ≡ true → ⊥

  -- the first one does not pass
  skipped : (x : ℕ × Group) (rest : List (ℕ × Group)) (best : Option (ℕ × Group)) → rises_from (x.0 + 1) (numbers rest) ≡ true → test x.1 ≡ false
      → MatchOption best (NonePass rest) (IsBestOf rest) → MatchOption best (NonePass (x ∷ rest)) (IsBestOf (x ∷ rest))
  skipped x rest None up fails none = λ nid group e passes. elim (at_or_in x rest nid group e) [
    | inl at ↦ let clash : true ≡ false = sym passes ∙ sym (ap test at.1) ∙ fails in cc
    | inr in_rest ↦ none nid group in_rest passes
  ]
  skipped x rest (Some r) up fails best = record {
    known = found_more x rest r.0 r.1 up best.known;
    passes = best.passes;
    others = one_more x rest r (λ passes. absurd (let clash : true ≡ false = sym passes ∙ fails in cc)) best.others;
  }

  begun : (x : ℕ × Group) (rest : List (ℕ × Group)) (r : ℕ × Group) → rises_from (x.0 + 1) (numbers rest) ≡ true → test x.1 ≡ true
      → IsBestFrom x rest r → IsBestOf (x ∷ rest) r
  begun x rest r up passes best = record {
    known = elim best.from [
      | inl same ↦ subst (λ y. under y.0 (x ∷ rest) ≡ Some y.1) (sym same) (found_first x rest)
      | inr there ↦ found_more x rest r.0 r.1 up there.0
    ];
    passes = elim best.from [ inl same ↦ subst (λ y. test y.1 ≡ true) (sym same) passes | inr there ↦ there.1 ];
    others = one_more x rest r (λ _. best.first) best.others;
  }

  best_of : (least : ℕ) (rest : List (ℕ × Group)) → rises_from least (numbers rest) ≡ true
      → MatchOption (reduce (nearer facing) (passing rest)) (NonePass rest) (IsBestOf rest)
  best_of least [] up = λ nid group e passes. cc
  best_of least (x ∷ rest) up =
      let parts = and_parts (leb least x.0) (rises_from (x.0 + 1) (numbers rest)) up in
      (elim (test x.1) as (λ b. test x.1 ≡ b → MatchOption (reduce (nearer facing) (cond b (x ∷ passing rest) (passing rest))) (NonePass (x ∷ rest)) (IsBestOf (x ∷ rest))) [
        | true ↦ λ passes. begun x rest _ parts.1 passes (best_from x rest parts.1)
        | false ↦ λ fails. skipped x rest _ parts.1 fails (best_of (x.0 + 1) rest parts.1)
      ]) refl

-- ---- of a track

tested : (line place : ℕ) (facing : Way) (group : Group) → StandsBehind line place facing group → stands_behind line place facing group ≡ true
tested line place facing group h =
    and_from (eqb group.line line) (is_behind facing place group.at) (eq-eqb group.line line h.on) (test_from_behind facing place group.at h.behind)

stands : (line place : ℕ) (facing : Way) (group : Group) → stands_behind line place facing group ≡ true → StandsBehind line place facing group
stands line place facing group e =
    let parts = and_parts (eqb group.line line) (is_behind facing place group.at) e in
    record { on = eqb-true group.line line parts.0; behind = behind_from_test facing place group.at parts.1 }

ended : (plan : Plan) (line place : ℕ) (facing : Way) → IsPlan plan → (best : Option (ℕ × Group))
    → MatchOption best (NonePass facing (stands_behind line place facing) plan.groups) (IsBestOf facing (stands_behind line place facing) plan.groups)
    → MatchOption best (NoneBehind plan line place facing) (IsNearestBehind plan line place facing)
ended plan line place facing sound None none = λ nid group known h. none nid group known (tested line place facing group h)
ended plan line place facing sound (Some r) best =
    let here = stands line place facing r.1 best.passes in
    record {
      known = best.known;
      placed = sound.groups r.0 r.1 best.known;
      behind = here;
      nearest = λ nid group known h. (best.others nid group known (tested line place facing group h)).behind;
      least = λ nid group known on same.
          let behind = subst (LiesBehind facing place) (sym same) here.behind in
          (best.others nid group known (tested line place facing group (record { on = on; behind = behind }))).least same;
    }

-- the nearest of the balise groups of a track is the one that the contract asks for
pub nearest_is : (plan : Plan) (line place : ℕ) (facing : Way) → IsPlan plan
    → MatchOption (nearest_of line place facing plan.groups) (NoneBehind plan line place facing) (IsNearestBehind plan line place facing)
nearest_is plan line place facing sound =
    ended plan line place facing sound _ (best_of facing (stands_behind line place facing) 0 plan.groups (rising _ sound.ascending))
