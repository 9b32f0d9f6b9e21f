-- The nearest edge ahead is one of the edges ahead, and each other one lies at or beyond it.
use Rattle.std.proofs.Common.{◌⊎◌, ◌≡◌, ℕ, ◌≤◌, min, max, Bool, true, false, ◌==◌, ◌||◌, if◌then◌else◌, List, [], ◌∷◌, Option, Some, None, inl, inr, refl, ap, subst, arith}
use Rattle.std.specs.List.{fold, list_any, All}
use Rattle.std.proofs.lemmas.Bool.{eqb-true, eq-eqb, cases_lt}
use Rattle.std.proofs.lemmas.List.Elements.{All-nil, All-cons, All-head, All-tail, All-weaker, All-map, All-filter}
use Rattle.rbc_place.specs.Way.{Way}
use Rattle.rbc_place.specs.Way.TheVariants.{Up, Down}
use Rattle.rbc_place.specs.Placing.{Place}
use Rattle.rbc_zones.specs.declared.segment.Segment.{Segment}
use Rattle.rbc_zones.specs.declared.stop_meaning.Concern.TheVariants as concern
use Rattle.rbc_zones.specs.Segments.{IsSegment}
use Rattle.rbc_zones.specs.Concerns.{on_its_line, edge_of, is_ahead, edges_ahead, nearest, is_behind_group, concern_by_edge, IsAtOrBeyond}

this_or_rest : (P : ℕ → Type 0) (n m : ℕ) (same rest : Bool) → (m == n) ≡ same → P m → (rest ≡ true → P n) → (same || rest) ≡ true → P n
this_or_rest P n m true rest e this more one = subst P (eqb-true m n e) this
this_or_rest P n m false rest e this more one = more one

-- what holds of each number in a list holds of any one of them
pub of_one : (P : ℕ → Type 0) (n : ℕ) (ns : List ℕ) → All P ns → list_any (λ other. other == n) ns ≡ true → P n
of_one P n [] all one = cc
of_one P n (m ∷ ns) all one = this_or_rest P n m (m == n) (list_any (λ other. other == n) ns) refl (All-head P m ns all) (λ more. of_one P n ns (All-tail P m ns all) more) one

one_more : (a b rest : Bool) → (b || rest) ≡ true → (a || (b || rest)) ≡ true
one_more true b rest h = refl
one_more false b rest h = h

one_before : (a b rest : Bool) → (a || rest) ≡ true → (a || (b || rest)) ≡ true
one_before true b rest h = refl
one_before false true rest h = refl
one_before false false rest h = h

-- a number is in a list if it is in the list in which the first two numbers are taken together
either : (n first second taken : ℕ) (rest : Bool) → (taken ≡ first) ⊎ (taken ≡ second) → (taken == n || rest) ≡ true → (first == n || (second == n || rest)) ≡ true
either n first second taken rest (inl e) one = one_before (first == n) (second == n) rest (subst (λ (k : ℕ). (k == n || rest) ≡ true) e one)
either n first second taken rest (inr e) one = one_more (first == n) (second == n) rest (subst (λ (k : ℕ). (k == n || rest) ≡ true) e one)

itself : (n : ℕ) → (n == n || false) ≡ true
itself n = ap (λ b. b || false) (eq-eqb n n refl)

min_is_one : (a b : ℕ) → (min a b ≡ a) ⊎ (min a b ≡ b)
min_is_one a b = elim (cases_lt a b) [ inl h ↦ inl (omega arith) | inr h ↦ inr (omega arith) ]

max_is_one : (a b : ℕ) → (max a b ≡ a) ⊎ (max a b ≡ b)
max_is_one a b = elim (cases_lt a b) [ inl h ↦ inr (omega arith) | inr h ↦ inl (omega arith) ]

-- the least of a number and further ones, and the greatest
record IsLeast (first : ℕ) (ns : List ℕ) (n : ℕ) : Type 0 where
  one : list_any (λ other. other == n) (first ∷ ns) ≡ true
  below : n ≤ first
  below_all : All (λ other. n ≤ other) ns

record IsGreatest (first : ℕ) (ns : List ℕ) (n : ℕ) : Type 0 where
  one : list_any (λ other. other == n) (first ∷ ns) ≡ true
  above : first ≤ n
  above_all : All (λ other. other ≤ n) ns

fold_is_least : (first : ℕ) (ns : List ℕ) → IsLeast first ns (fold min first ns)
fold_is_least first [] = record { one = itself first; below = omega arith; below_all = All-nil (λ other. first ≤ other) }
fold_is_least first (second ∷ ns) =
    let n = fold min (min first second) ns in
    let least : IsLeast (min first second) ns n = fold_is_least (min first second) ns in
    let below : n ≤ min first second = least.below in
    record {
      one = either n first second (min first second) (list_any (λ other. other == n) ns) (min_is_one first second) least.one;
      below = omega arith;
      below_all = All-cons (λ other. n ≤ other) second ns (omega arith) least.below_all;
    }

fold_is_greatest : (first : ℕ) (ns : List ℕ) → IsGreatest first ns (fold max first ns)
fold_is_greatest first [] = record { one = itself first; above = omega arith; above_all = All-nil (λ other. other ≤ first) }
fold_is_greatest first (second ∷ ns) =
    let n = fold max (max first second) ns in
    let greatest : IsGreatest (max first second) ns n = fold_is_greatest (max first second) ns in
    let above : max first second ≤ n = greatest.above in
    record {
      one = either n first second (max first second) (list_any (λ other. other == n) ns) (max_is_one first second) greatest.one;
      above = omega arith;
      above_all = All-cons (λ other. other ≤ n) second ns (omega arith) greatest.above_all;
    }

-- what `nearest` finds
pub record IsNearest (way : Way) (edges : List ℕ) (edge : ℕ) : Type 0 where
  pub one : list_any (λ other. other == edge) edges ≡ true
  pub nearest : All (λ other. IsAtOrBeyond way other edge) edges

the_same : (a b : ℕ) → Some a ≡ Some b → a ≡ b
the_same a b e = cc

pub is_nearest : (way : Way) (edges : List ℕ) (edge : ℕ) → nearest way edges ≡ Some edge → IsNearest way edges edge
is_nearest Up [] edge e = cc
is_nearest Down [] edge e = cc
is_nearest Up (first ∷ ns) edge e =
    let n = fold min first ns in
    let least = fold_is_least first ns in
    let is : IsNearest Up (first ∷ ns) n = record { one = least.one; nearest = All-cons (λ other. n ≤ other) first ns least.below least.below_all } in
    subst (IsNearest Up (first ∷ ns)) (the_same n edge e) is
is_nearest Down (first ∷ ns) edge e =
    let n = fold max first ns in
    let greatest = fold_is_greatest first ns in
    let is : IsNearest Down (first ∷ ns) n = record { one = greatest.one; nearest = All-cons (λ other. other ≤ n) first ns greatest.above greatest.above_all } in
    subst (IsNearest Down (first ∷ ns)) (the_same n edge e) is

-- a stop before which a train has to stop has a nearest edge, which is not behind the balise group
pub record HasEdge (p : Place) (found : Option ℕ) (edge : ℕ) : Type 0 where
  pub found_is : found ≡ Some edge
  pub not_behind : is_behind_group p.facing p.at edge ≡ false

before_edge : (behind : Bool) (other edge : ℕ) → (if behind then concern.Now else concern.Before other) ≡ concern.Before edge → (other ≡ edge) × (behind ≡ false)
before_edge true other edge e = cc
before_edge false other edge e = (cc, refl)

by_edge : (p : Place) (found : Option ℕ) (edge : ℕ) → concern_by_edge p found ≡ concern.Before edge → HasEdge p found edge
by_edge p None edge e = cc
by_edge p (Some other) edge e =
    let both = before_edge (is_behind_group p.facing p.at other) other edge e in
    record { found_is = ap Some both.0; not_behind = subst (λ edge. is_behind_group p.facing p.at edge ≡ false) both.0 both.1 }

pub has_edge : (now : Bool) (p : Place) (found : Option ℕ) (edge : ℕ) → (if now then concern.Now else concern_by_edge p found) ≡ concern.Before edge → HasEdge p found edge
has_edge true p found edge e = cc
has_edge false p found edge e = by_edge p found edge e

-- an edge of a segment is a place that a line can have
edge_within : (way : Way) (segment : Segment) → IsSegment segment → edge_of way segment ≤ 3000000
edge_within Up segment h = let ordered = h.ordered in let within = h.within in omega arith
edge_within Down segment h = h.within

pub edges_within : (p : Place) (area : List Segment) → All IsSegment area → All (λ edge. edge ≤ 3000000) (edges_ahead p area)
edges_within p area h =
    let P : ℕ → Type 0 = λ edge. edge ≤ 3000000 in
    let Q : Segment → Type 0 = λ segment. edge_of p.facing segment ≤ 3000000 in
    let on_line = All-filter (λ segment. segment.line == p.line) Q area (All-weaker IsSegment Q (edge_within p.facing) area h) in
    All-filter (is_ahead p.facing p) P _ (All-map P (edge_of p.facing) (on_its_line p area) on_line)
