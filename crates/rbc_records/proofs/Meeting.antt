-- An area meets the extent of each train that one of its segments reaches.
use Rattle.std.proofs.Common.{◌≡◌, ℕ, ◌≤◌, ◌^◌, ◌-◌, min, max, Bool, true, false, ◌||◌, ◌&&◌, eqb, leb, List, [], ◌∷◌, fold, length, suc, if◌then◌else◌, refl, ap, subst, ◌∙◌, arith, lt-ltb, le-leb, leb-true}
use Rattle.std.specs.List.{list_any}
use Rattle.std.proofs.lemmas.Bool.{and_parts}
use Rattle.std.proofs.lemmas.Bool.Decides.{Decides-eqb}
use Rattle.rbc_settle.specs.Way.{Way}
use Rattle.rbc_settle.specs.Way.TheVariants.{Up, Down}
use Rattle.rbc_settle.specs.Placing.{Place}
use Rattle.rbc_settle.specs.Segment.{Segment}
use Rattle.rbc_records.specs.declared.extent.Extent.{Extent}
use Rattle.rbc_records.specs.Extents.{site_on, nowhere, everywhere, ahead_of, with_segment, extent_of_area, meet, is_met, is_one_met}
use Rattle.rbc_records.proofs.Reached.{reaches}

-- a place further along a line has no lesser site
in_order : (line a b : ℕ) → a ≤ b → site_on line a ≤ site_on line b
in_order line a b h = omega (arith, h)

-- a segment lies within an extent
record Covers (extent : Extent) (segment : Segment) : Type 0 where
  least : extent.least ≤ site_on segment.line (min segment.from segment.to)
  most : site_on segment.line (max segment.from segment.to) ≤ extent.most

-- it does when it was added, and stays so with others
added : (extent : Extent) (segment : Segment) → Covers (with_segment extent segment) segment
added extent segment = record { least = omega arith; most = omega arith }

stays : (extent : Extent) (segment other : Segment) → Covers extent segment → Covers (with_segment extent other) segment
stays extent segment other c = record { least = omega (arith, c.least); most = omega (arith, c.most) }

all_stay : (extent : Extent) (segment : Segment) (area : List Segment) → Covers extent segment → Covers (fold with_segment extent area) segment
all_stay extent segment [] c = c
all_stay extent segment (other ∷ area) c = all_stay (with_segment extent other) segment area (stays extent segment other c)

-- so one of an area's segments that passes a test lies within the area's extent
covered : (test : Segment → Bool) (extent : Extent) (area : List Segment) → list_any test area ≡ true → (segment : Segment) × (test segment ≡ true) × Covers (fold with_segment extent area) segment
covered test extent [] h = cc
covered test extent (segment ∷ area) h = by (test segment) refl h (covered test (with_segment extent segment) area)
  where
    by : (b : Bool) → test segment ≡ b → (b || list_any test area) ≡ true
        → (list_any test area ≡ true → (s : Segment) × (test s ≡ true) × Covers (fold with_segment (with_segment extent segment) area) s)
        → (s : Segment) × (test s ≡ true) × Covers (fold with_segment (with_segment extent segment) area) s
    by true is h rest = (segment, is, all_stay (with_segment extent segment) segment area (added extent segment))
    by false is h rest = rest h

-- an extent begins where it did, or before
begins : (extent : Extent) (area : List Segment) → (fold with_segment extent area).least ≤ extent.least
begins extent [] = omega arith
begins extent (segment ∷ area) = let rest = begins (with_segment extent segment) area in omega (arith, rest)

pub both : (a b : Bool) → a ≡ true → b ≡ true → (a && b) ≡ true
both a b a_is b_is = (λ i. a_is i && b_is i)

-- an area with segments lies where they lie
by_its_segments : (first : Segment) (rest : List Segment) → extent_of_area (first ∷ rest) ≡ fold with_segment nowhere (first ∷ rest)
by_its_segments first rest = ap (λ (b : Bool). if b then fold with_segment nowhere (first ∷ rest) else everywhere) (lt-ltb 0 (suc (length rest)) (omega arith))

-- each area meets what is everywhere
pub met_anywhere : (area : List Segment) → meet (extent_of_area area) everywhere.least everywhere.most ≡ true
met_anywhere [] = refl
met_anywhere (first ∷ rest) =
    let least = begins nowhere (first ∷ rest) in
    ap (λ (e : Extent). meet e everywhere.least everywhere.most) (by_its_segments first rest) ∙ both _ _ (le-leb _ _ least) (le-leb _ _ (omega arith))

-- one more segment of an area may be the one
one_of : (test asked : Segment → Bool) → ((segment : Segment) → test segment ≡ true → asked segment ≡ true) → (area : List Segment) → list_any test area ≡ true → list_any asked area ≡ true
one_of test asked each [] h = cc
one_of test asked each (segment ∷ area) h = by (test segment) (asked segment) (each segment) h (one_of test asked each area)
  where
    by : (b c : Bool) → (b ≡ true → c ≡ true) → (b || list_any test area) ≡ true → (list_any test area ≡ true → list_any asked area ≡ true) → (c || list_any asked area) ≡ true
    by b true here h rest = refl
    by true false here h rest = let bad : false ≡ true = here refl in cc
    by false false here h rest = rest h

-- each segment meets what is everywhere
pub one_met_anywhere : (area : List Segment) → is_one_met area everywhere.least everywhere.most ≡ true
one_met_anywhere [] = refl
one_met_anywhere (first ∷ rest) =
    let here : meet (with_segment nowhere first) everywhere.least everywhere.most ≡ true = both _ _ (le-leb (with_segment nowhere first).least everywhere.most (omega arith)) (le-leb everywhere.least (with_segment nowhere first).most (omega arith)) in
    ap (λ (b : Bool). if b then list_any (is_met everywhere.least everywhere.most) (first ∷ rest) else true) (lt-ltb 0 (suc (length rest)) (omega arith))
    ∙ ap (λ (b : Bool). b || list_any (is_met everywhere.least everywhere.most) rest) here

module _ (p : Place) where
  -- the parts of a test that a segment on the line of the train passes
  on_line : (segment : Segment) (b : Bool) → (eqb segment.line p.line && b) ≡ true → (segment.line ≡ p.line) × (b ≡ true)
  on_line segment b h = let parts = and_parts (eqb segment.line p.line) b h in ((Decides-eqb _ _).0 parts.0, parts.1)

  -- an extent that covers a segment which reaches the train meets what lies ahead of the train
  met_by : (way : Way) (extent : Extent) (segment : Segment) → reaches way p segment ≡ true → Covers extent segment → meet extent (ahead_of way p).least (ahead_of way p).most ≡ true
  met_by Up extent segment h covers =
      let on = on_line segment (leb (min p.lo p.hi) (max segment.from segment.to)) h in
      let reached : site_on p.line (min p.lo p.hi) ≤ site_on p.line (max segment.from segment.to) = in_order p.line (min p.lo p.hi) (max segment.from segment.to) (leb-true _ _ on.1) in
      let begin : extent.least ≤ site_on p.line (min segment.from segment.to) = subst (λ (line : ℕ). extent.least ≤ site_on line (min segment.from segment.to)) on.0 covers.least in
      let end : site_on p.line (max segment.from segment.to) ≤ extent.most = subst (λ (line : ℕ). site_on line (max segment.from segment.to) ≤ extent.most) on.0 covers.most in
      let before : extent.least ≤ site_on p.line (2 ^ 32 - 1) = omega (arith, begin) in
      let behind : site_on p.line (min p.lo p.hi) ≤ extent.most = omega (arith, reached, end) in
      both _ _ (le-leb _ _ before) (le-leb _ _ behind)
  met_by Down extent segment h covers =
      let on = on_line segment (leb (min segment.from segment.to) (max p.lo p.hi)) h in
      let reached : site_on p.line (min segment.from segment.to) ≤ site_on p.line (max p.lo p.hi) = in_order p.line (min segment.from segment.to) (max p.lo p.hi) (leb-true _ _ on.1) in
      let begin : extent.least ≤ site_on p.line (min segment.from segment.to) = subst (λ (line : ℕ). extent.least ≤ site_on line (min segment.from segment.to)) on.0 covers.least in
      let end : site_on p.line (max segment.from segment.to) ≤ extent.most = subst (λ (line : ℕ). site_on line (max segment.from segment.to) ≤ extent.most) on.0 covers.most in
      let before : extent.least ≤ site_on p.line (max p.lo p.hi) = omega (arith, reached, begin) in
      let behind : site_on p.line 0 ≤ extent.most = omega (arith, end) in
      both _ _ (le-leb _ _ before) (le-leb _ _ behind)

-- an area meets what lies ahead of a train that one of its segments reaches
pub met_ahead : (way : Way) (p : Place) (area : List Segment) → list_any (reaches way p) area ≡ true
    → meet (extent_of_area area) (ahead_of way p).least (ahead_of way p).most ≡ true
met_ahead way p [] h = cc
met_ahead way p (first ∷ rest) h =
    let one = covered (reaches way p) nowhere (first ∷ rest) h in
    ap (λ (e : Extent). meet e (ahead_of way p).least (ahead_of way p).most) (by_its_segments first rest)
    ∙ met_by p way (fold with_segment nowhere (first ∷ rest)) one.0 one.1 one.2

-- and so does that segment by itself
pub one_met_ahead : (way : Way) (p : Place) (area : List Segment) → list_any (reaches way p) area ≡ true → is_one_met area (ahead_of way p).least (ahead_of way p).most ≡ true
one_met_ahead way p [] h = cc
one_met_ahead way p (first ∷ rest) h =
    let asked = is_met (ahead_of way p).least (ahead_of way p).most in
    ap (λ (b : Bool). if b then list_any asked (first ∷ rest) else true) (lt-ltb 0 (suc (length rest)) (omega arith))
    ∙ one_of (reaches way p) asked (λ segment is. met_by p way (with_segment nowhere segment) segment is (added nowhere segment)) (first ∷ rest) h
