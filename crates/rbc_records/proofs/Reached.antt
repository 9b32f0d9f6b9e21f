-- A stop is nothing to a train that none of its segments reaches.
use Rattle.std.proofs.Common.{◌≡◌, min, max, Bool, true, false, cond, ◌&&◌, ◌||◌, eqb, leb, List, [], ◌∷◌, map, None, refl, ap, ◌∙◌, arith}
use Rattle.std.specs.List.{filter, list_any}
use Rattle.std.proofs.lemmas.Bool.{or_parts}
use Rattle.std.proofs.lemmas.Bool.Decides.{nat_tests}
use Rattle.rbc_settle.specs.Way.{Way}
use Rattle.rbc_settle.specs.Way.TheVariants.{Up, Down}
use Rattle.rbc_settle.specs.Placing.{Place}
use Rattle.rbc_settle.specs.Segment.{Segment}
use Rattle.rbc_settle.specs.Concern.TheVariants as concern
use Rattle.rbc_settle.specs.Concerns.{on_its_line, meets, edge_of, is_ahead, edges_ahead, nearest, concern_by_edge, concern_at}
use Rattle.rbc_records.specs.SoughtTrains.{is_concern}

-- a segment on its line reaches to where a train stands, or lies ahead of it
abbrev pub reaches : Way → Place → Segment → Bool
reaches Up p segment = eqb segment.line p.line && leb (min p.lo p.hi) (max segment.from segment.to)
reaches Down p segment = eqb segment.line p.line && leb (min segment.from segment.to) (max p.lo p.hi)

module _ (p : Place) where
  not_met : (way : Way) (segment : Segment) → eqb segment.line p.line ≡ true → reaches way p segment ≡ false → meets p segment ≡ false
  not_met Up segment same e = grind (arith, nat_tests)
  not_met Down segment same e = grind (arith, nat_tests)

  not_ahead : (way : Way) (segment : Segment) → eqb segment.line p.line ≡ true → reaches way p segment ≡ false → is_ahead way p (edge_of way segment) ≡ false
  not_ahead Up segment same e = grind (arith, nat_tests)
  not_ahead Down segment same e = grind (arith, nat_tests)

  none_met : (way : Way) (segments : List Segment) → list_any (reaches way p) segments ≡ false → list_any (meets p) (on_its_line p segments) ≡ false
  none_met way [] e = refl
  none_met way (segment ∷ segments) e =
      let parts = or_parts (reaches way p segment) (list_any (reaches way p) segments) e in by (eqb segment.line p.line) refl parts.0 (none_met way segments parts.1)
    where
      by : (b : Bool) → eqb segment.line p.line ≡ b → reaches way p segment ≡ false → list_any (meets p) (on_its_line p segments) ≡ false
          → list_any (meets p) (cond b (segment ∷ on_its_line p segments) (on_its_line p segments)) ≡ false
      by true same none rest = (λ i. not_met way segment same none i || rest i)
      by false same none rest = rest

  none_ahead : (way : Way) (segments : List Segment) → list_any (reaches way p) segments ≡ false → filter (is_ahead way p) (map (edge_of way) (on_its_line p segments)) ≡ []
  none_ahead way [] e = refl
  none_ahead way (segment ∷ segments) e =
      let parts = or_parts (reaches way p segment) (list_any (reaches way p) segments) e in by (eqb segment.line p.line) refl parts.0 (none_ahead way segments parts.1)
    where
      by : (b : Bool) → eqb segment.line p.line ≡ b → reaches way p segment ≡ false → filter (is_ahead way p) (map (edge_of way) (on_its_line p segments)) ≡ []
          → filter (is_ahead way p) (map (edge_of way) (cond b (segment ∷ on_its_line p segments) (on_its_line p segments))) ≡ []
      by true same none rest =
          let edge = edge_of way segment in
          let edges = filter (is_ahead way p) (map (edge_of way) (on_its_line p segments)) in
          ap (λ b. cond b (edge ∷ edges) edges) (not_ahead way segment same none) ∙ rest
      by false same none rest = rest

  nowhere : (way : Way) → nearest way [] ≡ None
  nowhere Up = refl
  nowhere Down = refl

  -- so the stop is nothing to the train
  pub unreached : (segments : List Segment) → list_any (reaches p.facing p) segments ≡ false → is_concern (concern_at segments false p) ≡ false
  unreached segments e =
      ap (λ b. is_concern (cond b concern.Now (concern_by_edge p (nearest p.facing (edges_ahead p segments))))) (none_met p.facing segments e)
      ∙ ap (λ edges. is_concern (concern_by_edge p (nearest p.facing edges))) (none_ahead p.facing segments e)
      ∙ ap (λ edge. is_concern (concern_by_edge p edge)) (nowhere p.facing)
