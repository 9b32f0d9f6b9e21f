-- From a value in the chain of a mark the next one is reached.
use Rattle.std.proofs.Common.{◌≡◌, ℕ, suc, ◌+◌, ◌<◌, ◌≤◌, true, false, not, cond, ◌||◌, ◌==◌, List, [], ◌∷◌, map, length, drop, get_or, slice_index, refl, sym, ap, ◌∙◌, subst, arith}
use Rattle.std.specs.List.{position_or_len}
use Rattle.std.proofs.lemmas.List.{drop_all, drop_more, drop-drop, drop-map, get_or-map, length-map}
use Rattle.std.proofs.lemmas.Bool.{false_from_ne_true}
use Rattle.memchr.specs.Find.{Nowhere, is_byte, Passes}
use Rattle.rbc_maps.specs.OnLines.{has_mark, marked}
use Rattle.rbc_maps.specs.Chains.{first_with, entry, AreChained, IsInChain}

-- a mark that stands nowhere is not among them
stands_nowhere : (mark : ℕ) (marks : List ℕ) → ((k : ℕ) → k < length marks → Passes (is_byte mark) marks k → ⊥) → has_mark mark marks ≡ false
stands_nowhere mark [] none = refl
stands_nowhere mark (m ∷ marks) none =
    ap (λ b. b || has_mark mark marks) (false_from_ne_true (m == mark) (none 0 (omega arith))) ∙ stands_nowhere mark marks (λ k within. none (suc k) (omega (arith, within)))

one_more : (k : ℕ) → 1 + k ≡ suc k
one_more k = omega arith

module _ (mark : ℕ) where
  -- behind those that do not carry the mark stands one that does, or the end
  stands_behind : (column : List (List ℕ)) → position_or_len (has_mark mark) (drop (position_or_len (has_mark mark) column) column) ≡ 0
  stands_behind [] = refl
  stands_behind (own ∷ column) =
      (elim (has_mark mark own) as (λ b. has_mark mark own ≡ b → position_or_len (has_mark mark) (drop (cond (not b) (1 + position_or_len (has_mark mark) column) 0) (own ∷ column)) ≡ 0) [
        | true ↦ λ e. ap (λ b. cond (not b) (1 + position_or_len (has_mark mark) column) 0) e
        | false ↦ λ e. ap (λ k. position_or_len (has_mark mark) (drop k (own ∷ column))) (one_more (position_or_len (has_mark mark) column)) ∙ stands_behind column
      ]) refl

  -- where one stands that does, it is the first
  is_first : (own : List ℕ) (column : List (List ℕ)) → position_or_len (has_mark mark) (own ∷ column) ≡ 0 → has_mark mark own ≡ true
  is_first own column =
      elim (has_mark mark own) as (λ b. cond (not b) (1 + position_or_len (has_mark mark) column) 0 ≡ 0 → b ≡ true) [ true ↦ λ e. refl | false ↦ λ e. absurd (omega (arith, e)) ]

module _ {V : Type 0} (marks : V → List ℕ) (mark : ℕ) where
  -- those that do not carry the mark are passed by
  passed_by : (pairs : List (ℕ × V)) → marked marks mark (drop (position_or_len (has_mark mark) (map (λ pair. marks pair.1) pairs)) pairs) ≡ marked marks mark pairs
  passed_by [] = refl
  passed_by (pair ∷ pairs) =
      (elim (has_mark mark (marks pair.1)) as (λ b. has_mark mark (marks pair.1) ≡ b
      → marked marks mark (drop (cond (not b) (1 + position_or_len (has_mark mark) (map (λ pair. marks pair.1) pairs)) 0) (pair ∷ pairs)) ≡ cond b (pair ∷ marked marks mark pairs) (marked marks mark pairs)) [
        | true ↦ λ e. ap (λ b. cond b (pair ∷ marked marks mark pairs) (marked marks mark pairs)) e
        | false ↦ λ e. ap (λ k. marked marks mark (drop k (pair ∷ pairs))) (one_more (position_or_len (has_mark mark) (map (λ pair. marks pair.1) pairs))) ∙ passed_by pairs
      ]) refl

  module _ (n place : ℕ) (pairs : List (ℕ × V)) (column next : List (List ℕ)) (h : IsInChain marks n mark place pairs column next) where
    as_long : length column ≡ length pairs
    as_long = ap length h.kept ∙ length-map pairs (λ (pair : ℕ × V). marks pair.1)

    -- behind the last value there is none
    pub ended : length pairs ≤ place → marked marks mark (drop place pairs) ≡ []
    ended past = ap (marked marks mark) (drop_all place pairs past)

    module _ (within : place < length pairs) where
      pub inside : place < length column
      inside = subst (λ m. place < m) (sym as_long) within

      -- the value at the place carries the mark
      pub carries : has_mark mark (get_or column place []) ≡ true
      carries = is_first mark (get_or column place []) (drop (place + 1) column) (sym (ap (position_or_len (has_mark mark)) (drop_more column place [] inside)) ∙ h.stands)

      its_own : (d : ℕ × V) → get_or column place [] ≡ marks ((get_or pairs place d).1)
      its_own d = ap (λ all. get_or all place []) h.kept ∙ get_or-map (λ (pair : ℕ × V). marks pair.1) pairs place d [] within

      -- so it is the first of those that are left
      pub first : (d : ℕ × V) → marked marks mark (drop place pairs) ≡ get_or pairs place d ∷ marked marks mark (drop (place + 1) pairs)
      first d =
          let pair = get_or pairs place d in
          ap (marked marks mark) (drop_more pairs place d within)
          ∙ ap (λ b. cond b (pair ∷ marked marks mark (drop (place + 1) pairs)) (marked marks mark (drop (place + 1) pairs))) (sym (ap (has_mark mark) (its_own d)) ∙ carries)

      -- it has as many marks as each
      pub of_n : (d : ℕ × V) → ((value : V) → length (marks value) ≡ n) → length (get_or column place []) ≡ n
      of_n d each = ap length (its_own d) ∙ each ((get_or pairs place d).1)

      -- the mark is found among its own
      pub never : Nowhere (Passes (is_byte mark) (get_or column place [])) 0 (length (get_or column place [])) → ⊥
      never none = let bad : true ≡ false = sym carries ∙ stands_nowhere mark (get_or column place []) (λ k below. none k (omega arith) below) in absurd cc

      module _ (slot : ℕ) (below : slot < n) (is : slice_index (get_or column place []) slot ≡ mark) where
        leads_to : entry next place slot ≡ place + 1 + position_or_len (has_mark mark) (drop (place + 1) column)
        leads_to =
            h.links place slot (omega arith) inside below (subst (λ m. m < 64) (sym is) h.line) ∙ ap (first_with (place + 1) (drop (place + 1) column)) is

        -- from there on the next one is the first
        pub goes_on : IsInChain marks n mark (entry next place slot) pairs column next
        goes_on = record {
          line = h.line;
          kept = h.kept;
          stands = ap (λ k. position_or_len (has_mark mark) (drop k column)) leads_to
              ∙ sym (ap (position_or_len (has_mark mark)) (drop-drop (position_or_len (has_mark mark) (drop (place + 1) column)) (place + 1) column))
              ∙ stands_behind mark (drop (place + 1) column);
          long = h.long;
          links = h.links;
        }

        pub rest : marked marks mark (drop (entry next place slot) pairs) ≡ marked marks mark (drop (place + 1) pairs)
        rest =
            let own : drop (place + 1) column ≡ map (λ pair. marks pair.1) (drop (place + 1) pairs) = ap (drop (place + 1)) h.kept ∙ drop-map (λ (pair : ℕ × V). marks pair.1) (place + 1) pairs in
            ap (λ k. marked marks mark (drop k pairs)) leads_to
            ∙ sym (ap (marked marks mark) (drop-drop (position_or_len (has_mark mark) (drop (place + 1) column)) (place + 1) pairs))
            ∙ ap (λ rest. marked marks mark (drop (position_or_len (has_mark mark) rest) (drop (place + 1) pairs))) own
            ∙ passed_by (drop (place + 1) pairs)

-- the first of all that carry a line's mark
pub starts : {V : Type 0} (marks : V → List ℕ) (n mark place : ℕ) (pairs : List (ℕ × V)) (column next : List (List ℕ)) (first : List ℕ) → mark < 64 → column ≡ map (λ pair. marks pair.1) pairs
    → AreChained n column first next → place ≡ slice_index first mark → IsInChain marks n mark place pairs column next × (marked marks mark (drop place pairs) ≡ marked marks mark pairs)
starts {V} marks n mark place pairs column next first line kept chained is =
    let at : place ≡ position_or_len (has_mark mark) column = is ∙ chained.heads mark line ∙ plain (position_or_len (has_mark mark) column) in (
      record {
        line = line;
        kept = kept;
        stands = ap (λ k. position_or_len (has_mark mark) (drop k column)) at ∙ stands_behind mark column;
        long = chained.long;
        links = chained.links;
      },
      ap (λ k. marked marks mark (drop k pairs)) at ∙ ap (λ (column : List (List ℕ)). marked marks mark (drop (position_or_len (has_mark mark) column) pairs)) kept ∙ passed_by marks mark pairs,
    )
  where
    plain : (k : ℕ) → 0 + k ≡ k
    plain k = omega arith
