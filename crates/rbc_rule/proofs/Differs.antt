-- What settling a train keeps and what it changes, and that a change makes another value.
use Rattle.std.proofs.Common.{◌≡◌, ℕ, suc, ◌+◌, ◌<◌, true, false, not, cond, ◌&&◌, eqb, ltb, List, [], ◌∷◌, length, Option, Some, None, refl, sym, ap, ◌∙◌, arith}
use Rattle.std.specs.List.{fold}
use Rattle.std.proofs.lemmas.Bool.{both_ways, eq-eqb}
use Rattle.std.proofs.lemmas.Map.Views.{any-filter_same}
use Rattle.rbc_track.specs.Plan.{Plan}
use Rattle.rbc_maps.specs.Maps.{has, without}
use Rattle.rbc_maps.specs.Numbered.{Numbered}
use Rattle.rbc_settle.specs.declared.train.TrainRec.{TrainRec}
use Rattle.rbc_settle.specs.Actions.{Action}
use Rattle.rbc_settle.specs.Numbers.{has_number, with_number, without_number}
use Rattle.rbc_settle.specs.Settling.{Stops, Limits, carried_out, actions_with_stamp, settled}
use Rattle.rbc_settle.proofs.Carried.{stamp_after}
use Rattle.rbc_settle.proofs.OneLine.{none_active}
use Rattle.rbc_rule.specs.Effect.{forget, with_less}
use Rattle.rbc_rule.specs.Records.{engines_record}
use Rattle.rbc_rule.specs.Lists.{engines_in}
use Rattle.rbc_rule.specs.Gathered.{is_forced_by, is_same, settled_train}
use Rattle.rbc_rule.specs.Touching.{HasBegun}
use Rattle.rbc_rule.proofs.AllTrains.{forgotten_same}
use Rattle.rbc_rule.proofs.Engines.{engines_in_record}

-- ---- what settling does

module _ (plan : Plan) (stops : Stops) (limits : Limits) where
  -- its stamp rises by one for each action
  pub settled_stamp : (train : TrainRec) → (settled plan stops limits train).stamp ≡ train.stamp + length (actions_with_stamp plan stops limits train)
  settled_stamp train = stamp_after train (actions_with_stamp plan stops limits train)

-- ---- lists of numbers

-- a list with one more number is longer
length_with : (n : ℕ) (ns : List ℕ) → length (with_number n ns) ≡ suc (length ns)
length_with n [] = refl
length_with n (first ∷ rest) =
    elim (ltb n first) as (λ b. length (cond b (n ∷ first ∷ rest) (first ∷ with_number n rest)) ≡ suc (suc (length rest))) [
      | true ↦ refl
      | false ↦ ap suc (length_with n rest)
    ]

-- no number is the one after it
not_longer : (n : ℕ) → suc n ≡ n → ⊥
not_longer n e = absurd (omega (arith, e))

-- a list without a number has it not
none_without : (n : ℕ) (ns : List ℕ) → has_number (without_number n ns) n ≡ false
none_without n ns = any-filter_same (λ other. eqb other n) (λ other. not (eqb other n)) false (λ other is. ap not is) ns

-- a list with one more number is another one
pub with_differs : (n : ℕ) (ns : List ℕ) → with_number n ns ≡ ns → ⊥
with_differs n ns same = not_longer (length ns) (sym (length_with n ns) ∙ ap length same)

-- so is one without a number that it has
pub without_differs : (n : ℕ) (ns : List ℕ) → has_number ns n ≡ true → without_number n ns ≡ ns → ⊥
without_differs n ns there same = both_ways (has_number ns n) (sym (ap (λ (ms : List ℕ). has_number ms n) same) ∙ none_without n ns) there

-- one record of engines is that of one list
same_engines : (ns ms : List ℕ) → engines_record ns ≡ engines_record ms → ns ≡ ms
same_engines ns ms same = sym (engines_in_record ns) ∙ ap engines_in same ∙ engines_in_record ms

-- so the record of a list with one more number is another one
pub record_with_differs : (n : ℕ) (ns : List ℕ) → engines_record (with_number n ns) ≡ engines_record ns → ⊥
record_with_differs n ns same = with_differs n ns (same_engines (with_number n ns) ns same)

-- and that of a list without a number that it has
pub record_without_differs : (n : ℕ) (ns : List ℕ) → has_number ns n ≡ true → engines_record (without_number n ns) ≡ engines_record ns → ⊥
record_without_differs n ns there same = without_differs n ns there (same_engines (without_number n ns) ns same)

-- ---- what begins and what ends

module _ {V : Type 0} (number : ℕ) where
  -- a value that begins makes another table: the last number rises
  pub begun_differs : (value : V) (old new : Numbered V) → HasBegun number value old new → new ≡ old → ⊥
  begun_differs value old new begun same =
      let last : old.last ≡ number = ap (λ (n : Numbered V). n.last) (sym same ∙ begun.next) in
      let above : old.last < number = begun.above in
      absurd (omega (arith, last, above))

  -- a map without a number has it not
  has_not : (pairs : List (ℕ × V)) → has (without number pairs) number ≡ false
  has_not pairs = any-filter_same (λ pair. eqb pair.0 number) (λ pair. not (eqb pair.0 number)) false (λ pair is. ap not is) pairs

  -- so does one that ends: the number is no longer active
  pub ended_differs : (old new : Numbered V) → has old.active number ≡ true → new ≡ with_less number old → new ≡ old → ⊥
  ended_differs old new there ended same =
      let less : without number old.active ≡ old.active = ap (λ (n : Numbered V). n.active) (sym ended ∙ same) in
      both_ways (has old.active number) (sym (ap (λ (pairs : List (ℕ × V)). has pairs number) less) ∙ has_not old.active) there

-- ---- a train that changes

-- no action where the stamp stays
none_where_still : (stamp count : ℕ) → stamp + count ≡ stamp → eqb count 0 ≡ true
none_where_still stamp count still = eq-eqb count 0 (omega (arith, still))

module _ (plan : Plan) (stops : Stops) (limits : Limits) where
  -- how many actions a train takes
  abbrev count_of : TrainRec → ℕ
  count_of train = length (actions_with_stamp plan stops limits train)

  -- a train that stopped at once for the released stop no longer does
  forced_differs : (released : Option ℕ) (train : TrainRec) → is_forced_by released train ≡ true
      → settled_train plan stops limits released train ≡ train → ⊥
  forced_differs None train there same = both_ways false refl there
  forced_differs (Some number) train there same =
      let before = forget number train in
      let acts = actions_with_stamp plan stops limits before in
      let still : train.stamp + length acts ≡ train.stamp = sym (settled_stamp plan stops limits before) ∙ ap (λ (other : TrainRec). other.stamp) same in
      let none : acts ≡ [] = none_active acts (omega (arith, still)) in
      without_differs number train.forced there
      (sym (ap (λ (some : List Action). (fold carried_out before some).forced) none) ∙ ap (λ (other : TrainRec). other.forced) same)

  -- a train for which there is an action has a higher stamp then
  acted_differs : (train : TrainRec) → eqb (count_of train) 0 ≡ false → settled plan stops limits train ≡ train → ⊥
  acted_differs train some same =
      let still = sym (settled_stamp plan stops limits train) ∙ ap (λ (other : TrainRec). other.stamp) same in
      both_ways (eqb (count_of train) 0) some (none_where_still train.stamp (count_of train) still)

  -- a train whose record does not stay is another one
  pub settled_differs : (released : Option ℕ) (train : TrainRec) → is_same plan stops limits released train ≡ false
      → settled_train plan stops limits released train ≡ train → ⊥
  settled_differs released train changes same =
      (elim (is_forced_by released train) as (λ b. is_forced_by released train ≡ b → (not b && eqb (count_of train) 0) ≡ false → ⊥) [
        | true ↦ λ forced e. forced_differs released train forced same
        | false ↦ λ unforced e. acted_differs train e (sym (ap (settled plan stops limits) (forgotten_same released train unforced)) ∙ same)
      ]) refl changes
