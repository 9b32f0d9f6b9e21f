-- Restrictions changed by messages of many changes each: as if one change were made after the other, with the stamps of a clock.
use Rattle.std.proofs.Common.{◌≡◌, ℕ, ◌+◌, ◌-◌, ◌/◌, ◌≤◌, List, [], ◌∷◌, ◌++◌, length, map, take, drop, refl, sym, ap, ◌∙◌, subst, arith}
use Rattle.std.specs.List.{fold}
use Rattle.std.proofs.lemmas.List.{length-take, length-drop, take-append-drop}
use Rattle.rbc_ids.specs.declared.slot.Kind.TheVariants.{Restriction}
use Rattle.rbc_ids.specs.Table.{Slots}
use Rattle.rbc_settle.specs.declared.change.LimitChange.{LimitChange}
use Rattle.rbc_settle.specs.declared.change.LimitChange.TheVariants.{Revoke, Tell}
use Rattle.rbc_settle.specs.declared.train.TrainRec.{TrainRec}
use Rattle.rbc_settle.specs.Told.{Part}
use Rattle.rbc_settle.specs.Actions.{ChangesLimits, groups}
use Rattle.rbc_settle.specs.Settling.{limit_changed, carried_out, tell_limit}
use Rattle.rbc_settle.specs.Following.{CanChange, CanChangeAll, CanFollow}
use Rattle.rbc_settle.proofs.Groups.{groups_cons, by_groups}
use Rattle.rbc_settle.proofs.Revoking.{Clock, revoked_all}
use Rattle.rbc_settle.proofs.AfterTelling.{told_all}

-- a message for each hundred changes, the first with the stamp after this one
abbrev pub by_hundreds : ℕ → Clock
by_hundreds stamp at = stamp + 1 + at / 100

-- one change after the other
abbrev pub changed_all : Clock → ℕ → List LimitChange → Slots → Slots
changed_all clock at [] slots = slots
changed_all clock at (change ∷ changes) slots = changed_all clock (at + 1) changes (limit_changed (clock at) slots change)

-- each may be made when its turn comes
abbrev pub CanChangeBy : Clock → ℕ → Slots → List LimitChange → Type 0
CanChangeBy clock at slots [] = Unit
CanChangeBy clock at slots (change ∷ changes) = CanChange slots change × CanChangeBy clock (at + 1) (limit_changed (clock at) slots change) changes

-- revocations, and then what is told
pub changed-revoked : (clock : Clock) (at : ℕ) (ids : List ℕ) (slots : Slots) → changed_all clock at (map Revoke ids) slots ≡ revoked_all clock at ids slots
changed-revoked clock at [] slots = refl
changed-revoked clock at (id ∷ ids) slots = changed-revoked clock (at + 1) ids (limit_changed (clock at) slots (Revoke id))

pub changed-told : (clock : Clock) (at : ℕ) (pairs : List ((ℕ × Part) × ℕ)) (slots : Slots) → changed_all clock at (map tell_limit pairs) slots ≡ told_all clock (λ told. Restriction) at pairs slots
changed-told clock at [] slots = refl
changed-told clock at (((number, told), id) ∷ pairs) slots = changed-told clock (at + 1) pairs (limit_changed (clock at) slots (Tell id number told))

pub changed-append : (clock : Clock) (at : ℕ) (some more : List LimitChange) (slots : Slots)
    → changed_all clock at (some ++ more) slots ≡ changed_all clock (at + length some) more (changed_all clock at some slots)
changed-append clock at [] more slots = ap (λ n. changed_all clock n more slots) (omega arith)
changed-append clock at (change ∷ some) more slots =
    let further : at + 1 + length some ≡ at + length (change ∷ some) = omega arith in
    changed-append clock (at + 1) some more (limit_changed (clock at) slots change)
    ∙ ap (λ n. changed_all clock n more (changed_all clock at (change ∷ some) slots)) further

pub can-append : (clock : Clock) (at next : ℕ) (some more : List LimitChange) (slots : Slots) → next ≡ at + length some
    → CanChangeBy clock at slots some → CanChangeBy clock next (changed_all clock at some slots) more → CanChangeBy clock at slots (some ++ more)
can-append clock at next [] more slots is can then = subst (λ n. CanChangeBy clock n slots more) (let same : next ≡ at = omega (arith, is) in same) then
can-append clock at next (change ∷ some) more slots is can then =
    (can.0, can-append clock (at + 1) next some more (limit_changed (clock at) slots change) (omega (arith, is)) can.1 then)

-- the first of changes that may be made one after the other, and those behind them
can-first : (clock : Clock) (at : ℕ) (some more : List LimitChange) (slots : Slots) → CanChangeBy clock at slots (some ++ more) → CanChangeBy clock at slots some
can-first clock at [] more slots can = tt
can-first clock at (change ∷ some) more slots can = (can.0, can-first clock (at + 1) some more (limit_changed (clock at) slots change) can.1)

can-behind : (clock : Clock) (at next : ℕ) (some more : List LimitChange) (slots : Slots) → next ≡ at + length some
    → CanChangeBy clock at slots (some ++ more) → CanChangeBy clock next (changed_all clock at some slots) more
can-behind clock at next [] more slots is can = subst (λ n. CanChangeBy clock n slots more) (let same : at ≡ next = omega (arith, is) in same) can
can-behind clock at next (change ∷ some) more slots is can = can-behind clock (at + 1) next some more (limit_changed (clock at) slots change) (omega (arith, is)) can.1

module _ (stamp : ℕ) where
  -- up to a hundred changes have one stamp
  of_one_stamp : (at : ℕ) (changes : List LimitChange) (slots : Slots) → at + length changes ≤ 100 → changed_all (by_hundreds stamp) at changes slots ≡ fold (limit_changed (stamp + 1)) slots changes
  of_one_stamp at [] slots few = refl
  of_one_stamp at (change ∷ changes) slots few =
      let first : by_hundreds stamp at ≡ stamp + 1 = omega (arith, few) in
      of_one_stamp (at + 1) changes (limit_changed (by_hundreds stamp at) slots change) (omega (arith, few))
      ∙ ap (λ s. fold (limit_changed (stamp + 1)) (limit_changed s slots change) changes) first

  can_of_one_stamp : (at : ℕ) (changes : List LimitChange) (slots : Slots) → at + length changes ≤ 100 → CanChangeBy (by_hundreds stamp) at slots changes → CanChangeAll (stamp + 1) slots changes
  can_of_one_stamp at [] slots few can = tt
  can_of_one_stamp at (change ∷ changes) slots few can =
      let first : by_hundreds stamp at ≡ stamp + 1 = omega (arith, few) in (
        can.0,
        subst (λ s. CanChangeAll (stamp + 1) (limit_changed s slots change) changes) first
            (can_of_one_stamp (at + 1) changes (limit_changed (by_hundreds stamp at) slots change) (omega (arith, few)) can.1),
      )

  -- a hundred changes on, the clock is one stamp on
  of_next_stamp : (at : ℕ) (changes : List LimitChange) (slots : Slots) → changed_all (by_hundreds stamp) (100 + at) changes slots ≡ changed_all (by_hundreds (stamp + 1)) at changes slots
  of_next_stamp at [] slots = refl
  of_next_stamp at (change ∷ changes) slots =
      let same : by_hundreds stamp (100 + at) ≡ by_hundreds (stamp + 1) at = omega arith in
      let further : 100 + at + 1 ≡ 100 + (at + 1) = omega arith in
      ap (λ n. changed_all (by_hundreds stamp) n changes (limit_changed (by_hundreds stamp (100 + at)) slots change)) further
      ∙ of_next_stamp (at + 1) changes (limit_changed (by_hundreds stamp (100 + at)) slots change)
      ∙ ap (λ s. changed_all (by_hundreds (stamp + 1)) (at + 1) changes (limit_changed s slots change)) same

  can_of_next_stamp : (at : ℕ) (changes : List LimitChange) (slots : Slots) → CanChangeBy (by_hundreds stamp) (100 + at) slots changes → CanChangeBy (by_hundreds (stamp + 1)) at slots changes
  can_of_next_stamp at [] slots can = tt
  can_of_next_stamp at (change ∷ changes) slots can =
      let same : by_hundreds stamp (100 + at) ≡ by_hundreds (stamp + 1) at = omega arith in
      let further : 100 + at + 1 ≡ 100 + (at + 1) = omega arith in (
        can.0,
        subst (λ s. CanChangeBy (by_hundreds (stamp + 1)) (at + 1) (limit_changed s slots change) changes) same
            (can_of_next_stamp (at + 1) changes (limit_changed (by_hundreds stamp (100 + at)) slots change)
            (subst (λ n. CanChangeBy (by_hundreds stamp) n (limit_changed (by_hundreds stamp (100 + at)) slots change) changes) further can.1)),
      )

-- behind the first hundred there is nothing, or a hundred changes were before it
behind_hundred : (stamp : ℕ) (changes : List LimitChange) (slots : Slots)
    → changed_all (by_hundreds stamp) (length (take 100 changes)) (drop 100 changes) slots ≡ changed_all (by_hundreds (stamp + 1)) 0 (drop 100 changes) slots
behind_hundred stamp changes slots = whole (drop 100 changes) refl
  where
    whole : (rest : List LimitChange) → drop 100 changes ≡ rest → changed_all (by_hundreds stamp) (length (take 100 changes)) rest slots ≡ changed_all (by_hundreds (stamp + 1)) 0 rest slots
    whole [] is = refl
    whole (change ∷ rest) is =
        let left : length (drop 100 changes) ≡ length (change ∷ rest) = ap length is in
        let counted : length (drop 100 changes) ≡ length changes - 100 = length-drop 100 changes in
        let taken = length-take 100 changes in
        let full : length (take 100 changes) ≡ 100 + 0 = omega (arith, left, counted, taken) in
        ap (λ n. changed_all (by_hundreds stamp) n (change ∷ rest) slots) full ∙ of_next_stamp stamp 0 (change ∷ rest) slots

can_behind_hundred : (stamp : ℕ) (changes : List LimitChange) (slots : Slots) → CanChangeBy (by_hundreds stamp) (length (take 100 changes)) slots (drop 100 changes)
    → CanChangeBy (by_hundreds (stamp + 1)) 0 slots (drop 100 changes)
can_behind_hundred stamp changes slots = whole (drop 100 changes) refl
  where
    whole : (rest : List LimitChange) → drop 100 changes ≡ rest → CanChangeBy (by_hundreds stamp) (length (take 100 changes)) slots rest → CanChangeBy (by_hundreds (stamp + 1)) 0 slots rest
    whole [] is can = tt
    whole (change ∷ rest) is can =
        let left : length (drop 100 changes) ≡ length (change ∷ rest) = ap length is in
        let counted : length (drop 100 changes) ≡ length changes - 100 = length-drop 100 changes in
        let taken = length-take 100 changes in
        let full : length (take 100 changes) ≡ 100 + 0 = omega (arith, left, counted, taken) in
        can_of_next_stamp stamp 0 (change ∷ rest) slots (subst (λ n. CanChangeBy (by_hundreds stamp) n slots (change ∷ rest)) full can)

-- at most a hundred are in a group
few_in_group : (changes : List LimitChange) → 0 + length (take 100 changes) ≤ 100
few_in_group changes = let taken = length-take 100 changes in omega (arith, taken)

-- the restrictions after all groups, and that these may be made
abbrev HasChanged : List LimitChange → Type 0
HasChanged changes = (train : TrainRec) → (fold carried_out train (map ChangesLimits (groups changes))).limits ≡ changed_all (by_hundreds train.stamp) 0 changes train.limits

pub changed_by_groups : (changes : List LimitChange) → HasChanged changes
changed_by_groups changes = by_groups HasChanged (λ train. refl) step changes
  where
    step : (change : LimitChange) (changes : List LimitChange) → HasChanged (drop 100 (change ∷ changes)) → HasChanged (change ∷ changes)
    step change changes rest train =
        let all : List LimitChange = change ∷ changes in
        let first = take 100 all in
        let behind = drop 100 all in
        let after = carried_out train (ChangesLimits first) in
        let none_before : length first ≡ 0 + length first = omega arith in
        ap (λ (gs : List (List LimitChange)). (fold carried_out train (map ChangesLimits gs)).limits) (groups_cons change changes)
        ∙ rest after
        ∙ sym (behind_hundred train.stamp all after.limits)
        ∙ ap (changed_all (by_hundreds train.stamp) (length first) behind) (sym (of_one_stamp train.stamp 0 first train.limits (few_in_group all)))
        ∙ ap (λ n. changed_all (by_hundreds train.stamp) n behind (changed_all (by_hundreds train.stamp) 0 first train.limits)) none_before
        ∙ sym (changed-append (by_hundreds train.stamp) 0 first behind train.limits)
        ∙ ap (λ (cs : List LimitChange). changed_all (by_hundreds train.stamp) 0 cs train.limits) (take-append-drop 100 all)

abbrev CanFollowAll : List LimitChange → Type 0
CanFollowAll changes = (train : TrainRec) → CanChangeBy (by_hundreds train.stamp) 0 train.limits changes → CanFollow train (map ChangesLimits (groups changes))

pub can_by_groups : (changes : List LimitChange) → CanFollowAll changes
can_by_groups changes = by_groups CanFollowAll (λ train can. tt) step changes
  where
    step : (change : LimitChange) (changes : List LimitChange) → CanFollowAll (drop 100 (change ∷ changes)) → CanFollowAll (change ∷ changes)
    step change changes rest train can =
        let all : List LimitChange = change ∷ changes in
        let first = take 100 all in
        let behind = drop 100 all in
        let after = carried_out train (ChangesLimits first) in
        let parted : CanChangeBy (by_hundreds train.stamp) 0 train.limits (first ++ behind) =
        subst (λ (cs : List LimitChange). CanChangeBy (by_hundreds train.stamp) 0 train.limits cs) (sym (take-append-drop 100 all)) can in
        let now = can_of_one_stamp train.stamp 0 first train.limits (few_in_group all) (can-first (by_hundreds train.stamp) 0 first behind train.limits parted) in
        let later = can-behind (by_hundreds train.stamp) 0 (length first) first behind train.limits (omega arith) parted in
        let then : CanChangeBy (by_hundreds (train.stamp + 1)) 0 after.limits behind =
        can_behind_hundred train.stamp all after.limits
        (subst (λ (slots : Slots). CanChangeBy (by_hundreds train.stamp) (length first) slots behind) (of_one_stamp train.stamp 0 first train.limits (few_in_group all)) later) in
        subst (λ (gs : List (List LimitChange)). CanFollow train (map ChangesLimits gs)) (sym (groups_cons change changes)) (now, rest after then)
