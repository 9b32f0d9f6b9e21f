-- What a merge of two ascending lists has made so far, in front of what is left of each of them.
use Rattle.std.proofs.Common.{◌≡◌, ◌⊎◌, ℕ, suc, ◌+◌, ◌-◌, ◌<◌, ◌≤◌, min, Bool, true, false, ◌||◌, eqb, List, [], ◌∷◌, ◌++◌, length, take, drop, get_or}
use Rattle.std.proofs.Common.{refl, sym, ap, ◌∙◌, subst, arith, append_assoc, drop-cons, length-append, inl, inr}
use Rattle.std.proofs.lemmas.List.{drop_all, take_rest, append-nil}
use Rattle.std.proofs.lemmas.List.Folds.{list_any-append}
use Rattle.std.proofs.lemmas.Bool.{cases_lt}
use Rattle.rbc_ids.specs.Maps.{rises_from}
use Rattle.rbc_settle.specs.Numbers.{has_number}
use Rattle.rbc_settle.proofs.NumberLists.{rising, rises-cons}

-- what is done ascends in front of either rest, and with both rests it has the numbers of both lists
pub record IsMerged (done one other xs ys : List ℕ) : Type 0 where
  pub rises_one : rises_from 0 (done ++ one) ≡ true
  pub rises_other : rises_from 0 (done ++ other) ≡ true
  pub numbers : (n : ℕ) → (has_number done n || (has_number one n || has_number other n)) ≡ (has_number xs n || has_number ys n)
  pub few : length done + (length one + length other) ≤ length xs + length ys

from_one : (d x a b : Bool) → ((d || (x || false)) || (a || b)) ≡ (d || ((x || a) || b))
from_one true x a b = refl
from_one false true a b = refl
from_one false false a b = refl

from_both : (d x a b : Bool) → ((d || (x || false)) || (a || b)) ≡ (d || ((x || a) || (x || b)))
from_both true x a b = refl
from_both false true a b = refl
from_both false false a b = refl

turned_or : (d a b : Bool) → (d || (a || b)) ≡ (d || (b || a))
turned_or true a b = refl
turned_or false true true = refl
turned_or false true false = refl
turned_or false false true = refl
turned_or false false false = refl

-- a number below all of a rest may stand in front of it
rises_between : (least x y : ℕ) (done one other : List ℕ) → x < y → rises_from least (done ++ x ∷ one) ≡ true
    → rises_from least (done ++ y ∷ other) ≡ true → rises_from least (done ++ x ∷ y ∷ other) ≡ true
rises_between least x y [] one other below rises_one rises_other =
    let first = (rising least x one rises_one).0 in
    rises-cons least x (y ∷ other) first (rises-cons (x + 1) y other (omega arith) (rising least y other rises_other).1)
rises_between least x y (d ∷ done) one other below rises_one rises_other =
    let parts = rising least d (done ++ x ∷ one) rises_one in
    let behind = (rising least d (done ++ y ∷ other) rises_other).1 in
    rises-cons least d (done ++ x ∷ y ∷ other) parts.0 (rises_between (d + 1) x y done one other below parts.1 behind)

-- one number more is done
rises_pushed : (x : ℕ) (done rest : List ℕ) → rises_from 0 (done ++ x ∷ rest) ≡ true → rises_from 0 ((done ++ x ∷ []) ++ rest) ≡ true
rises_pushed x done rest rises = subst (λ (zs : List ℕ). rises_from 0 zs ≡ true) (sym (append_assoc done (x ∷ []) rest)) rises

has_pushed : (x n : ℕ) (done : List ℕ) → has_number (done ++ x ∷ []) n ≡ (has_number done n || (eqb x n || false))
has_pushed x n done = list_any-append (λ other. eqb other n) done (x ∷ [])

length_pushed : (x : ℕ) (done : List ℕ) → length (done ++ x ∷ []) ≡ length done + 1
length_pushed x done = length-append done (x ∷ [])

module _ (x y : ℕ) (done one other xs ys : List ℕ) (merged : IsMerged done (x ∷ one) (y ∷ other) xs ys) where
  few_before : length done + (suc (length one) + suc (length other)) ≤ length xs + length ys
  few_before = merged.few

  -- where the first of one list is below that of the other, it is done
  step_one : x < y → IsMerged (done ++ x ∷ []) one (y ∷ other) xs ys
  step_one below = record {
    rises_one = rises_pushed x done one merged.rises_one;
    rises_other = rises_pushed x done (y ∷ other) (rises_between 0 x y done one other below merged.rises_one merged.rises_other);
    numbers = λ n. ap (λ b. b || (has_number one n || has_number (y ∷ other) n)) (has_pushed x n done)
        ∙ from_one (has_number done n) (eqb x n) (has_number one n) (has_number (y ∷ other) n) ∙ merged.numbers n;
    few = omega (arith, few_before, length_pushed x done);
  }

  -- where they are the same, both are
  step_both : x ≡ y → IsMerged (done ++ x ∷ []) one other xs ys
  step_both same = record {
    rises_one = rises_pushed x done one merged.rises_one;
    rises_other = rises_pushed x done other (subst (λ z. rises_from 0 (done ++ z ∷ other) ≡ true) (sym same) merged.rises_other);
    numbers = λ n. ap (λ b. b || (has_number one n || has_number other n)) (has_pushed x n done)
        ∙ from_both (has_number done n) (eqb x n) (has_number one n) (has_number other n)
        ∙ ap (λ z. has_number done n || ((eqb x n || has_number one n) || (eqb z n || has_number other n))) same ∙ merged.numbers n;
    few = omega (arith, few_before, length_pushed x done);
  }

-- the lists may change places
turned : (done one other xs ys : List ℕ) → IsMerged done one other xs ys → IsMerged done other one ys xs
turned done one other xs ys merged = record {
  rises_one = merged.rises_other;
  rises_other = merged.rises_one;
  numbers = λ n. turned_or (has_number done n) (has_number other n) (has_number one n) ∙ merged.numbers n
      ∙ turned_or false (has_number xs n) (has_number ys n);
  few = omega (arith, merged.few);
}

first_least : (x y : ℕ) → x ≤ y → min x y ≡ x
first_least x y le = omega arith

second_least : (x y : ℕ) → y ≤ x → min x y ≡ y
second_least x y le = omega arith

-- the lesser of the first numbers is done, or both where they are the same
step : (x y : ℕ) (done one other xs ys : List ℕ) → IsMerged done (x ∷ one) (y ∷ other) xs ys
    → (rest_one rest_other : List ℕ) → (x ≤ y → rest_one ≡ one) → (y < x → rest_one ≡ x ∷ one)
    → (y ≤ x → rest_other ≡ other) → (x < y → rest_other ≡ y ∷ other) → IsMerged (done ++ min x y ∷ []) rest_one rest_other xs ys
step x y done one other xs ys merged rest_one rest_other one_done one_left other_done other_left = elim (cases_lt x y) [
  | inl below ↦ rw (first_least x y (omega arith), one_done (omega arith), other_left below) (step_one x y done one other xs ys merged below)
  | inr not_below ↦ elim (cases_lt y x) [
    | inl above ↦
        let turned_step = step_one y x done other one ys xs (turned _ _ _ _ _ merged) above in
        rw (second_least x y (omega arith), one_left above, other_done (omega arith)) (turned _ _ _ _ _ turned_step)
    | inr not_above ↦
        rw (first_least x y (omega arith), one_done (omega arith), other_done not_below) (step_both x y done one other xs ys merged (omega arith))
  ]
]

-- the number at an index is the first of what is left
left_at : (xs : List ℕ) (i x : ℕ) → i < length xs → x ≡ get_or xs i x → drop i xs ≡ x ∷ drop (i + 1) xs
left_at xs i x within read =
    let next : suc i ≡ i + 1 = omega arith in
    drop-cons xs i x within ∙ ap (λ y. y ∷ drop (suc i) xs) (sym read) ∙ ap (λ n. x ∷ drop n xs) next

-- a merge of what is behind an index in each list
abbrev pub IsMergedTo : (done : List ℕ) (i j : ℕ) (xs ys : List ℕ) → Type 0
IsMergedTo done i j xs ys = IsMerged done (drop i xs) (drop j ys) xs ys

-- before it begins nothing is done
pub begun : (done xs ys : List ℕ) → done ≡ [] → rises_from 0 xs ≡ true → rises_from 0 ys ≡ true → IsMergedTo done 0 0 xs ys
begun done xs ys empty rises_one rises_other =
    rw empty (record { rises_one = rises_one; rises_other = rises_other; numbers = λ n. refl; few = omega arith })

-- after a step the lesser number is behind what was done, and the index goes on in each list that had it
pub goes_on : (xs ys done after : List ℕ) (i j x y least : ℕ) → i < length xs → j < length ys → x ≡ get_or xs i x → y ≡ get_or ys j y
    → least ≡ min x y → after ≡ done ++ least ∷ [] → IsMergedTo done i j xs ys
    → (i' j' : ℕ) → (x ≤ y → i' ≡ i + 1) → (y < x → i' ≡ i) → (y ≤ x → j' ≡ j + 1) → (x < y → j' ≡ j) → IsMergedTo after i' j' xs ys
goes_on xs ys done after i j x y least i_within j_within x_read y_read least_is pushed merged i' j' i_next i_same j_next j_same =
    let ours = left_at xs i x i_within x_read in
    let theirs = left_at ys j y j_within y_read in
    let first_opened : IsMerged done (x ∷ drop (i + 1) xs) (drop j ys) xs ys =
    subst (λ (zs : List ℕ). IsMerged done zs (drop j ys) xs ys) ours merged
    in
    let opened = subst (λ (zs : List ℕ). IsMerged done (x ∷ drop (i + 1) xs) zs xs ys) theirs first_opened in
    subst (λ (zs : List ℕ). IsMergedTo zs i' j' xs ys) (sym (pushed ∙ ap (λ z. done ++ z ∷ []) least_is))
    (step x y done (drop (i + 1) xs) (drop (j + 1) ys) xs ys opened (drop i' xs) (drop j' ys)
    (λ h. ap (λ k. drop k xs) (i_next h)) (λ h. ap (λ k. drop k xs) (i_same h) ∙ ours)
    (λ h. ap (λ k. drop k ys) (j_next h)) (λ h. ap (λ k. drop k ys) (j_same h) ∙ theirs))

-- an ascending list that has the numbers of both lists, and no more numbers than both
pub record IsWhole (whole xs ys : List ℕ) : Type 0 where
  pub sound : rises_from 0 whole ≡ true
  pub numbers : (n : ℕ) → has_number whole n ≡ (has_number xs n || has_number ys n)
  pub few : length whole ≤ length xs + length ys

-- where one list has ended, what is left of the other is behind what was done
whole_other : (done other xs ys : List ℕ) → IsMerged done [] other xs ys → IsWhole (done ++ other) xs ys
whole_other done other xs ys merged = record {
  sound = merged.rises_other;
  numbers = λ n. list_any-append (λ k. eqb k n) done other ∙ merged.numbers n;
  few = let few = merged.few in omega (arith, few, length-append done other);
}

turned_whole : (whole xs ys : List ℕ) → IsWhole whole ys xs → IsWhole whole xs ys
turned_whole whole xs ys is = record {
  sound = is.sound;
  numbers = λ n. is.numbers n ∙ turned_or false (has_number ys n) (has_number xs n);
  few = let few = is.few in omega (arith, few);
}

pub ended : (i j : ℕ) (xs ys ours theirs done between whole : List ℕ) → ours ≡ xs → theirs ≡ ys
    → between ≡ done ++ take (length ours - i) (drop i ours) → whole ≡ between ++ take (length theirs - j) (drop j theirs)
    → (length xs ≤ i) ⊎ (length ys ≤ j) → IsMergedTo done i j xs ys → IsWhole whole xs ys
ended i j xs ys ours theirs done between whole ours_is theirs_is first then end merged =
    let one : take (length ours - i) (drop i ours) ≡ drop i xs = take_rest ours i ∙ ap (drop i) ours_is in
    let other : take (length theirs - j) (drop j theirs) ≡ drop j ys = take_rest theirs j ∙ ap (drop j) theirs_is in
    let is : whole ≡ (done ++ drop i xs) ++ drop j ys =
    then ∙ ap (λ (zs : List ℕ). between ++ zs) other ∙ ap (λ (zs : List ℕ). zs ++ drop j ys) (first ∙ ap (λ (zs : List ℕ). done ++ zs) one) in
    elim end [
      | inl past ↦
          let none : drop i xs ≡ [] = drop_all i xs past in
          let same : whole ≡ done ++ drop j ys =
          is ∙ ap (λ (zs : List ℕ). (done ++ zs) ++ drop j ys) none ∙ ap (λ (zs : List ℕ). zs ++ drop j ys) (append-nil done) in
          subst (λ (zs : List ℕ). IsWhole zs xs ys) (sym same)
          (whole_other done (drop j ys) xs ys (subst (λ (zs : List ℕ). IsMerged done zs (drop j ys) xs ys) none merged))
      | inr past ↦
          let none : drop j ys ≡ [] = drop_all j ys past in
          let same : whole ≡ done ++ drop i xs = is ∙ ap (λ (zs : List ℕ). (done ++ drop i xs) ++ zs) none ∙ append-nil (done ++ drop i xs) in
          let left : IsMerged done (drop i xs) [] xs ys = subst (λ (zs : List ℕ). IsMerged done (drop i xs) zs xs ys) none merged in
          subst (λ (zs : List ℕ). IsWhole zs xs ys) (sym same)
          (turned_whole (done ++ drop i xs) xs ys (whole_other done (drop i xs) ys xs (turned done (drop i xs) [] xs ys left)))
    ]
