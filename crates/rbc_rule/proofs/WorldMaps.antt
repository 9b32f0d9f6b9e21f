-- What a map through its values, with one value more and with one less has.
use Rattle.std.proofs.Common.{◌≡◌, ℕ, suc, ◌+◌, Bool, true, false, not, cond, ◌||◌, eqb, ltb, leb, List, [], ◌∷◌, map, length, Some, None, option_map, refl, sym, ap, ◌∙◌, arith}
use Rattle.std.proofs.lemmas.Bool.{or_parts, eqb-true, and_parts, ltb-true}
use Rattle.std.proofs.lemmas.Bool.Decides.{nat_tests}
use Rattle.rbc_maps.specs.Maps.{has, value_of, with_value, without, keys, rises_from}
use Rattle.rbc_maps.proofs.MapPlaces.{absent_below}
use Rattle.rbc_settle.specs.Numbers.{has_number, with_number, without_number}

-- two tests that do not both pass can be made in any order
swapped : {A : Type 0} (b c : Bool) (x y z : A) → (b ≡ true → c ≡ true → ⊥) → cond c y (cond b x z) ≡ cond b x (cond c y z)
swapped true true x y z h = absurd (h refl refl)
swapped true false x y z h = refl
swapped false c x y z h = refl

-- a test that passes where another does hides it
hidden : {A : Type 0} (b c : Bool) (x y z : A) → b ≡ c → cond b x z ≡ cond c x (cond b y z)
hidden true true x y z e = refl
hidden false false x y z e = refl
hidden true false x y z e = absurd (let bad : true ≡ false = e in cc)
hidden false true x y z e = absurd (let bad : false ≡ true = e in cc)

either_way : {A : Type 0} (b : Bool) (x : A) → x ≡ cond b x x
either_way true x = refl
either_way false x = refl

module _ {V : Type 0} where
  -- ---- one value more

  pub keys-new : (key : ℕ) (value : V) (pairs : List (ℕ × V)) → has pairs key ≡ false → keys (with_value key value pairs) ≡ with_number key (keys pairs)
  keys-new key value [] absent = refl
  keys-new key value (pair ∷ pairs) absent =
      let parts = or_parts (eqb pair.0 key) (has pairs key) absent in
      by (ltb key pair.0) (eqb pair.0 key) parts.0 (keys-new key value pairs parts.1)
    where
      by : (b c : Bool) → c ≡ false → keys (with_value key value pairs) ≡ with_number key (keys pairs)
          → keys (cond b ((key, value) ∷ pair ∷ pairs) (cond c ((key, value) ∷ pairs) (pair ∷ with_value key value pairs))) ≡ cond b (key ∷ pair.0 ∷ keys pairs) (pair.0 ∷ with_number key (keys pairs))
      by true c e rest = refl
      by false true e rest = absurd (let bad : true ≡ false = e in cc)
      by false false e rest = ap (λ ks. pair.0 ∷ ks) rest

  pub keys-old : (key least : ℕ) (value : V) (pairs : List (ℕ × V)) → rises_from least (keys pairs) ≡ true → has pairs key ≡ true → keys (with_value key value pairs) ≡ keys pairs
  keys-old key least value [] rises there = absurd (let bad : false ≡ true = there in cc)
  keys-old key least value (pair ∷ pairs) rises there =
      let parts = and_parts (leb least pair.0) (rises_from (pair.0 + 1) (keys pairs)) rises in
      by (ltb key pair.0) (eqb pair.0 key) refl refl there (λ later. keys-old key (pair.0 + 1) value pairs parts.1 later)
      (λ below. absent_below key (pair.0 + 1) pairs (let lt = ltb-true key pair.0 below in omega (arith, lt)) parts.1)
    where
      not_both : ltb key pair.0 ≡ true → eqb pair.0 key ≡ true → ⊥
      not_both p q = grind (arith, nat_tests)

      by : (b c : Bool) → ltb key pair.0 ≡ b → eqb pair.0 key ≡ c → (c || has pairs key) ≡ true → (has pairs key ≡ true → keys (with_value key value pairs) ≡ keys pairs) → (ltb key pair.0 ≡ true → has pairs key ≡ false)
          → keys (cond b ((key, value) ∷ pair ∷ pairs) (cond c ((key, value) ∷ pairs) (pair ∷ with_value key value pairs))) ≡ pair.0 ∷ keys pairs
      by true true p q there rest below = absurd (not_both p q)
      by true false p q there rest below = absurd (let bad : false ≡ true = sym (below p) ∙ there in cc)
      by false true p q there rest below = let same = eqb-true pair.0 key q in ap (λ k. k ∷ keys pairs) (sym same)
      by false false p q there rest below = ap (λ ks. pair.0 ∷ ks) (rest there)

  pub value_of-with_value : (key : ℕ) (value : V) (pairs : List (ℕ × V)) (k : ℕ) → value_of (with_value key value pairs) k ≡ cond (eqb key k) (Some value) (value_of pairs k)
  value_of-with_value key value [] k = refl
  value_of-with_value key value (pair ∷ pairs) k = by (ltb key pair.0) (eqb pair.0 key) refl (value_of-with_value key value pairs k)
    where
      same : eqb pair.0 key ≡ true → eqb pair.0 k ≡ eqb key k
      same q = ap (λ n. eqb n k) (eqb-true pair.0 key q)

      other : eqb pair.0 key ≡ false → eqb key k ≡ true → eqb pair.0 k ≡ true → ⊥
      other q x y = grind (arith, nat_tests)

      by : (b c : Bool) → eqb pair.0 key ≡ c → value_of (with_value key value pairs) k ≡ cond (eqb key k) (Some value) (value_of pairs k)
          → value_of (cond b ((key, value) ∷ pair ∷ pairs) (cond c ((key, value) ∷ pairs) (pair ∷ with_value key value pairs))) k ≡ cond (eqb key k) (Some value) (cond (eqb pair.0 k) (Some pair.1) (value_of pairs k))
      by true c q rest = refl
      by false true q rest = hidden (eqb key k) (eqb key k) (Some value) (Some pair.1) (value_of pairs k) refl ∙ ap (λ b. cond (eqb key k) (Some value) (cond b (Some pair.1) (value_of pairs k))) (sym (same q))
      by false false q rest = ap (λ o. cond (eqb pair.0 k) (Some pair.1) o) rest ∙ swapped (eqb key k) (eqb pair.0 k) (Some value) (Some pair.1) (value_of pairs k) (other q)

  -- ---- one value less

  pub keys-without : (key : ℕ) (pairs : List (ℕ × V)) → keys (without key pairs) ≡ without_number key (keys pairs)
  keys-without key [] = refl
  keys-without key (pair ∷ pairs) = by (eqb pair.0 key) (keys-without key pairs)
    where
      by : (b : Bool) → keys (without key pairs) ≡ without_number key (keys pairs)
          → keys (cond (not b) (pair ∷ without key pairs) (without key pairs)) ≡ cond (not b) (pair.0 ∷ without_number key (keys pairs)) (without_number key (keys pairs))
      by true rest = rest
      by false rest = ap (λ ks. pair.0 ∷ ks) rest

  pub value_of-without : (key : ℕ) (pairs : List (ℕ × V)) (k : ℕ) → value_of (without key pairs) k ≡ cond (eqb key k) None (value_of pairs k)
  value_of-without key [] k = either_way (eqb key k) None
  value_of-without key (pair ∷ pairs) k = by (eqb pair.0 key) refl (value_of-without key pairs k)
    where
      same : eqb pair.0 key ≡ true → eqb pair.0 k ≡ eqb key k
      same q = ap (λ n. eqb n k) (eqb-true pair.0 key q)

      other : eqb pair.0 key ≡ false → eqb key k ≡ true → eqb pair.0 k ≡ true → ⊥
      other q x y = grind (arith, nat_tests)

      by : (c : Bool) → eqb pair.0 key ≡ c → value_of (without key pairs) k ≡ cond (eqb key k) None (value_of pairs k)
          → value_of (cond (not c) (pair ∷ without key pairs) (without key pairs)) k ≡ cond (eqb key k) None (cond (eqb pair.0 k) (Some pair.1) (value_of pairs k))
      by true q rest = rest ∙ hidden (eqb key k) (eqb key k) None (Some pair.1) (value_of pairs k) refl ∙ ap (λ b. cond (eqb key k) None (cond b (Some pair.1) (value_of pairs k))) (sym (same q))
      by false q rest = ap (λ o. cond (eqb pair.0 k) (Some pair.1) o) rest ∙ swapped (eqb key k) (eqb pair.0 k) None (Some pair.1) (value_of pairs k) (other q)

  -- ---- the keys

  pub has_keys : (pairs : List (ℕ × V)) (key : ℕ) → has_number (keys pairs) key ≡ has pairs key
  has_keys [] key = refl
  has_keys (pair ∷ pairs) key = ap (λ b. eqb pair.0 key || b) (has_keys pairs key)

  pub length_keys : (pairs : List (ℕ × V)) → length (keys pairs) ≡ length pairs
  length_keys [] = refl
  length_keys (pair ∷ pairs) = ap suc (length_keys pairs)

  -- a key that has a value is there
  pub has_value : (pairs : List (ℕ × V)) (key : ℕ) (value : V) → value_of pairs key ≡ Some value → has pairs key ≡ true
  has_value [] key value e = absurd (let bad : None ≡ Some value = e in cc)
  has_value (pair ∷ pairs) key value e = by (eqb pair.0 key) e (has_value pairs key value)
    where
      by : (b : Bool) → cond b (Some pair.1) (value_of pairs key) ≡ Some value → (value_of pairs key ≡ Some value → has pairs key ≡ true) → (b || has pairs key) ≡ true
      by true e rest = refl
      by false e rest = rest e

-- ---- a map through its values

module _ {V X : Type 0} (f : V → X) where
  pub keys-map : (pairs : List (ℕ × V)) → keys (map (λ (pair : ℕ × V). (pair.0, f pair.1)) pairs) ≡ keys pairs
  keys-map [] = refl
  keys-map (pair ∷ pairs) = ap (λ ks. pair.0 ∷ ks) (keys-map pairs)

  pub value_of-map : (pairs : List (ℕ × V)) (key : ℕ) → value_of (map (λ (pair : ℕ × V). (pair.0, f pair.1)) pairs) key ≡ option_map f (value_of pairs key)
  value_of-map [] key = refl
  value_of-map (pair ∷ pairs) key = by (eqb pair.0 key) (value_of-map pairs key)
    where
      by : (b : Bool) → value_of (map (λ (pair : ℕ × V). (pair.0, f pair.1)) pairs) key ≡ option_map f (value_of pairs key)
          → cond b (Some (f pair.1)) (value_of (map (λ (pair : ℕ × V). (pair.0, f pair.1)) pairs) key) ≡ option_map f (cond b (Some pair.1) (value_of pairs key))
      by true rest = refl
      by false rest = rest

  pub map-with_value : (key : ℕ) (value : V) (pairs : List (ℕ × V))
      → map (λ (pair : ℕ × V). (pair.0, f pair.1)) (with_value key value pairs) ≡ with_value key (f value) (map (λ (pair : ℕ × V). (pair.0, f pair.1)) pairs)
  map-with_value key value [] = refl
  map-with_value key value (pair ∷ pairs) = by (ltb key pair.0) (eqb pair.0 key) (map-with_value key value pairs)
    where
      by : (b c : Bool) → map (λ (pair : ℕ × V). (pair.0, f pair.1)) (with_value key value pairs) ≡ with_value key (f value) (map (λ (pair : ℕ × V). (pair.0, f pair.1)) pairs)
          → map (λ (pair : ℕ × V). (pair.0, f pair.1)) (cond b ((key, value) ∷ pair ∷ pairs) (cond c ((key, value) ∷ pairs) (pair ∷ with_value key value pairs)))
          ≡ cond b ((key, f value) ∷ (pair.0, f pair.1) ∷ map (λ (pair : ℕ × V). (pair.0, f pair.1)) pairs) (cond c ((key, f value) ∷ map (λ (pair : ℕ × V). (pair.0, f pair.1)) pairs) ((pair.0, f pair.1) ∷ with_value key (f value) (map (λ (pair : ℕ × V). (pair.0, f pair.1)) pairs)))
      by true c rest = refl
      by false true rest = refl
      by false false rest = ap (λ (xs : List (ℕ × X)). (pair.0, f pair.1) ∷ xs) rest
