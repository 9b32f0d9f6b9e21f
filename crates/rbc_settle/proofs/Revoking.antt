-- A table after some of its identifiers are revoked, one after another.
use Rattle.std.proofs.Common.{◌≡◌, ℕ, ◌+◌, ◌<◌, ◌≤◌, Bool, true, false, not, cond, ◌||◌, ◌&&◌, eqb, leb, List, [], ◌∷◌, refl, sym, ap, ◌∙◌, subst, arith, inl, inr}
use Rattle.std.specs.List.{filter, list_any, range_with_len, All, AllByRecursion}
use Rattle.std.proofs.lemmas.Bool.{cases_lt, both_ways, or_from, or_left, or_right, or_cases, or_parts, and_left, and_from, and_parts, leb-true, lt-ltb, le-ltb, eq-eqb, ne_eqb}
use Rattle.std.proofs.lemmas.List.Elements.{filter_agree}
use Rattle.rbc_maps.specs.Maps.{has, with_value, keys, rises_from}
use Rattle.rbc_maps.proofs.MapFacts.{rises_from-lower}
use Rattle.rbc_ids.specs.declared.slot.Slot.{Slot}
use Rattle.rbc_ids.specs.declared.slot.Slot.TheVariants.{Used, Revoking}
use Rattle.rbc_ids.specs.Table.{Slots, IsTable, TellsOnce, tells, is_told, is_used, is_used_at, free_identifiers}
use Rattle.rbc_settle.specs.Settling.{is_used_by, to_revoke}

-- the stamp of a change, by how many changes were made before it
abbrev pub Clock : Type 0
Clock = ℕ → ℕ

-- a message for each change: each takes the next stamp
abbrev pub by_one : Clock
by_one stamp = stamp + 1

-- the table after that
abbrev pub revoked_all : Clock → ℕ → List ℕ → Slots → Slots
revoked_all clock at [] slots = slots
revoked_all clock at (id ∷ ids) slots = revoked_all clock (at + 1) ids (with_value id (Revoking (clock at)) slots)

-- each slot that such a number uses is being revoked, and the others stay
abbrev pub revoked_each : Clock → (ℕ → Bool) → ℕ → Slots → Slots
revoked_each clock gone at [] = []
revoked_each clock gone at (held ∷ slots) =
    cond (is_used_by gone held.1) ((held.0, Revoking (clock at)) ∷ revoked_each clock gone (at + 1) slots) (held ∷ revoked_each clock gone at slots)

module _ {V : Type 0} where
  -- a key goes behind those below it
  pub with_value-past : (key : ℕ) (value : V) (pair : ℕ × V) (pairs : List (ℕ × V)) → pair.0 < key → with_value key value (pair ∷ pairs) ≡ pair ∷ with_value key value pairs
  with_value-past key value pair pairs above = rw (le-ltb key pair.0 (omega (arith, above)), ne_eqb pair.0 key (λ same. absurd (omega (arith, above, same)))) refl

  -- a value takes the place of the one that the key had
  pub with_value-here : (key : ℕ) (value : V) (pair : ℕ × V) (pairs : List (ℕ × V)) → pair.0 ≡ key → with_value key value (pair ∷ pairs) ≡ (key, value) ∷ pairs
  with_value-here key value pair pairs same = rw (le-ltb key pair.0 (omega (arith, same)), eq-eqb pair.0 key same) refl

  -- a key goes before those above it
  pub with_value-before : (key : ℕ) (value : V) (pair : ℕ × V) (pairs : List (ℕ × V)) → key < pair.0 → with_value key value (pair ∷ pairs) ≡ (key, value) ∷ pair ∷ pairs
  with_value-before key value pair pairs below = rw (lt-ltb key pair.0 below) refl

  -- whether a key is there hangs on the keys alone
  pub has-keys : (pairs : List (ℕ × V)) (q : ℕ) → has pairs q ≡ list_any (λ k. eqb k q) (keys pairs)
  has-keys [] q = refl
  has-keys (pair ∷ pairs) q = ap (λ (b : Bool). eqb pair.0 q || b) (has-keys pairs q)

-- a slot below all that is revoked stays
revoked_past : (clock : Clock) (at : ℕ) (ids : List ℕ) (held : ℕ × Slot) (slots : Slots) → rises_from (held.0 + 1) ids ≡ true → revoked_all clock at ids (held ∷ slots) ≡ held ∷ revoked_all clock at ids slots
revoked_past clock at [] held slots rises = refl
revoked_past clock at (id ∷ ids) held slots rises =
    let parts = and_parts (leb (held.0 + 1) id) (rises_from (id + 1) ids) rises in
    let above : held.0 + 1 ≤ id = leb-true (held.0 + 1) id parts.0 in
    ap (revoked_all clock (at + 1) ids) (with_value-past id (Revoking (clock at)) held slots (omega (arith, above)))
    ∙ revoked_past clock (at + 1) ids held (with_value id (Revoking (clock at)) slots) (rises_from-lower (held.0 + 1) (id + 1) ids (omega (arith, above)) parts.1)

module _ (gone : ℕ → Bool) where
  -- what is to be revoked ascends
  pub to_revoke-rises : (least : ℕ) (slots : Slots) → rises_from least (keys slots) ≡ true → rises_from least (to_revoke gone slots) ≡ true
  to_revoke-rises least [] rises = refl
  to_revoke-rises least (held ∷ slots) rises =
      let parts = and_parts (leb least held.0) (rises_from (held.0 + 1) (keys slots)) rises in
      let above : least ≤ held.0 = leb-true least held.0 parts.0 in
      let rest = to_revoke-rises (held.0 + 1) slots parts.1 in
      elim (is_used_by gone held.1) as (λ b. rises_from least (keys (cond b (held ∷ filter (λ other. is_used_by gone other.1) slots) (filter (λ other. is_used_by gone other.1) slots))) ≡ true) [
        | true ↦ and_from (leb least held.0) (rises_from (held.0 + 1) (to_revoke gone slots)) parts.0 rest
        | false ↦ rises_from-lower least (held.0 + 1) (to_revoke gone slots) (omega (arith, above)) rest
      ]

  module _ (clock : Clock) where
    -- one after another they are each revoked
    pub revoked_is : (at least : ℕ) (slots : Slots) → rises_from least (keys slots) ≡ true → revoked_all clock at (to_revoke gone slots) slots ≡ revoked_each clock gone at slots
    revoked_is at least [] rises = refl
    revoked_is at least (held ∷ slots) rises =
        let parts = and_parts (leb least held.0) (rises_from (held.0 + 1) (keys slots)) rises in
        let rest = to_revoke-rises (held.0 + 1) slots parts.1 in
        elim (is_used_by gone held.1) as (λ b. revoked_all clock at (keys (cond b (held ∷ filter (λ other. is_used_by gone other.1) slots) (filter (λ other. is_used_by gone other.1) slots))) (held ∷ slots) ≡ cond b ((held.0, Revoking (clock at)) ∷ revoked_each clock gone (at + 1) slots) (held ∷ revoked_each clock gone at slots)) [
          | true ↦
              ap (revoked_all clock (at + 1) (to_revoke gone slots)) (with_value-here held.0 (Revoking (clock at)) held slots refl)
              ∙ revoked_past clock (at + 1) (to_revoke gone slots) (held.0, Revoking (clock at)) slots rest
              ∙ ap (λ (xs : Slots). (held.0, Revoking (clock at)) ∷ xs) (revoked_is (at + 1) (held.0 + 1) slots parts.1)
          | false ↦ revoked_past clock at (to_revoke gone slots) held slots rest ∙ ap (λ (xs : Slots). held ∷ xs) (revoked_is at (held.0 + 1) slots parts.1)
        ]

    -- the same identifiers are held
    pub keys-revoked : (at : ℕ) (slots : Slots) → keys (revoked_each clock gone at slots) ≡ keys slots
    keys-revoked at [] = refl
    keys-revoked at (held ∷ slots) = elim (is_used_by gone held.1) as (λ b. keys (cond b ((held.0, Revoking (clock at)) ∷ revoked_each clock gone (at + 1) slots) (held ∷ revoked_each clock gone at slots)) ≡ held.0 ∷ keys slots) [
      | true ↦ ap (λ (ks : List ℕ). held.0 ∷ ks) (keys-revoked (at + 1) slots)
      | false ↦ ap (λ (ks : List ℕ). held.0 ∷ ks) (keys-revoked at slots)
    ]

    -- so each one is held or not, as before
    has-revoked : (at : ℕ) (slots : Slots) (q : ℕ) → has (revoked_each clock gone at slots) q ≡ has slots q
    has-revoked at slots q =
        has-keys (revoked_each clock gone at slots) q ∙ ap (list_any (λ k. eqb k q)) (keys-revoked at slots) ∙ sym (has-keys slots q)

    -- and the same are free
    pub free-revoked : (count at : ℕ) (slots : Slots) → free_identifiers count (revoked_each clock gone at slots) ≡ free_identifiers count slots
    free-revoked count at slots = filter_agree (λ q. not (has (revoked_each clock gone at slots) q)) (λ q. not (has slots q)) (λ q. ap not (has-revoked at slots q)) (range_with_len 0 count)

    -- a number that was not told is told by none of them
    pub untold-revoked : (n at : ℕ) (slots : Slots) → is_told slots n ≡ false → is_told (revoked_each clock gone at slots) n ≡ false
    untold-revoked n at [] untold = refl
    untold-revoked n at (held ∷ slots) untold =
        let parts = or_parts (tells n held.1) (is_told slots n) untold in
        elim (is_used_by gone held.1) as (λ b. is_told (cond b ((held.0, Revoking (clock at)) ∷ revoked_each clock gone (at + 1) slots) (held ∷ revoked_each clock gone at slots)) n ≡ false) [
          | true ↦ untold-revoked n (at + 1) slots parts.1
          | false ↦ or_from (tells n held.1) (is_told (revoked_each clock gone at slots) n) parts.0 (untold-revoked n at slots parts.1)
        ]

    -- and each is told once
    once-revoked : (at : ℕ) (slots : Slots) → TellsOnce slots → TellsOnce (revoked_each clock gone at slots)
    once-revoked at [] once = tt
    once-revoked at (held ∷ slots) once = elim (is_used_by gone held.1) as (λ b. TellsOnce (cond b ((held.0, Revoking (clock at)) ∷ revoked_each clock gone (at + 1) slots) (held ∷ revoked_each clock gone at slots))) [
      | true ↦ ((λ n told. absurd (let bad : false ≡ true = told in cc)), once-revoked (at + 1) slots once.1)
      | false ↦ ((λ n told. untold-revoked n at slots (once.0 n told)), once-revoked at slots once.1)
    ]

    -- so it stays a table
    pub table-revoked : (count at : ℕ) (slots : Slots) → IsTable count slots → IsTable count (revoked_each clock gone at slots)
    table-revoked count at slots table = record {
      small = table.small;
      ascending = subst (λ (ks : List ℕ). rises_from 0 ks ≡ true) (sym (keys-revoked at slots)) table.ascending;
      below = subst (λ (ks : List ℕ). All (λ id. id < count) ks) (sym (keys-revoked at slots)) table.below;
      once = once-revoked at slots table.once;
    }

    -- no slot is used by a gone number
    pub none-revoked : (at : ℕ) (slots : Slots) → list_any (λ held. is_used_by gone held.1) (revoked_each clock gone at slots) ≡ false
    none-revoked at [] = refl
    none-revoked at (held ∷ slots) =
        (elim (is_used_by gone held.1) as (λ b. is_used_by gone held.1 ≡ b → list_any (λ other. is_used_by gone other.1) (cond b ((held.0, Revoking (clock at)) ∷ revoked_each clock gone (at + 1) slots) (held ∷ revoked_each clock gone at slots)) ≡ false) [
          | true ↦ λ is. none-revoked (at + 1) slots
          | false ↦ λ is. or_from (is_used_by gone held.1) (list_any (λ other. is_used_by gone other.1) (revoked_each clock gone at slots)) is (none-revoked at slots)
        ]) refl

    -- the slot of a gone number tells no other one
    tells_gone : (n : ℕ) (slot : Slot) → is_used_by gone slot ≡ true → gone n ≡ false → tells n slot ≡ false
    tells_gone n (Used slot) used stays = ne_eqb slot.number n (λ same. both_ways (gone n) stays (subst (λ k. gone k ≡ true) same used))
    tells_gone n (Revoking stamp) used stays = refl

    -- the slot of a number that is not gone tells no gone one
    tells_other : (n : ℕ) (slot : Slot) → is_used_by gone slot ≡ false → gone n ≡ true → tells n slot ≡ false
    tells_other n (Used slot) stays goes = ne_eqb slot.number n (λ same. both_ways (gone n) (subst (λ k. gone k ≡ false) same stays) goes)
    tells_other n (Revoking stamp) stays goes = refl

    -- a number that is not gone is told as before
    pub told-revoked : (n at : ℕ) (slots : Slots) → gone n ≡ false → is_told (revoked_each clock gone at slots) n ≡ is_told slots n
    told-revoked n at [] stays = refl
    told-revoked n at (held ∷ slots) stays =
        (elim (is_used_by gone held.1) as (λ b. is_used_by gone held.1 ≡ b → is_told (cond b ((held.0, Revoking (clock at)) ∷ revoked_each clock gone (at + 1) slots) (held ∷ revoked_each clock gone at slots)) n ≡ (tells n held.1 || is_told slots n)) [
          | true ↦ λ is. told-revoked n (at + 1) slots stays ∙ sym (ap (λ (b : Bool). b || is_told slots n) (tells_gone n held.1 is stays))
          | false ↦ λ is. ap (λ (b : Bool). tells n held.1 || b) (told-revoked n at slots stays)
        ]) refl

    -- a number that is gone is told no more
    pub untold-gone : (n at : ℕ) (slots : Slots) → gone n ≡ true → is_told (revoked_each clock gone at slots) n ≡ false
    untold-gone n at [] goes = refl
    untold-gone n at (held ∷ slots) goes =
        (elim (is_used_by gone held.1) as (λ b. is_used_by gone held.1 ≡ b → is_told (cond b ((held.0, Revoking (clock at)) ∷ revoked_each clock gone (at + 1) slots) (held ∷ revoked_each clock gone at slots)) n ≡ false) [
          | true ↦ λ is. untold-gone n (at + 1) slots goes
          | false ↦ λ is. or_from (tells n held.1) (is_told (revoked_each clock gone at slots) n) (tells_other n held.1 is goes) (untold-gone n at slots goes)
        ]) refl

    pub untold_each : {T : Type 0} (at : ℕ) (slots : Slots) (wanted : List (ℕ × T)) → AllByRecursion (λ w. is_told slots w.0 ≡ false) wanted → AllByRecursion (λ w. is_told (revoked_each clock gone at slots) w.0 ≡ false) wanted
    untold_each at slots [] all = tt
    untold_each at slots (w ∷ wanted) all = (untold-revoked w.0 at slots all.0, untold_each at slots wanted all.1)

  -- a slot that a number uses is used
  used_by : (slot : Slot) → is_used_by gone slot ≡ true → is_used slot ≡ true
  used_by (Used slot) used = refl
  used_by (Revoking stamp) used = used

  -- what is used stays so beside one more slot
  also_used : (held : ℕ × Slot) (slots : Slots) (ids : List ℕ) → AllByRecursion (λ id. is_used_at slots id ≡ true) ids → AllByRecursion (λ id. is_used_at (held ∷ slots) id ≡ true) ids
  also_used held slots [] all = tt
  also_used held slots (id ∷ ids) all = (or_right (eqb held.0 id && is_used held.1) (is_used_at slots id) all.0, also_used held slots ids all.1)

  -- what is to be revoked is used
  pub to_revoke-used : (slots : Slots) → AllByRecursion (λ id. is_used_at slots id ≡ true) (to_revoke gone slots)
  to_revoke-used [] = tt
  to_revoke-used (held ∷ slots) =
      (elim (is_used_by gone held.1) as (λ b. is_used_by gone held.1 ≡ b → AllByRecursion (λ id. is_used_at (held ∷ slots) id ≡ true) (keys (cond b (held ∷ filter (λ other. is_used_by gone other.1) slots) (filter (λ other. is_used_by gone other.1) slots)))) [
        | true ↦ λ is. (
          or_left (eqb held.0 held.0 && is_used held.1) (is_used_at slots held.0) (and_from (eqb held.0 held.0) (is_used held.1) (eq-eqb held.0 held.0 refl) (used_by held.1 is)),
          also_used held slots (to_revoke gone slots) (to_revoke-used slots),
        )
        | false ↦ λ is. also_used held slots (to_revoke gone slots) (to_revoke-used slots)
      ]) refl

  -- where none is, nothing is to be revoked
  pub none_to_revoke : (slots : Slots) → list_any (λ held. is_used_by gone held.1) slots ≡ false → to_revoke gone slots ≡ []
  none_to_revoke [] none = refl
  none_to_revoke (held ∷ slots) none =
      let parts = or_parts (is_used_by gone held.1) (list_any (λ other. is_used_by gone other.1) slots) none in
      ap (λ (b : Bool). keys (cond b (held ∷ filter (λ other. is_used_by gone other.1) slots) (filter (λ other. is_used_by gone other.1) slots))) parts.0 ∙ none_to_revoke slots parts.1

  pub none_passes : (slots : Slots) → list_any (λ held. is_used_by gone held.1) slots ≡ false → filter (λ held. is_used_by gone held.1) slots ≡ []
  none_passes [] none = refl
  none_passes (held ∷ slots) none =
      let parts = or_parts (is_used_by gone held.1) (list_any (λ other. is_used_by gone other.1) slots) none in
      ap (λ (b : Bool). cond b (held ∷ filter (λ other. is_used_by gone other.1) slots) (filter (λ other. is_used_by gone other.1) slots)) parts.0 ∙ none_passes slots parts.1

  -- and each slot fails the test
  pub each_not_gone : (slots : Slots) → list_any (λ held. is_used_by gone held.1) slots ≡ false → AllByRecursion (λ held. is_used_by gone held.1 ≡ false) slots
  each_not_gone [] none = tt
  each_not_gone (held ∷ slots) none =
      let parts = or_parts (is_used_by gone held.1) (list_any (λ other. is_used_by gone other.1) slots) none in
      (parts.0, each_not_gone slots parts.1)

-- where no slot is used by a gone number, none is used by one of fewer
pub none_of_fewer : (gone fewer : ℕ → Bool) → ((n : ℕ) → gone n ≡ false → fewer n ≡ false) → (slots : Slots) → list_any (λ held. is_used_by gone held.1) slots ≡ false → list_any (λ held. is_used_by fewer held.1) slots ≡ false
none_of_fewer gone fewer less [] none = refl
none_of_fewer gone fewer less ((id, Used used) ∷ slots) none =
    let parts = or_parts (gone used.number) (list_any (λ held. is_used_by gone held.1) slots) none in
    or_from (fewer used.number) (list_any (λ held. is_used_by fewer held.1) slots) (less used.number parts.0) (none_of_fewer gone fewer less slots parts.1)
none_of_fewer gone fewer less ((id, Revoking stamp) ∷ slots) none = none_of_fewer gone fewer less slots none

-- another identifier stays used
used_other : (id q : ℕ) (slot : Slot) (slots : Slots) → (id ≡ q → ⊥) → is_used_at slots q ≡ true → is_used_at (with_value id slot slots) q ≡ true
used_other id q slot [] other used = absurd (let bad : false ≡ true = used in cc)
used_other id q slot (held ∷ slots) other used = elim (cases_lt id held.0) [
  | inl below ↦ subst (λ (xs : Slots). is_used_at xs q ≡ true) (sym (with_value-before id slot held slots below)) (or_right (eqb id q && is_used slot) (is_used_at (held ∷ slots) q) used)
  | inr not_below ↦ elim (cases_lt held.0 id) [
    | inl above ↦ subst (λ (xs : Slots). is_used_at xs q ≡ true) (sym (with_value-past id slot held slots above)) (elim (or_cases (eqb held.0 q && is_used held.1) (is_used_at slots q) used) [
      | inl here ↦ or_left (eqb held.0 q && is_used held.1) (is_used_at (with_value id slot slots) q) here
      | inr there ↦ or_right (eqb held.0 q && is_used held.1) (is_used_at (with_value id slot slots) q) (used_other id q slot slots other there)
    ])
    | inr not_above ↦
        let same : held.0 ≡ id = omega (arith, not_below, not_above) in
        subst (λ (xs : Slots). is_used_at xs q ≡ true) (sym (with_value-here id slot held slots same)) (elim (or_cases (eqb held.0 q && is_used held.1) (is_used_at slots q) used) [
          | inl here ↦ absurd (both_ways (eqb held.0 q && is_used held.1) (and_left (eqb held.0 q) (is_used held.1) (ne_eqb held.0 q (λ equal. other (sym same ∙ equal)))) here)
          | inr there ↦ or_right (eqb id q && is_used slot) (is_used_at slots q) there
        ])
  ]
]

-- higher identifiers stay used
pub used_above : (id least : ℕ) (slot : Slot) (slots : Slots) (ids : List ℕ) → id < least → rises_from least ids ≡ true → AllByRecursion (λ q. is_used_at slots q ≡ true) ids → AllByRecursion (λ q. is_used_at (with_value id slot slots) q ≡ true) ids
used_above id least slot slots [] below rises all = tt
used_above id least slot slots (q ∷ ids) below rises all =
    let parts = and_parts (leb least q) (rises_from (q + 1) ids) rises in
    let above : least ≤ q = leb-true least q parts.0 in
    (used_other id q slot slots (λ same. absurd (omega (arith, same, above, below))) all.0, used_above id (q + 1) slot slots ids (omega (arith, above, below)) parts.1 all.1)
