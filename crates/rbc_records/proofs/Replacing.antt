-- A record in the place of another, under a key that has one.
use Rattle.std.proofs.Common.{◌≡◌, ℕ, ◌<◌, Bool, true, false, true≢false, cond, if◌then◌else◌, List, [], ◌∷◌, Option, Some, length, slice_get, position, refl, sym, ap, ◌∙◌}
use Rattle.std.specs.List.{position_or_len}
use Rattle.std.specs.Map.{keys_of, values_of}
use Rattle.indexmap.specs.IndexMap.{insert_entry, set_value_at}
use Rattle.indexmap.proofs.MapLemmas.{insert_entry-first, Found-position}
use Rattle.rbc_records.specs.declared.record.Key.{Key}
use Rattle.rbc_records.specs.declared.record.Rec.{Rec}
use Rattle.rbc_records.specs.contracts.record.KeyPartialEq.TheImpl.{eq-value}
use Rattle.rbc_records.specs.Notes.{record_in, same_key}
use Rattle.rbc_records.proofs.Keys.{eq_is, lookup_is, same_key_own, same_key_is}

-- a test that was made is not made again
pub made_once : (b : Bool) (x y rest : Option Rec) → cond b x rest ≡ cond b x (cond b y rest)
made_once true x y rest = refl
made_once false x y rest = refl

-- of two tests that never both pass, either may come first
pub either_first : (a b : Bool) (x y rest : Option Rec) → (a ≡ true → b ≡ true → ⊥) → cond a x (cond b y rest) ≡ cond b y (cond a x rest)
either_first true true x y rest apart = absurd (apart refl refl)
either_first true false x y rest apart = refl
either_first false b x y rest apart = refl

-- two keys that are the same as a third are equal
both_same : (q a b : Key) → same_key q a ≡ true → same_key q b ≡ true → eq-value.it a b ≡ true
both_same q a b first second =
    let to_a : q ≡ a = same_key_is q a first in
    let to_b : q ≡ b = same_key_is q b second in
    eq_is a b ∙ ap (λ (k : Key). same_key k b) (sym to_a ∙ to_b) ∙ same_key_own b

module _ (k : Key) (rec : Rec) where
  -- what stands under each key once a record was put under one
  record_in_put : (entries : List (Key × Rec)) (q : Key) → record_in (insert_entry eq-value.it entries k rec) q ≡ cond (same_key q k) (Some rec) (record_in entries q)
  record_in_put [] q = refl
  record_in_put (entry ∷ entries) q = by (eq-value.it k entry.0) refl (record_in_put entries q)
    where
      by : (b : Bool) → eq-value.it k entry.0 ≡ b → record_in (insert_entry eq-value.it entries k rec) q ≡ cond (same_key q k) (Some rec) (record_in entries q)
          → record_in (if b then (entry.0, rec) ∷ entries else entry ∷ insert_entry eq-value.it entries k rec) q ≡ cond (same_key q k) (Some rec) (record_in (entry ∷ entries) q)
      by true is rest_is =
          let equal : k ≡ entry.0 = same_key_is k entry.0 (sym (eq_is k entry.0) ∙ is) in
          made_once (same_key q entry.0) (Some rec) (Some entry.1) (record_in entries q)
          ∙ sym (ap (λ (a : Key). cond (same_key q a) (Some rec) (record_in (entry ∷ entries) q)) equal)
      by false is rest_is =
          ap (λ (found : Option Rec). cond (same_key q entry.0) (Some entry.1) found) rest_is
          ∙ either_first (same_key q entry.0) (same_key q k) (Some entry.1) (Some rec) (record_in entries q)
          (λ there here. true≢false (sym (both_same q k entry.0 here there) ∙ is))

  module _ (entries : List (Key × Rec)) (index : ℕ) (at : position (eq-value.it k) (keys_of entries) ≡ Some index) where
    -- the key stands at that index for the first time
    pub exchanged_is_put : set_value_at entries index rec ≡ insert_entry eq-value.it entries k rec
    exchanged_is_put = sym (insert_entry-first eq-value.it k rec entries index (Found-position (eq-value.it k) entries index at).first)

    pub record_in_exchanged : (q : Key) → record_in (set_value_at entries index rec) q ≡ cond (same_key q k) (Some rec) (record_in entries q)
    record_in_exchanged q = ap (λ (new : List (Key × Rec)). record_in new q) exchanged_is_put ∙ record_in_put entries q

module _ (k : Key) (entries : List (Key × Rec)) (index : ℕ) (at : position (eq-value.it k) (keys_of entries) ≡ Some index) where
  pub stands_within : index < length entries
  stands_within = (Found-position (eq-value.it k) entries index at).within

  pub stands_first : index ≡ position_or_len (eq-value.it k) (keys_of entries)
  stands_first = sym (Found-position (eq-value.it k) entries index at).or_len

  pub stands_at : slice_get (values_of entries) index ≡ record_in entries k
  stands_at = sym (Found-position (eq-value.it k) entries index at).value ∙ lookup_is entries k
