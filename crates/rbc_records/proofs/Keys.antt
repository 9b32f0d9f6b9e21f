-- Keys, and what stands under them.
use Rattle.std.proofs.Common.{◌≡◌, refl, sym, ◌∙◌, List, [], ◌∷◌, Option, Some, ℕ, true, cond, if◌then◌else◌, ◌==◌, arith}
use Rattle.std.proofs.lemmas.Bool.Decides.{nat_tests, Decides-eqb}
use Rattle.std.proofs.lemmas.Bool.{and_parts}
use Rattle.std.specs.Map.{lookup}
use Rattle.rbc_records.specs.declared.record.Key.{Key}
use Rattle.rbc_records.specs.declared.record.Key.TheVariants as key
use Rattle.rbc_records.specs.declared.record.Rec.{Rec}
use Rattle.rbc_records.specs.contracts.record.KeyPartialEq.TheImpl.{eq-value}
use Rattle.rbc_records.specs.Notes.{record_in, kind_and_number, same_key}

-- the keys' `==` is `same_key`
pub eq_is : (a b : Key) → eq-value.it a b ≡ same_key a b
eq_is key.Roster key.Roster = refl
eq_is key.Roster (key.Train b) = refl
eq_is key.Roster key.Stops = refl
eq_is key.Roster key.Limits = refl
eq_is key.Roster (key.Line b) = refl
eq_is key.Roster key.Unplaced = refl
eq_is (key.Train a) key.Roster = refl
eq_is (key.Train a) (key.Train b) = refl
eq_is (key.Train a) key.Stops = refl
eq_is (key.Train a) key.Limits = refl
eq_is (key.Train a) (key.Line b) = refl
eq_is (key.Train a) key.Unplaced = refl
eq_is key.Stops key.Roster = refl
eq_is key.Stops (key.Train b) = refl
eq_is key.Stops key.Stops = refl
eq_is key.Stops key.Limits = refl
eq_is key.Stops (key.Line b) = refl
eq_is key.Stops key.Unplaced = refl
eq_is key.Limits key.Roster = refl
eq_is key.Limits (key.Train b) = refl
eq_is key.Limits key.Stops = refl
eq_is key.Limits key.Limits = refl
eq_is key.Limits (key.Line b) = refl
eq_is key.Limits key.Unplaced = refl
eq_is (key.Line a) key.Roster = refl
eq_is (key.Line a) (key.Train b) = refl
eq_is (key.Line a) key.Stops = refl
eq_is (key.Line a) key.Limits = refl
eq_is (key.Line a) (key.Line b) = refl
eq_is (key.Line a) key.Unplaced = refl
eq_is key.Unplaced key.Roster = refl
eq_is key.Unplaced (key.Train b) = refl
eq_is key.Unplaced key.Stops = refl
eq_is key.Unplaced key.Limits = refl
eq_is key.Unplaced (key.Line b) = refl
eq_is key.Unplaced key.Unplaced = refl

-- a look-up by `==` gives the record that stands first
pub lookup_is : (entries : List (Key × Rec)) (k : Key) → lookup (eq-value.it k) entries ≡ record_in entries k
lookup_is [] k = refl
lookup_is (entry ∷ entries) k = λ i. cond (eq_is k entry.0 i) (Some entry.1) (lookup_is entries k i)

pub same_key_sym : (a b : Key) → same_key a b ≡ same_key b a
same_key_sym a b = grind (arith, nat_tests)

-- a key is the same as itself
pub same_key_own : (k : Key) → same_key k k ≡ true
same_key_own k = grind (arith, nat_tests)

-- the key of a kind and a number
abbrev key_of : ℕ → ℕ → Key
key_of kind number =
    if kind == 0 then key.Roster else
    if kind == 1 then key.Train number else
    if kind == 2 then key.Stops else
    if kind == 3 then key.Limits else
    if kind == 4 then key.Line number else key.Unplaced

key_back : (k : Key) → key_of (kind_and_number k).0 (kind_and_number k).1 ≡ k
key_back key.Roster = refl
key_back (key.Train engine) = refl
key_back key.Stops = refl
key_back key.Limits = refl
key_back (key.Line line) = refl
key_back key.Unplaced = refl

-- keys that are the same are equal
pub same_key_is : (a b : Key) → same_key a b ≡ true → a ≡ b
same_key_is a b h =
    let parts = and_parts _ _ h in
    let kind : (kind_and_number a).0 ≡ (kind_and_number b).0 = (Decides-eqb _ _).0 parts.0 in
    let number : (kind_and_number a).1 ≡ (kind_and_number b).1 = (Decides-eqb _ _).0 parts.1 in
    sym (key_back a) ∙ (λ i. key_of (kind i) (number i)) ∙ key_back b

-- where a map answers like another after one write, so do the records of their entries
pub record_in_written : (old new : List (Key × Rec)) (k : Key) (rec : Option Rec) → ((q : Key) → lookup (eq-value.it q) new ≡ cond (eq-value.it k q) rec (lookup (eq-value.it q) old)) → (q : Key) → record_in new q ≡ cond (same_key q k) rec (record_in old q)
record_in_written old new k rec h q =
    sym (lookup_is new q) ∙ h q ∙ (λ i. cond ((eq_is k q ∙ same_key_sym k q) i) rec (lookup_is old q i))
