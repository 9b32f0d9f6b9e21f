-- The bits of numbers: a bit that is not set tells that no such number is among them.
use Rattle.std.proofs.Common.{◌≡◌, ℕ, ◌-◌, ◌<◌, ◌^◌, ◌%◌, Bool, true, false, ◌||◌, ◌==◌, nat_lt, if◌then◌else◌, List, [], ◌∷◌, fold, length, refl, sym, ap, ◌∙◌, arith, eq-eqb}
use Rattle.std.proofs.lemmas.Bool.Decides.{Decides-eqb}
use Rattle.std.proofs.lemmas.Nat.Bits.{bit_at_or, bit_at-lt, bit_at-pow_same, bit_at_ones}
use Rattle.std.specs.Int.{bit_at}
use Rattle.std.specs.Int.Bits.{bit_or}
use Rattle.std.specs.List.{list_any}
use Rattle.rbc_settle.specs.Table.{Slots, tells, is_told}
use Rattle.rbc_settle.specs.Slot.{Slot}
use Rattle.rbc_settle.specs.Slot.TheVariants.{Used, Revoking}
use Rattle.rbc_settle.specs.Numbers.{has_number}
use Rattle.rbc_records.specs.ToldBits.{has_bit, with_bit, with_slot, bits_of_slots, bits_of_few}

-- a set bit stays with the bits of another word, and those of the other stay as well
or_kept : (n bits more : ℕ) → has_bit bits n ≡ true → has_bit (bit_or bits more) n ≡ true
or_kept n bits more h =
    let was : bit_at bits (n % 64) ≡ 1 = (Decides-eqb _ _).0 h in
    let small : bit_at more (n % 64) < 2 = bit_at-lt more (n % 64) in
    let is : bit_at (bit_or bits more) (n % 64) ≡ 1 = bit_at_or bits more (n % 64) ∙ omega arith in
    eq-eqb _ _ is

or_set : (n bits more : ℕ) → has_bit more n ≡ true → has_bit (bit_or bits more) n ≡ true
or_set n bits more h =
    let own : bit_at more (n % 64) ≡ 1 = (Decides-eqb _ _).0 h in
    let small : bit_at bits (n % 64) < 2 = bit_at-lt bits (n % 64) in
    let is : bit_at (bit_or bits more) (n % 64) ≡ 1 = bit_at_or bits more (n % 64) ∙ omega arith in
    eq-eqb _ _ is

-- a bit that is not set in both together is set in neither
pub in_neither : (n bits more : ℕ) → has_bit (bit_or bits more) n ≡ false → (has_bit bits n ≡ false) × (has_bit more n ≡ false)
in_neither n bits more h = (unset (has_bit bits n) (or_kept n bits more), unset (has_bit more n) (or_set n bits more))
  where
    unset : (b : Bool) → (b ≡ true → has_bit (bit_or bits more) n ≡ true) → b ≡ false
    unset true sets = let bad : true ≡ false = sym (sets refl) ∙ h in cc
    unset false sets = refl

-- so it stays with one more number
pub bit_kept : (n bits m : ℕ) → has_bit bits n ≡ true → has_bit (with_bit bits m) n ≡ true
bit_kept n bits m h = or_kept n bits (2 ^ (m % 64)) h

-- and that number's bit is set
pub bit_set : (n bits m : ℕ) → (m == n) ≡ true → has_bit (with_bit bits m) n ≡ true
bit_set n bits m h =
    let same : m ≡ n = (Decides-eqb _ _).0 h in
    or_set n bits (2 ^ (m % 64)) (eq-eqb _ _ (ap (λ (k : ℕ). bit_at (2 ^ (m % 64)) (k % 64)) (sym same) ∙ bit_at-pow_same (m % 64)))

-- the same of a slot, which tells one number or none
slot_kept : (n bits : ℕ) (slot : Slot) → has_bit bits n ≡ true → has_bit (with_slot bits slot) n ≡ true
slot_kept n bits (Used used) h = bit_kept n bits used.number h
slot_kept n bits (Revoking stamp) h = h

slot_set : (n bits : ℕ) (slot : Slot) → tells n slot ≡ true → has_bit (with_slot bits slot) n ≡ true
slot_set n bits (Used used) h = bit_set n bits used.number h
slot_set n bits (Revoking stamp) h = cc

-- what one step keeps and sets, all steps do
module _ {A : Type 0} (n : ℕ) (step : ℕ → A → ℕ) (is_it : A → Bool)
    (keeps : (bits : ℕ) (a : A) → has_bit bits n ≡ true → has_bit (step bits a) n ≡ true)
    (sets : (bits : ℕ) (a : A) → is_it a ≡ true → has_bit (step bits a) n ≡ true) where
  kept : (bits : ℕ) (all : List A) → has_bit bits n ≡ true → has_bit (fold step bits all) n ≡ true
  kept bits [] h = h
  kept bits (a ∷ all) h = kept (step bits a) all (keeps bits a h)

  gathered : (bits : ℕ) (all : List A) → list_any is_it all ≡ true → has_bit (fold step bits all) n ≡ true
  gathered bits [] h = cc
  gathered bits (a ∷ all) h = by (is_it a) refl h (gathered (step bits a) all)
    where
      by : (b : Bool) → is_it a ≡ b → (b || list_any is_it all) ≡ true → (list_any is_it all ≡ true → has_bit (fold step (step bits a) all) n ≡ true)
          → has_bit (fold step (step bits a) all) n ≡ true
      by true is h rest = kept (step bits a) all (sets bits a is)
      by false is h rest = rest h

-- the bit of a number that slots tell is set
pub told_bit : (slots : Slots) (n : ℕ) → is_told slots n ≡ true → has_bit (bits_of_slots slots) n ≡ true
told_bit slots n h =
    gathered n (λ (bits : ℕ) (held : ℕ × Slot). with_slot bits held.1) (λ (held : ℕ × Slot). tells n held.1)
    (λ bits held. slot_kept n bits held.1) (λ bits held. slot_set n bits held.1) 0 slots h

-- a bit stays set with more numbers
pub bits_kept : (numbers : List ℕ) (n bits : ℕ) → has_bit bits n ≡ true → has_bit (fold with_bit bits numbers) n ≡ true
bits_kept numbers n bits h = kept n with_bit (λ (other : ℕ). other == n) (bit_kept n) (bit_set n) bits numbers h

-- and each of them has its bit
pub numbers_bit : (numbers : List ℕ) (n bits : ℕ) → has_number numbers n ≡ true → has_bit (fold with_bit bits numbers) n ≡ true
numbers_bit numbers n bits h = gathered n with_bit (λ (other : ℕ). other == n) (bit_kept n) (bit_set n) bits numbers h

-- all bits are set in the greatest number
pub every_bit : (n : ℕ) → has_bit (2 ^ 64 - 1) n ≡ true
every_bit n = eq-eqb _ _ (bit_at_ones 64 (n % 64) (omega arith))

-- where a table may hold many, every bit is set
pub few_bit : (slots : Slots) (n : ℕ) → is_told slots n ≡ true → has_bit (bits_of_few slots) n ≡ true
few_bit slots n h = by (nat_lt 16 (length slots))
  where
    by : (b : Bool) → has_bit (if b then 2 ^ 64 - 1 else bits_of_slots slots) n ≡ true
    by true = every_bit n
    by false = told_bit slots n h
