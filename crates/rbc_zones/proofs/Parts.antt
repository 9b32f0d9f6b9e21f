-- What is told of an interval, over plain distances.
use Rattle.std.proofs.Common.{◌≡◌, ◌⊎◌, inl, inr, ℕ, zero, suc, ◌+◌, ◌-◌, ◌*◌, ◌/◌, ◌%◌, ◌^◌, ◌<◌, ◌≤◌, min, Bool, true, false, ◌&&◌, nat_le, if◌then◌else◌, arith, refl, sym}
use Rattle.std.proofs.Math.Nat.{div-eq_of_lt-le}
use Rattle.std.proofs.lemmas.Bool.{cases_lt}
use Rattle.std.proofs.lemmas.Grind.{common_steps, div_ceil_times}
use Rattle.rbc_zones.specs.Limits.{divided_up, start_at, length_at, part_scale, HasNoRoom}

-- a quotient rounded up
pub divided_up_is : (distance unit : ℕ) → 1 ≤ unit → distance / unit + min 1 (distance % unit) ≡ divided_up distance unit
divided_up_is distance unit h =
    let k = distance / unit + min 1 (distance % unit) in
    let times = div_ceil_times distance unit h in
    let low : k * unit ≤ distance + (unit - 1) = omega (arith, times) in
    let high : distance + (unit - 1) < (k + 1) * unit = grind (arith, times) in
    sym (div-eq_of_lt-le unit low high)

-- whole units: the start is less than a unit before the beginning, and their end is less than a unit beyond the end
pub record AreUnits (unit begin end start length : ℕ) : Type 0 where
  pub some : 1 ≤ length
  pub start_not_beyond : start * unit ≤ begin
  pub start_near : begin < start * unit + unit
  pub end_not_short : end ≤ (start + length) * unit
  pub end_near : (start + length) * unit < end + unit

-- the start and the length have room at a scale
abbrev pub has_room : ℕ → ℕ → ℕ → Bool
has_room begin end scale = nat_le (start_at scale begin) 32766 && nat_le (length_at scale begin end) 32766

-- the start and the length are right at a scale, which is the least with room
pub record AreToldUnits (begin end scale : ℕ) : Type 0 where
  pub not_spare : scale ≤ 2
  pub start_in_field : start_at scale begin ≤ 32766
  pub length_in_field : length_at scale begin end ≤ 32766
  pub units : AreUnits (10 ^ scale) begin end (start_at scale begin) (length_at scale begin end)
  pub finest : (finer : ℕ) → finer < scale → HasNoRoom finer begin end

units_of_1 : (begin end : ℕ) → begin < end → AreUnits 1 begin end (begin / 1) (divided_up end 1 - begin / 1)
units_of_1 begin end ordered = record { some = omega arith; start_not_beyond = omega arith; start_near = omega arith; end_not_short = omega arith; end_near = omega arith }

units_of_10 : (begin end : ℕ) → begin < end → AreUnits 10 begin end (begin / 10) (divided_up end 10 - begin / 10)
units_of_10 begin end ordered = record { some = omega arith; start_not_beyond = omega arith; start_near = omega arith; end_not_short = omega arith; end_near = omega arith }

units_of_100 : (begin end : ℕ) → begin < end → AreUnits 100 begin end (begin / 100) (divided_up end 100 - begin / 100)
units_of_100 begin end ordered = record { some = omega arith; start_not_beyond = omega arith; start_near = omega arith; end_not_short = omega arith; end_near = omega arith }

room_below : (a b : ℕ) → (nat_le a 32766 && nat_le b 32766) ≡ true → (a ≤ 32766) × (b ≤ 32766)
room_below a b h = grind (arith, common_steps)

one_above : (a b : ℕ) → (nat_le a 32766 && nat_le b 32766) ≡ false → (32766 < a) ⊎ (32766 < b)
one_above a b h = elim (cases_lt 32766 a) [
  | inl above ↦ inl above
  | inr within ↦ inr (grind (arith, common_steps))
]

no_room : (begin end scale : ℕ) → has_room begin end scale ≡ false → HasNoRoom scale begin end
no_room begin end scale h = one_above _ _ h

none_finer : (begin end finer : ℕ) → finer < 0 → HasNoRoom finer begin end
none_finer begin end finer under = absurd (omega arith)

finer_than_1 : (begin end finer : ℕ) → has_room begin end 0 ≡ false → finer < 1 → HasNoRoom finer begin end
finer_than_1 begin end zero first under = no_room begin end 0 first
finer_than_1 begin end (suc n) first under = absurd (omega arith)

finer_than_2 : (begin end finer : ℕ) → has_room begin end 0 ≡ false → has_room begin end 1 ≡ false → finer < 2 → HasNoRoom finer begin end
finer_than_2 begin end zero first second under = no_room begin end 0 first
finer_than_2 begin end (suc zero) first second under = no_room begin end 1 second
finer_than_2 begin end (suc (suc n)) first second under = absurd (omega arith)

by_scale : (first second : Bool) (P : ℕ → Type 0) → (first ≡ true → P 0) → (first ≡ false → second ≡ true → P 1) → (first ≡ false → second ≡ false → P 2)
    → P (if first then 0 else if second then 1 else 2)
by_scale true second P p q r = p refl
by_scale false true P p q r = q refl refl
by_scale false false P p q r = r refl refl

pub are_told : (begin end : ℕ) → begin < end → end ≤ 3000000 → AreToldUnits begin end (part_scale begin end)
are_told begin end ordered within =
    by_scale (has_room begin end 0) (has_room begin end 1) (λ (scale : ℕ). AreToldUnits begin end scale)
    (λ h. let r = room_below _ _ h in
    record { not_spare = omega arith; start_in_field = r.0; length_in_field = r.1; units = units_of_1 begin end ordered; finest = none_finer begin end })
    (λ first h. let r = room_below _ _ h in
    record { not_spare = omega arith; start_in_field = r.0; length_in_field = r.1; units = units_of_10 begin end ordered; finest = λ finer under. finer_than_1 begin end finer first under })
    (λ first second.
    record { not_spare = omega arith; start_in_field = omega arith; length_in_field = omega arith; units = units_of_100 begin end ordered; finest = λ finer under. finer_than_2 begin end finer first second under })
